-- Equality of tags as the code tests it.
use Rattle.std.proofs.Common.{◌≡◌, ℕ, true, eqb, ap, ◌∙◌}
use Rattle.std.proofs.lemmas.Bool.{and_parts, and_from, eqb-true, eq-eqb}
use Rattle.page_table.specs.declared.entry.Tag.{Tag}
use Rattle.page_table.specs.Search.{same_tag}

pub same_tag_lem : (a b : Tag) → same_tag a b ≡ true → a ≡ b
same_tag_lem a b e =
    let both = and_parts (eqb a.segment b.segment) (eqb a.page b.page) e in
    let segments : a.segment ≡ b.segment = eqb-true _ _ both.0 in
    let pages : a.page ≡ b.page = eqb-true _ _ both.1 in
    ap (λ (s : ℕ). record { segment = s; page = a.page }) segments
    ∙ ap (λ (p : ℕ). record { segment = b.segment; page = p }) pages

pub tag_same : (a b : Tag) → a ≡ b → same_tag a b ≡ true
tag_same a b e =
    and_from (eqb a.segment b.segment) (eqb a.page b.page) (eq-eqb _ _ (ap (λ (t : Tag). t.segment) e)) (eq-eqb _ _ (ap (λ (t : Tag). t.page) e))

-- A copy, word by word.
use Rattle.std.proofs.Common.{◌≡◌, ℕ, ◌+◌, ◌<◌, ◌≤◌, cond, ltb, List, length, get_or, sym, refl, ap, ◌∙◌, arith}
use Rattle.std.proofs.lemmas.Bool.Decides.{nat_tests}
use Rattle.storage.specs.Words.{written}
use Rattle.storage.specs.Copy.{copied_up_to}
use Rattle.storage.proofs.Tabulated.{length-tabulated, tabulated_by, tabulated-written}
use Rattle.storage.proofs.Splits.{split_word}

pub length-copied : (ws vs us : List ℕ) (n : ℕ) → us ≡ copied_up_to n ws vs → length us ≡ length vs
length-copied ws vs us n e = ap length e ∙ length-tabulated (length vs) (λ k. cond (ltb k n) (get_or ws k 0) (get_or vs k 0))

pub copied_none : (ws vs : List ℕ) → vs ≡ copied_up_to 0 ws vs
copied_none ws vs =
    tabulated_by vs (length vs) (λ k. cond (ltb k 0) (get_or ws k 0) (get_or vs k 0)) refl (λ k _. grind (arith, nat_tests))

pub copied_more :
    (ws vs us : List ℕ) (n word : ℕ) →
    us ≡ copied_up_to n ws vs →
    word ≡ get_or ws n 0 →
    word < 4294967296 →
    written us n word 15 ≡ copied_up_to (n + 1) ws vs
copied_more ws vs us n word e here fits =
    let s = split_word word fits in
    ap (λ (xs : List ℕ). written xs n word 15) e
    ∙ sym
    (tabulated-written
    (length vs)
    (length vs)
    (λ k. cond (ltb k n) (get_or ws k 0) (get_or vs k 0))
    (λ k. cond (ltb k (n + 1)) (get_or ws k 0) (get_or vs k 0))
    n
    word
    15
    refl
    (λ k _. grind (arith, nat_tests)))

pub copied_alike :
    (n : ℕ) (ws vs : List ℕ) → length ws ≤ n → length ws ≡ length vs → copied_up_to n ws vs ≡ ws
copied_alike n ws vs all same =
    sym (tabulated_by ws (length vs) (λ k. cond (ltb k n) (get_or ws k 0) (get_or vs k 0)) same (λ k h. grind (arith, nat_tests)))

-- what a copy word by word needs
pub ruleset copies = (length-copied, copied_none, copied_more, copied_alike)

-- A list of pages, and the blocks that hold them.
use Rattle.std.proofs.Common.{◌≡◌, ℕ, zero, suc, ◌<◌, ◌≤◌, ◌≢◌, List, [], ◌∷◌, length, get_or, replicate, sym, refl, ap, ◌∙◌, arith}
use lib.ListN.{length-replicate, get_or-replicate}
use Rattle.std.proofs.lemmas.Bool.Decides.{nat_tests}
use Rattle.dump_board.specs.Dump.{IsDirectory, Inverse, Lists, block_of}

pub inverse_none : (pages : List ℕ) → Inverse pages (replicate 1024 1024) 0
inverse_none pages =
    record {
      whole = length-replicate {A = ℕ} 1024 1024;
      inside = λ b h. absurd (omega arith);
      back = λ b h. absurd (omega arith);
      held = λ p h ne. absurd (ne (get_or-replicate {A = ℕ} 1024 p 1024 0 h));
    }

-- each of the pages has a block
abbrev pub Every : List ℕ → List ℕ → Type 0
Every pages blocks = (p : ℕ) → p < length pages → get_or blocks p 0 ≢ 1024

pub unlisted :
    (pages blocks : List ℕ) (p : ℕ) →
    Inverse pages blocks (length pages) →
    p < length pages →
    get_or blocks p 0 ≡ 1024 →
    IsDirectory pages →
    ⊥
unlisted pages blocks p inv h none d =
    let l = d.listed p h in
    let at : get_or blocks p 0 ≡ l.0 = ap (λ q. get_or blocks q 0) (sym l.2) ∙ inv.back l.0 l.1 in
    omega (arith, d.short, l.1)

pub all_lists :
    (pages blocks : List ℕ) →
    length pages ≤ 1024 →
    Inverse pages blocks (length pages) →
    Every pages blocks →
    Lists pages (length pages) blocks
all_lists pages blocks short inv every =
    record {
      directory =
          record {
            short = short;
            inside = inv.inside;
            listed = λ p h. let held = inv.held p (omega arith) (every p h) in (get_or blocks p 0, held.0, held.1);
            once = λ b c h l e. sym (inv.back b h) ∙ ap (λ p. get_or blocks p 0) e ∙ inv.back c l;
          };
      long = refl;
      back = inv.back;
    }

-- The block that the directory names is the first that holds the page, which is the only one.
first_block : (pages : List ℕ) (b : ℕ) → b < length pages → ((c : ℕ) → c < b → get_or pages c 0 ≢ get_or pages b 0) → block_of pages (get_or pages b 0) ≡ b
first_block [] b h none = absurd (omega arith)
first_block (page ∷ pages) zero h none = grind (arith, nat_tests)
first_block (page ∷ pages) (suc b) h none =
    let rest = first_block pages b (omega arith) (λ c l. none (suc c) (omega arith)) in
    let head = none 0 (omega arith) in
    grind (arith, nat_tests)

pub block_of_lem :
    (pages : List ℕ) (count : ℕ) (blocks : List ℕ) (p : ℕ) →
    Lists pages count blocks →
    p < count →
    get_or blocks p 0 ≡ block_of pages p
block_of_lem pages count blocks p lists h =
    let d = lists.directory in
    let l = d.listed p (omega (arith, lists.long)) in
    let first = first_block pages l.0 l.1 (λ c lt e. let same = d.once c l.0 (omega (arith, l.1)) l.1 e in omega arith) in
    ap (λ q. get_or blocks q 0) (sym l.2) ∙ lists.back l.0 l.1 ∙ sym first ∙ ap (block_of pages) l.2

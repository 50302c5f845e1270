-- A storage's words, word by word: the bridge from "word k is .." to equations between lists, once for every board.
use Rattle.std.proofs.Common.{◌≡◌, ℕ, ◌<◌, List, [], length, get_or, sym, refl, ◌∙◌, arith, length-set, get_or-set_other, get_or-set_same}
use Rattle.std.proofs.lemmas.List.FromFn.{length-map-range_with_len, get_or-map-range_with_len, fill_by_all}
use Rattle.std.proofs.lemmas.Bool.Decides.{nat_tests}
use Rattle.storage.specs.Words.{written, merged, Written, tabulated}

pub length-tabulated : (c : ℕ) (f : ℕ → ℕ) → length (tabulated c f) ≡ c
unfolding tabulated
length-tabulated c f = length-map-range_with_len f 0 c

pub tabulated_at : (c : ℕ) (f : ℕ → ℕ) (k : ℕ) → k < c → get_or (tabulated c f) k 0 ≡ f k
unfolding tabulated
tabulated_at c f k h = get_or-map-range_with_len f 0 c k k 0 h (omega arith)

-- what a read or a write of a table of words needs
pub ruleset tables = (length-tabulated, tabulated_at, nat_tests)

-- a list is the table of its places
pub tabulated_by :
    (xs : List ℕ) (c : ℕ) (f : ℕ → ℕ) → length xs ≡ c → ((k : ℕ) → k < c → get_or xs k 0 ≡ f k) → xs ≡ tabulated c f
unfolding tabulated
tabulated_by xs c f l h = fill_by_all f xs c 0 l h

pub length-written : (ws : List ℕ) (n value mask : ℕ) → length (written ws n value mask) ≡ length ws
length-written ws n value mask = let l = length-set ws n (merged (get_or ws n 0) value mask) in grind (arith, nat_tests)

pub written_at : (ws : List ℕ) (n value mask : ℕ) → Written (length ws) (λ k. get_or ws k 0) (λ k. get_or (written ws n value mask) k 0) n value mask
written_at ws n value mask k h =
    let same = get_or-set_same ws n (merged (get_or ws n 0) value mask) 0 in
    let other = get_or-set_other ws n k (merged (get_or ws n 0) value mask) 0 in
    grind (arith, nat_tests)

pub tabulated-written :
    (c d : ℕ) (f g : ℕ → ℕ) (n value mask : ℕ) →
    d ≡ c →
    Written c f g n value mask →
    tabulated d g ≡ written (tabulated c f) n value mask
tabulated-written c d f g n value mask e h =
    let l = length-tabulated c f in
    sym
    (tabulated_by
    (written (tabulated c f) n value mask)
    d
    g
    (length-written (tabulated c f) n value mask ∙ l ∙ sym e)
    (λ k kd.
    let kc : k < c = omega arith in
    let w = written_at (tabulated c f) n value mask k (omega arith) in
    w ∙ rw (tabulated_at c f k kc) (sym (h k kc))))

pub nothing_tabulated : (f : ℕ → ℕ) → tabulated 0 f ≡ []
unfolding tabulated
nothing_tabulated f = refl

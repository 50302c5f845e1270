-- One storage copied to the start of another.
use Rattle.std.specs.Prelude.{ℕ, cond, List, length, Ok, Err, Result, nat_le, nat_lt, slice_index}
use Rattle.refusals.specs.declared.refusal.Refusal.{Refusal}
use Rattle.refusals.specs.declared.refusal.Refusal.TheVariants.{WordOutside}
use Rattle.storage.specs.Words.{tabulated}

-- It is refused where the other has fewer words.
abbrev pub copy_of : List ℕ → List ℕ → Result (Unit {0}) Refusal
copy_of ws vs = cond (nat_le (length ws) (length vs)) (Ok tt) (Err WordOutside)

-- the first n words of ws in the place of those of vs
abbrev pub copied_up_to : ℕ → List ℕ → List ℕ → List ℕ
copied_up_to n ws vs = tabulated (length vs) (λ k. cond (nat_lt k n) (slice_index ws k) (slice_index vs k))

abbrev pub copied : List ℕ → List ℕ → List ℕ
copied ws vs = cond (nat_le (length ws) (length vs)) (copied_up_to (length ws) ws vs) vs

-- The stacked pair: the second storage behind the first.
use Rattle.std.specs.Prelude.{ℕ, ◌+◌, ◌-◌, ◌≤◌, min, cond, List, length, nat_lt, slice_index}
use Rattle.std.proofs.Common.{arith}
use Rattle.std.proofs.lemmas.List.FromFn.{length-map-range_with_len}
use Rattle.storage.specs.Words.{tabulated, word_limit}

abbrev pub stacked_count : List ℕ → List ℕ → ℕ
stacked_count xs ys = min (length xs + length ys) word_limit

abbrev pub stacked_at : List ℕ → List ℕ → ℕ → ℕ
stacked_at xs ys k = cond (nat_lt k (length xs)) (slice_index xs k) (slice_index ys (k - length xs))

abbrev pub stacked : List ℕ → List ℕ → List ℕ
stacked xs ys = tabulated (stacked_count xs ys) (stacked_at xs ys)

pub stacked_bounded : (xs ys : List ℕ) → length (stacked xs ys) ≤ word_limit
unfolding tabulated
stacked_bounded xs ys = omega (arith, length-map-range_with_len (stacked_at xs ys) 0 (stacked_count xs ys))

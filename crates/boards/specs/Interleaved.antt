-- The interleaved pair: even words in the first storage, odd words in the second, each at n / 2.
use Rattle.std.specs.Prelude.{ℕ, ◌*◌, ◌/◌, ◌%◌, ◌≤◌, min, cond, List, length, ◌==◌, slice_index}
use Rattle.std.proofs.Common.{arith}
use Rattle.std.proofs.lemmas.List.FromFn.{length-map-range_with_len}
use Rattle.storage.specs.Words.{tabulated, word_limit}

-- twice the smaller count
abbrev pub interleaved_count : List ℕ → List ℕ → ℕ
interleaved_count xs ys = min (2 * min (length xs) (length ys)) word_limit

abbrev pub interleaved_at : List ℕ → List ℕ → ℕ → ℕ
interleaved_at xs ys k = cond (k % 2 == 0) (slice_index xs (k / 2)) (slice_index ys (k / 2))

abbrev pub interleaved : List ℕ → List ℕ → List ℕ
interleaved xs ys = tabulated (interleaved_count xs ys) (interleaved_at xs ys)

pub interleaved_bounded : (xs ys : List ℕ) → length (interleaved xs ys) ≤ word_limit
unfolding tabulated
interleaved_bounded xs ys = omega (arith, length-map-range_with_len (interleaved_at xs ys) 0 (interleaved_count xs ys))

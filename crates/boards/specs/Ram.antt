-- The RAM board: the words of the lent bytes, in their order.
use Rattle.std.specs.Prelude.{ℕ, ◌/◌, ◌≤◌, min, cond, List, length, nat_lt}
use Rattle.std.proofs.Common.{arith}
use Rattle.std.proofs.lemmas.List.FromFn.{length-map-range_with_len}
use Rattle.storage.specs.Words.{merged, tabulated, word_limit}
use Rattle.storage.specs.Bytes.{word_at, with_word}

-- Up to three bytes at the end are unused, and so is what lies beyond 16 MiB.
abbrev pub ram_count : List ℕ → ℕ
ram_count bs = min (length bs / 4) word_limit

abbrev pub ram_words : List ℕ → List ℕ
ram_words bs = tabulated (ram_count bs) (word_at bs)

-- the lent bytes after a write through the board: four bytes at the most, and none where it is refused
abbrev pub ram_bytes : List ℕ → ℕ → ℕ → ℕ → List ℕ
ram_bytes bs n value mask =
    cond (nat_lt n (ram_count bs)) (cond (nat_lt mask 16) (with_word bs n (merged (word_at bs n) value mask)) bs) bs

pub ram_bounded : (bs : List ℕ) → length (ram_words bs) ≤ word_limit
unfolding tabulated
ram_bounded bs = omega (arith, length-map-range_with_len (word_at bs) 0 (ram_count bs))

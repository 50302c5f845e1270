-- Words that lie in a list of bytes, four to a word, the first byte highest.
use Rattle.std.specs.Prelude.{ℕ, ◌+◌, ◌*◌, ◌/◌, ◌%◌, List, slice_index, slice_set}

abbrev pub word_at : List ℕ → ℕ → ℕ
word_at bs k =
    slice_index bs (4 * k) * 16777216 + slice_index bs (4 * k + 1) * 65536 + slice_index bs (4 * k + 2) * 256 + slice_index bs (4 * k + 3)

-- the bytes with the word w at place n
abbrev pub with_word : List ℕ → ℕ → ℕ → List ℕ
with_word bs n w =
    slice_set
    (slice_set (slice_set (slice_set bs (4 * n) (w / 16777216 % 256)) (4 * n + 1) (w / 65536 % 256)) (4 * n + 2) (w / 256 % 256))
    (4 * n + 3)
    (w % 256)

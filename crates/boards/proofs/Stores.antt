-- What a write leaves of the words that lie in bytes.
use Rattle.std.proofs.Common.{◌≡◌, ℕ, ◌<◌, List, arith}
use Rattle.std.proofs.lemmas.Bool.Decides.{nat_tests}
use Rattle.storage.specs.Words.{merged, written}
use Rattle.storage.specs.Bytes.{word_at, with_word}
use Rattle.boards.specs.Ram.{ram_count, ram_words}
use Rattle.storage.proofs.Tabulated.{tabulated-written}
use Rattle.storage.proofs.Splits.{word_put, merged_fits, length_with_word}

pub ram_written :
    (bs : List ℕ) (n value mask : ℕ) →
    n < ram_count bs →
    mask < 16 →
    ram_words (with_word bs n (merged (word_at bs n) value mask)) ≡ written (ram_words bs) n value mask
ram_written bs n value mask h m =
    let fits = merged_fits (word_at bs n) value mask in
    let len = length_with_word bs n (merged (word_at bs n) value mask) in
    tabulated-written
    (ram_count bs)
    (ram_count (with_word bs n (merged (word_at bs n) value mask)))
    (word_at bs)
    (word_at (with_word bs n (merged (word_at bs n) value mask)))
    n
    value
    mask
    (omega arith)
    (λ k kc. let p = word_put bs n (merged (word_at bs n) value mask) k (omega arith) fits in grind (arith, nat_tests))

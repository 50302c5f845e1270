-- The words of a dump board: where they lie, what a write leaves, and what its directory makes of them.
use Rattle.std.proofs.Common.{◌≡◌, ℕ, ◌+◌, ◌*◌, ◌/◌, ◌%◌, ◌<◌, List, [], length, sym, refl, ap, ◌∙◌, arith}
use Rattle.std.proofs.lemmas.Bool.Decides.{nat_tests}
use Rattle.storage.specs.Words.{merged, written, tabulated}
use Rattle.storage.specs.Bytes.{word_at, with_word}
use Rattle.dump_board.specs.Dump.{dumped, dump_count, placed, dump_words, Lists, Apart}
use Rattle.storage.proofs.Tabulated.{length-tabulated, tabulated_at, tabulated_by, tabulated-written, nothing_tabulated}
use Rattle.storage.proofs.Splits.{word_put, merged_fits, length_with_word}
use Rattle.dump_board.proofs.Directories.{block_of_lem}

-- two words have two places
pub places_apart :
    (bs : List ℕ) (count : ℕ) (blocks : List ℕ) (n k : ℕ) →
    Apart count blocks →
    n < dump_count bs count →
    k < dump_count bs count →
    placed blocks k ≡ placed blocks n →
    k ≡ n
places_apart bs count blocks n k apart h l e =
    let p : n / 512 < count = grind (arith, nat_tests) in
    let q : k / 512 < count = grind (arith, nat_tests) in
    let same : k / 512 ≡ n / 512 = apart (k / 512) (n / 512) (q, p, omega arith) in
    omega arith

pub dump_written :
    (bs : List ℕ) (count : ℕ) (blocks : List ℕ) (n p value mask : ℕ) →
    Apart count blocks →
    n < dump_count bs count →
    mask < 16 →
    p ≡ placed blocks n →
    4 * p + 3 < length bs →
    dump_words (with_word bs p (merged (word_at bs p) value mask)) count blocks ≡ written (dump_words bs count blocks) n value mask
dump_written bs count blocks n p value mask apart h m e inside =
    let fits = merged_fits (word_at bs p) value mask in
    tabulated-written
    (dump_count bs count)
    (dump_count (with_word bs p (merged (word_at bs p) value mask)) count)
    (λ k. word_at bs (placed blocks k))
    (λ k. word_at (with_word bs p (merged (word_at bs p) value mask)) (placed blocks k))
    n
    value
    mask
    (rw length_with_word refl)
    (λ k l.
    let put = word_put bs p (merged (word_at bs p) value mask) (placed blocks k) inside fits in
    let one : placed blocks k ≡ p → k ≡ n = λ same. places_apart bs count blocks n k apart h l (same ∙ e) in
    let other : k ≡ n → placed blocks k ≡ p = λ same. ap (placed blocks) same ∙ sym e in
    grind (arith, nat_tests))

-- the words of a board whose directory is filled
pub filled_words :
    (bs pages : List ℕ) (count : ℕ) (blocks : List ℕ) → Lists pages count blocks → dump_words bs count blocks ≡ dumped bs pages
filled_words bs pages count blocks lists =
    let c : dump_count bs count ≡ dump_count bs (length pages) = ap (dump_count bs) lists.long in
    tabulated_by
    (dump_words bs count blocks)
    (dump_count bs (length pages))
    _
    (length-tabulated _ _ ∙ c)
    (λ k h.
    let in_count : k < dump_count bs count = omega arith in
    let page : k / 512 < count = grind (arith, nat_tests) in
    let b = block_of_lem pages count blocks (k / 512) lists page in
    tabulated_at (dump_count bs count) (λ j. word_at bs (placed blocks j)) k in_count ∙ ap (λ q. word_at bs (512 * q + k % 512)) b)

pub no_pages_no_words : (bs : List ℕ) (count : ℕ) (blocks : List ℕ) → count ≡ 0 → dump_words bs count blocks ≡ []
no_pages_no_words bs count blocks e =
    let none : dump_count bs count ≡ 0 = grind (arith, nat_tests) in
    ap (λ c. tabulated c (λ k. word_at bs (placed blocks k))) none ∙ nothing_tabulated (λ k. word_at bs (placed blocks k))

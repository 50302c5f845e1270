-- The dump board: pages of 512 words in blocks of 2,048 bytes, in any order.
use Rattle.std.specs.Prelude.{◌≡◌, ℕ, suc, ◌+◌, ◌*◌, ◌/◌, ◌%◌, ◌<◌, ◌≤◌, cond, ◌≢◌, List, [], ◌∷◌, length, ◌==◌, nat_le, nat_lt, slice_index}
use Rattle.std.proofs.Common.{arith}
use Rattle.std.proofs.lemmas.List.FromFn.{length-map-range_with_len}
use Rattle.std.proofs.lemmas.Bool.{cond_both}
use Rattle.storage.specs.Words.{merged, tabulated, word_limit}
use Rattle.storage.specs.Bytes.{word_at, with_word}

-- A directory lists for each block the page that it holds: at most 1,024 pages, each page number below its length exactly
-- once.
pub record IsDirectory (pages : List ℕ) : Type 0 where
  pub short : length pages ≤ 1024
  pub inside : (b : ℕ) → b < length pages → slice_index pages b < length pages
  pub listed : (p : ℕ) → p < length pages → (b : ℕ) × (b < length pages) × (slice_index pages b ≡ p)
  pub once : (b c : ℕ) → b < length pages → c < length pages → slice_index pages b ≡ slice_index pages c → b ≡ c

-- the block that holds page p
abbrev pub block_of : List ℕ → ℕ → ℕ
block_of [] p = 0
block_of (page ∷ pages) p = cond (page == p) 0 (suc (block_of pages p))

-- a board of fewer bytes than its blocks need has no words
abbrev pub dump_count : List ℕ → ℕ → ℕ
dump_count bs count = cond (nat_le (2048 * count) (length bs)) (512 * count) 0

-- where word k lies among the words of the lent bytes, if f names the block of each page
abbrev pub place_of : (ℕ → ℕ) → ℕ → ℕ
place_of f k = 512 * f (k / 512) + k % 512

-- the words of a dump, by its directory
abbrev pub dumped : List ℕ → List ℕ → List ℕ
dumped bs pages = tabulated (dump_count bs (length pages)) (λ k. word_at bs (place_of (block_of pages) k))

-- The same by the block of each page. The board holds these, so that reading is direct.
abbrev pub placed : List ℕ → ℕ → ℕ
placed blocks = place_of (λ p. slice_index blocks p)

abbrev pub dump_words : List ℕ → ℕ → List ℕ → List ℕ
dump_words bs count blocks = tabulated (dump_count bs count) (λ k. word_at bs (placed blocks k))

-- each block is one of the pages' blocks
abbrev pub Inside : ℕ → List ℕ → Type 0
Inside count blocks = (p : ℕ) → p < count → slice_index blocks p < count

-- no two pages have one block
abbrev pub Apart : ℕ → List ℕ → Type 0
Apart count blocks = (p q : ℕ) → (p < count) × (q < count) × (slice_index blocks p ≡ slice_index blocks q) → p ≡ q

-- the blocks of the first n blocks' pages; a page that has none yet has the number 1,024
pub record Inverse (pages blocks : List ℕ) (n : ℕ) : Type 0 where
  pub whole : length blocks ≡ 1024
  pub inside : (b : ℕ) → b < n → slice_index pages b < length pages
  pub back : (b : ℕ) → b < n → slice_index blocks (slice_index pages b) ≡ b
  pub held : (p : ℕ) → p < 1024 → slice_index blocks p ≢ 1024 → (slice_index blocks p < n) × (slice_index pages (slice_index blocks p) ≡ p)

-- a list of pages is a directory, and these are its blocks
pub record Lists (pages : List ℕ) (count : ℕ) (blocks : List ℕ) : Type 0 where
  pub directory : IsDirectory pages
  pub long : count ≡ length pages
  pub back : (b : ℕ) → b < length pages → slice_index blocks (slice_index pages b) ≡ b

-- the lent bytes after a write through the board
abbrev pub dump_bytes : List ℕ → ℕ → List ℕ → ℕ → ℕ → ℕ → List ℕ
dump_bytes bs count blocks n value mask =
    cond
    (nat_lt n (dump_count bs count))
    (cond (nat_lt mask 16) (with_word bs (placed blocks n) (merged (word_at bs (placed blocks n)) value mask)) bs)
    bs

pub dump_bounded : (bs : List ℕ) (count : ℕ) (blocks : List ℕ) → count ≤ 1024 → length (dump_words bs count blocks) ≤ word_limit
unfolding tabulated
dump_bounded bs count blocks short =
    let low : dump_count bs count ≤ word_limit =
    cond_both (nat_le (2048 * count) (length bs)) (512 * count) 0 (λ n. n ≤ 4194304) (λ _. omega arith) (λ _. omega arith)
    in
    omega (arith, length-map-range_with_len (λ k. word_at bs (placed blocks k)) 0 (dump_count bs count), low)

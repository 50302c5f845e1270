-- What a storage of 32-bit words answers, and what a write leaves. Words are numbers below 2^32; a word's first byte is
-- its highest.
use Rattle.std.specs.Prelude.{◌≡◌, ℕ, ◌+◌, ◌*◌, ◌/◌, ◌%◌, ◌<◌, cond, ◌&&◌, List, map, length, Ok, Err, Result, ◌==◌, nat_lt, slice_index, slice_set}
use Rattle.std.specs.List.{range_with_len}
use Rattle.refusals.specs.declared.refusal.Refusal.{Refusal}
use Rattle.refusals.specs.declared.refusal.Refusal.TheVariants.{WordOutside, MaskTooWide}

-- the most words that a storage has: 16 MiB
abbrev pub word_limit : ℕ
word_limit = 4194304

-- Reading word n gives that word; it is refused exactly where there is none.
abbrev pub read_of : List ℕ → ℕ → Result ℕ Refusal
read_of ws n = cond (nat_lt n (length ws)) (Ok (slice_index ws n)) (Err WordOutside)

-- Writing word n is refused where there is none, and else where the mask has more than four bits.
abbrev pub write_of : List ℕ → ℕ → ℕ → Result (Unit {0}) Refusal
write_of ws n mask = cond (nat_lt n (length ws)) (cond (nat_lt mask 16) (Ok tt) (Err MaskTooWide)) (Err WordOutside)

-- the new byte where the mask's bit is on
abbrev pub chosen : ℕ → ℕ → ℕ → ℕ
chosen bit new old = cond (bit == 1) new old

-- Each byte is that of the value where its mask bit is on, else that of the old word. The mask's highest bit is for the
-- first byte.
abbrev pub merged : ℕ → ℕ → ℕ → ℕ
merged old value mask =
    chosen (mask / 8 % 2) (value / 16777216 % 256) (old / 16777216 % 256) * 16777216
    + chosen (mask / 4 % 2) (value / 65536 % 256) (old / 65536 % 256) * 65536
    + chosen (mask / 2 % 2) (value / 256 % 256) (old / 256 % 256) * 256
    + chosen (mask % 2) (value % 256) (old % 256)

-- The words after a write: one word merged, or all as they were where it is refused.
abbrev pub written : List ℕ → ℕ → ℕ → ℕ → List ℕ
written ws n value mask =
    cond (nat_lt n (length ws)) (cond (nat_lt mask 16) (slice_set ws n (merged (slice_index ws n) value mask)) ws) ws

-- the same word by word, for words f before and g after, of which there are c
abbrev pub Written : ℕ → (ℕ → ℕ) → (ℕ → ℕ) → ℕ → ℕ → ℕ → Type 0
Written c f g n value mask = (k : ℕ) → k < c → g k ≡ cond (k == n && nat_lt mask 16) (merged (f k) value mask) (f k)

-- the list of c words whose k-th is f k
unfoldable pub tabulated : ℕ → (ℕ → ℕ) → List ℕ
tabulated c f = map f (range_with_len 0 c)

-- Bytes, halfwords and words in a storage of words. The first byte of a word is its highest.
use Rattle.std.specs.Prelude.{ℕ, ◌-◌, ◌*◌, ◌/◌, ◌%◌, ◌^◌, cond, List, length, Ok, Err, Result, nat_lt, slice_index}
use Rattle.refusals.specs.declared.refusal.Refusal.{Refusal}
use Rattle.refusals.specs.declared.refusal.Refusal.TheVariants.{WordOutside, ValueTooWide}
use Rattle.storage.specs.Words.{written}
use Rattle.lanes.specs.declared.width.Width.{Width}
use Rattle.lanes.specs.declared.width.Width.TheVariants.{Byte, Halfword, Word}

abbrev pub bytes_of : Width → ℕ
bytes_of Byte = 1
bytes_of Halfword = 2
bytes_of Word = 4

-- one more than the largest value of a width
abbrev pub value_limit : Width → ℕ
value_limit Byte = 2 ^ 8
value_limit Halfword = 2 ^ 16
value_limit Word = 2 ^ 32

-- A halfword's lowest address bit and a word's lowest two count as zero.
abbrev pub aligned : Width → ℕ → ℕ
aligned w address = address / bytes_of w * bytes_of w

-- how far from the right end of its word the unit at an address lies, in bits
abbrev pub shift_of : Width → ℕ → ℕ
shift_of Byte address = 24 - 8 * (address % 4)
shift_of Halfword address = 16 - 16 * (address % 4 / 2)
shift_of Word address = 0

-- the mask of its bytes
abbrev pub mask_of : Width → ℕ → ℕ
mask_of Byte address = 8 / 2 ^ (address % 4)
mask_of Halfword address = 12 / 2 ^ (2 * (address % 4 / 2))
mask_of Word address = 15

-- what a load at a real address gives
abbrev pub loaded : List ℕ → Width → ℕ → ℕ
loaded ws w address = slice_index ws (address / 4) / 2 ^ shift_of w address % value_limit w

-- the words after a store at a real address
abbrev pub stored : List ℕ → Width → ℕ → ℕ → List ℕ
stored ws w address value = written ws (address / 4) (value * 2 ^ shift_of w address) (mask_of w address)

abbrev pub load_of : List ℕ → Width → ℕ → Result ℕ Refusal
load_of ws w address = cond (nat_lt (address / 4) (length ws)) (Ok (loaded ws w address)) (Err WordOutside)

-- A value that is too wide for its width is refused, and else a word that is not there; nothing is stored then.
abbrev pub store_of : List ℕ → Width → ℕ → ℕ → Result (Unit {0}) Refusal
store_of ws w address value =
    cond
    (nat_lt value (value_limit w))
    (cond (nat_lt (address / 4) (length ws)) (Ok tt) (Err WordOutside))
    (Err ValueTooWide)

abbrev pub stored_if : List ℕ → Width → ℕ → ℕ → List ℕ
stored_if ws w address value = cond (nat_lt value (value_limit w)) (stored ws w address value) ws

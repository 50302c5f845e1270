-- What a segment register and a page table entry permit.
use Rattle.std.specs.Prelude.{◌≡◌, Bool, true, false, not, cond, ◌&&◌, ◌||◌, ℕ, ◌-◌, ◌/◌, ◌%◌, ◌^◌, eqb}
use Rattle.paging.specs.declared.geometry.PageGeometry.{PageGeometry}
use Rattle.paging.specs.Address.{line_of}
use Rattle.page_table.specs.declared.entry.PageEntry.{PageEntry}
use Rattle.protection.specs.declared.access_type.AccessType.{AccessType}
use Rattle.protection.specs.declared.access_type.AccessType.TheVariants.{Load, Store}
use Rattle.protection.specs.declared.register.SegmentRegister.{SegmentRegister}

abbrev pub is_load : AccessType → Bool
is_load Load = true
is_load Store = false

-- In an ordinary segment the key of the page and the key bit K of the register decide. Key 00 permits all with K 0 and nothing
-- with K 1; 01 permits all with K 0 and loads with K 1; 10 permits all; 11 permits loads.
abbrev pub key_permits : ℕ → Bool → AccessType → Bool
key_permits key k t =
    cond (eqb key 0) (not k) (cond (eqb key 1) (not k || is_load t) (cond (eqb key 2) true (is_load t)))

-- Lock bit n, counted from the left, belongs to line n of the page.
abbrev pub lock_bit : ℕ → ℕ → Bool
lock_bit locks line = eqb (locks / 2 ^ (15 - line) % 2) 1

-- In a special segment write bit and lock bit decide. Both on permit all, just one on permits loads, neither permits nothing.
abbrev pub locks_permit : Bool → Bool → AccessType → Bool
locks_permit write lock Load = write || lock
locks_permit write lock Store = write && lock

-- The transaction IDs have to be equal in a special segment.
abbrev pub permitted : PageGeometry → SegmentRegister → PageEntry → ℕ → ℕ → AccessType → Bool
permitted f r page transaction offset t =
    cond
    r.special
    (eqb page.transaction transaction && locks_permit page.write (lock_bit page.locks (line_of f offset)) t)
    (key_permits page.key r.key t)

-- What permits a store permits a load.
abbrev pub StoreImpliesLoad : PageGeometry → SegmentRegister → PageEntry → ℕ → ℕ → Type 0
StoreImpliesLoad f r page transaction offset =
    permitted f r page transaction offset Store ≡ true → permitted f r page transaction offset Load ≡ true

-- The numbers of a plan: a page form, a size exponent k and a base number b.
use Rattle.std.specs.Prelude.{ℕ, ◌*◌, ◌/◌, ◌^◌, cond, Some, None, Option, nat_lt}
use Rattle.refusals.specs.declared.refusal.Refusal.{Refusal}
use Rattle.refusals.specs.declared.refusal.Refusal.TheVariants.{ExponentOutside, BaseTooHigh}
use Rattle.paging.specs.declared.geometry.PageGeometry.{PageGeometry}

-- The storage has 2^k bytes.
abbrev pub storage_bytes : ℕ → ℕ
storage_bytes k = 2 ^ k

-- P, the number of real pages
abbrev pub page_count : PageGeometry → ℕ → ℕ
page_count f k = 2 ^ k / f.page

-- The page table starts at real address b × 16 × P and has P entries of four words.
abbrev pub table_start : PageGeometry → ℕ → ℕ → ℕ
table_start f k b = b * 16 * page_count f k

abbrev pub table_bytes : PageGeometry → ℕ → ℕ
table_bytes f k = 16 * page_count f k

-- A draft is refused where k is outside 16 to 24, and else where b is above the form's highest base number.
abbrev pub draft_refusal : PageGeometry → ℕ → ℕ → Option Refusal
draft_refusal f k b =
    cond
    (nat_lt k 16)
    (Some ExponentOutside)
    (cond (nat_lt 24 k) (Some ExponentOutside) (cond (nat_lt f.highest b) (Some BaseTooHigh) None))

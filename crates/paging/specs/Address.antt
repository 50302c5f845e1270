-- What an address says of pages.
use Rattle.std.specs.Prelude.{ℕ, ◌/◌, ◌%◌, ◌^◌}
use Rattle.paging.specs.declared.geometry.PageGeometry.{PageGeometry}

-- The top four bits of an effective address name a segment register, the others lie in the segment.
abbrev pub register_of : ℕ → ℕ
register_of address = address / 2 ^ 28

abbrev pub offset_of : ℕ → ℕ
offset_of address = address % 2 ^ 28

-- the page that a byte lies in, for a real address and for the offset of a virtual one
abbrev pub page_of : PageGeometry → ℕ → ℕ
page_of f address = address / f.page

abbrev pub place_in_page : PageGeometry → ℕ → ℕ
place_in_page f address = address % f.page

-- the line of its page that a byte lies in, from 0 to 15
abbrev pub line_of : PageGeometry → ℕ → ℕ
line_of f address = address % f.page / f.line

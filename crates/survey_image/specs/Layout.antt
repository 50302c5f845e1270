-- Where the image of 64 KiB has its markers, and the page table by which virtual addresses lead to them. Real page r holds
-- virtual page r mod 8 + P × (r / 8) of segment 5. So the pages r, r + 8, r + 16 .. have one hash, and make up one chain.
use Rattle.std.specs.Prelude.{ℕ, ◌+◌, ◌-◌, ◌*◌, ◌/◌, ◌%◌, ◌^◌, cond, List, [], ◌∷◌, nat_lt, slice_index}
use Rattle.paging.specs.declared.geometry.PageGeometry.{PageGeometry}
use Rattle.paging.specs.Plan.{page_count, table_start}
use Rattle.survey_image.specs.declared.block.Block.{Block}
use Rattle.survey_image.specs.declared.marker.Site.{Site}

abbrev pub virtual_page : PageGeometry → ℕ → ℕ
virtual_page f page = page % 8 + page_count f 16 * (page / 8)

-- the effective address, through a register, of the byte at a real address
abbrev pub effective : PageGeometry → ℕ → ℕ → ℕ
effective f register address =
    register * 2 ^ 28 + virtual_page f (address / f.page) * f.page + address % f.page

-- Entry i has key 01, segment ID 5 and its virtual page as tag. The hash of the virtual pages that begin with real page c is
-- c XOR 5, so the first eight anchors point to the entries 5, 4, 7, 6, 1, 0, 3, 2, and the others are empty. An entry points
-- to the eighth behind it, and the last eight end their chains.
abbrev pub first_entries : List ℕ
first_entries = 5 ∷ 4 ∷ 7 ∷ 6 ∷ 1 ∷ 0 ∷ 3 ∷ 2 ∷ []

abbrev pub tag_word : PageGeometry → ℕ → ℕ
tag_word f i = 2 ^ 30 + 5 * 2 ^ 17 + virtual_page f i * 2 ^ (17 - f.width)

abbrev pub chain_word : PageGeometry → ℕ → ℕ
chain_word f i =
    cond (nat_lt i 8) (slice_index first_entries i * 2 ^ 16) (2 ^ 31) + cond (nat_lt (i + 8) (page_count f 16)) (i + 8) (2 ^ 15)

abbrev pub table_block : PageGeometry → ℕ → ℕ → Block
table_block f b i =
    record { word = table_start f 16 b / 4 + 4 * i; words = tag_word f i ∷ chain_word f i ∷ 0 ∷ 0 ∷ [] }

-- the number that four characters of a name make as a word
abbrev pub name_word : List ℕ → ℕ → ℕ
name_word name i = slice_index name i * 16777216 + slice_index name (i + 1) * 65536 + slice_index name (i + 2) * 256 + slice_index name (i + 3)

-- A marker has four words: two for its name of eight characters, easting and northing.
abbrev pub marker_block : Site → Block
marker_block s =
    record {
      word = s.address / 4;
      words = name_word s.marker.name 0 ∷ name_word s.marker.name 4 ∷ s.marker.easting ∷ s.marker.northing ∷ [];
    }

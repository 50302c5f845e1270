-- The calls of a check.
use Rattle.std.specs.Prelude.{◌≡◌, ℕ, ◌+◌, ◌*◌, ◌/◌, ◌%◌, ◌<◌, true, false, List, [], length, get_or, slice_index_or}
use Rattle.paging.specs.declared.geometry.PageGeometry.{PageGeometry}
use Rattle.lanes.specs.declared.width.Width.TheVariants.{Word}
use Rattle.protection.specs.declared.register.SegmentRegister.{SegmentRegister}
use Rattle.survey_image.specs.declared.marker.Site.{Site}
use Rattle.survey_image.specs.Layout.{effective}
use Rattle.runs.specs.declared.call.Call.{Call}
use Rattle.runs.specs.declared.call.Call.TheVariants.{Load}

-- what stands past the end of a list of sites
abbrev pub no_site : Site
no_site = record { address = 0; marker = record { name = []; easting = 0; northing = 0 } }

-- The n-th word of the markers is loaded: four words to a marker, the markers in turn through register 1 and register 2.
abbrev pub word_address : PageGeometry → List Site → ℕ → ℕ
word_address f sites n =
    effective f ((1 + n / 4 % 2) % 16) (((get_or sites (n / 4) no_site).address + 4 * (n % 4)) % 65536)

abbrev pub marker_call : PageGeometry → List Site → ℕ → Call
marker_call f sites n = Load (record { number = word_address f sites n }) Word

-- the calls that read all markers
abbrev pub MarkerCalls : PageGeometry → List Site → ℕ → List Call → Type 0
MarkerCalls f sites count calls =
    (length calls ≡ count) × ((n : ℕ) → n < count → slice_index_or calls n (Load (record { number = 0 }) Word) ≡ marker_call f sites n)

-- Both registers have segment ID 5. Register 1 has the key bit 0, register 2 the key bit 1.
abbrev pub read_write : SegmentRegister
read_write = record { present = true; barred = false; segment = 5; special = false; key = false }

abbrev pub read_only : SegmentRegister
read_only = record { present = true; barred = false; segment = 5; special = false; key = true }

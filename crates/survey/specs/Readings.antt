-- What the replies of a check say of the markers.
use Rattle.std.specs.Prelude.{◌≡◌, ℕ, ◌+◌, ◌*◌, ◌<◌, List, [], length, None, Ok, Err, Result, slice_index_or}
use Rattle.survey_image.specs.declared.marker.Marker.{Marker}
use Rattle.unit_state.specs.Answers.{Answer}
use Rattle.runs.specs.declared.call.Reply.{Reply}
use Rattle.runs.specs.declared.call.Reply.TheVariants.{Request, Exceptions, Mark, Cleared}
use Rattle.survey.specs.declared.trouble.Trouble.{Trouble}
use Rattle.survey.specs.declared.trouble.Trouble.TheVariants.{Refused, NoValue}
use Rattle.survey.specs.Markers.{marker_of}

abbrev pub answered : Answer → Result ℕ Trouble
answered (Ok a) = Ok a.value
answered (Err e) = Err (Refused e.refusal)

-- The value of a reply: only an accepted request has one.
abbrev pub value_of : Reply → Result ℕ Trouble
value_of (Request r) = answered r
value_of (Exceptions e) = Err NoValue
value_of (Mark m) = Err NoValue
value_of (Cleared c) = Err NoValue

-- what stands past the end of a list of replies
abbrev pub no_reply : Reply
no_reply = Request (Ok (record { value = 0; compared = record { count = 0; last = None } }))

-- four replies from the n-th on are accepted loads, and their values spell a marker
pub record Spelled (replies : List Reply) (n : ℕ) (m : Marker) : Type 0 where
  pub first : ℕ
  pub second : ℕ
  pub first-is : value_of (slice_index_or replies n no_reply) ≡ Ok first
  pub second_is : value_of (slice_index_or replies (n + 1) no_reply) ≡ Ok second
  pub easting-is : value_of (slice_index_or replies (n + 2) no_reply) ≡ Ok m.easting
  pub northing-is : value_of (slice_index_or replies (n + 3) no_reply) ≡ Ok m.northing
  pub spells : m ≡ marker_of first second m.easting m.northing

-- what stands past the end of a list of markers
abbrev pub no_marker : Marker
no_marker = record { name = []; easting = 0; northing = 0 }

-- so many markers, four replies each
abbrev pub AllSpelled : List Reply → ℕ → List Marker → Type 0
AllSpelled replies count markers =
    (length markers ≡ count) × ((j : ℕ) → j < count → Spelled replies (4 * j) (slice_index_or markers j no_marker))

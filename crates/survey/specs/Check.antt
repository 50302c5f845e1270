-- What a check of an image gives.
use Rattle.std.specs.Prelude.{◌≡◌, ◌≢◌, ◌⊎◌, ℕ, ◌<◌, List, length, vec_items, slice_index_or, slice_set}
use Rattle.paging.specs.declared.geometry.PageGeometry.{PageGeometry}
use Rattle.paging.specs.declared.draft.Draft.{Draft}
use Rattle.paging.specs.Numbers.{drafted}
use Rattle.paging.specs.Plan.{page_count}
use Rattle.unit_state.specs.declared.state.PageMark.{PageMark}
use Rattle.unit_state.specs.declared.state.UnitState.{UnitState}
use Rattle.unit_state.specs.State.{no_mark, powered_on, with_segments}
use Rattle.unit_state.specs.Marks.{mark_of}
use Rattle.survey.specs.declared.findings.Findings.{Findings}
use Rattle.survey.specs.declared.trouble.Trouble.{Trouble}
use Rattle.survey.specs.declared.trouble.Trouble.TheVariants.{NoValue}
use Rattle.survey_image.specs.declared.marker.Marker.{Marker}
use Rattle.survey_image.specs.declared.marker.Site.{Site}
use Rattle.survey.specs.Calls.{read_write, read_only}
use Rattle.survey.specs.Markers.{sites_used, AllRead}

-- the unit after power-on and the writes of registers 1 and 2
abbrev pub prepared : UnitState
prepared =
    with_segments powered_on (slice_set (slice_set powered_on.segments 1 read_write) 2 read_only)

-- a check stops for want of memory or by a rule that refuses, and never for a reply without a value
abbrev pub StopsCheck : Trouble → Type 0
StopsCheck trouble = trouble ≢ NoValue

-- on a board of its own a check stops so, or as the check says that it may
abbrev pub StopsOnBoard : (Trouble → Type 0) → Trouble → Type 0
StopsOnBoard Stops trouble = StopsCheck trouble ⊎ Stops trouble

-- the marks of all pages
abbrev pub AllMarks : ℕ → UnitState → List PageMark → Type 0
AllMarks count s marks = (length marks ≡ count) × ((p : ℕ) → p < count → slice_index_or marks p no_mark ≡ mark_of s p)

-- what is to be found, the marks that a unit has after that, and the plan back as a draft
pub record Checked {F X : Type 0} (f : PageGeometry) (draft : Draft F) (Found : List X → Type 0) (left : UnitState) (given : Findings X × Draft F) : Type 0 where
  pub found : Found (vec_items given.0.found)
  pub pages : AllMarks (page_count f draft.exponent) left (vec_items given.0.pages)
  pub back : given.1 ≡ draft

-- the marker at each site, read by real loads, and the marks that they leave
abbrev pub SitesChecked : {F : Type 0} → PageGeometry → Draft F → List ℕ → List Site → Findings Marker × Draft F → Type 0
SitesChecked f draft ws sites =
    Checked f draft (AllRead (drafted f draft) ws sites) (sites_used (drafted f draft) ws powered_on sites)

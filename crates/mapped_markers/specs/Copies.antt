-- What the same calls come to on two copies of an image.
use Rattle.std.specs.Prelude.{◌≡◌, ℕ, true, List, Decides, vec_items}
use Rattle.paging.specs.declared.draft.Draft.{Draft}
use Rattle.paging.specs.declared.geometry.PageGeometry.{PageGeometry}
use Rattle.paging.specs.Numbers.{drafted}
use Rattle.unit_state.specs.declared.state.UnitState.{UnitState}
use Rattle.unit_state.specs.Grants.{Closed}
use Rattle.mapped_markers.specs.declared.both.OnBoth.{OnBoth}

-- It is known whether a word of the table is granted for storing. If none is, then the replies are the same.
pub record OnCopies {F : Type 0} (f : PageGeometry) (draft : Draft F) (image : List ℕ) (first : UnitState) (given : OnBoth F) : Type 0 where
  pub closed : Decides given.closed (Closed (drafted f draft) image first)
  pub same : given.closed ≡ true → vec_items given.runs.first ≡ vec_items given.runs.second
  pub back : given.runs.draft ≡ draft

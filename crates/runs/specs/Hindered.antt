-- Why nothing was run.
use Rattle.std.specs.Prelude.{◌≡◌, Some}
use Rattle.paging.specs.declared.draft.Draft.{Draft}
use Rattle.paging.specs.declared.geometry.PageGeometry.{PageGeometry}
use Rattle.paging.specs.Plan.{draft_refusal}
use Rattle.runs.specs.declared.twice.Hindrance.{Hindrance}
use Rattle.runs.specs.declared.twice.Hindrance.TheVariants.{Memory, Refused}

-- There was not the memory for the replies, or the draft does not settle, by the rule that it breaks.
abbrev pub Hinders : {F : Type 0} → PageGeometry → Draft F → Hindrance → Type 0
Hinders f draft Memory = Unit {0}
Hinders f draft (Refused refusal) = draft_refusal f draft.exponent draft.base ≡ Some refusal

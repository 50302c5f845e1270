-- Page marks: which real pages were used, and which were stored to.
use Rattle.std.specs.Prelude.{ℕ, Bool, true, cond, ◌||◌, Some, None, Option, nat_lt, slice_index_or, slice_set}
use Rattle.refusals.specs.declared.refusal.Refusal.{Refusal}
use Rattle.refusals.specs.declared.refusal.Refusal.TheVariants.{PageMarkOutside}
use Rattle.paging.specs.Numbers.{PlanNumbers}
use Rattle.paging.specs.Plan.{page_count}
use Rattle.unit_state.specs.declared.state.PageMark.{PageMark}
use Rattle.unit_state.specs.declared.state.UnitState.{UnitState}
use Rattle.unit_state.specs.State.{no_mark, with_marks}

abbrev pub mark_of : UnitState → ℕ → PageMark
mark_of s page = slice_index_or s.marks page no_mark

-- the unit after a page was used, by a store or by a load
unfoldable pub used_page : UnitState → ℕ → Bool → UnitState
used_page s page store =
    with_marks s (slice_set s.marks page (record { referenced = true; changed = (mark_of s page).changed || store }))

-- the unit after both marks of a page were cleared
abbrev pub cleared_page : UnitState → ℕ → UnitState
cleared_page s page = with_marks s (slice_set s.marks page no_mark)

-- A page that the plan has not has no mark.
abbrev pub mark_refusal : PlanNumbers → ℕ → Option Refusal
mark_refusal plan page = cond (nat_lt page (page_count plan.form plan.exponent)) None (Some PageMarkOutside)

-- The numbers of a settled plan, which all that a unit does depends on.
use Rattle.std.specs.Prelude.{ℕ}
use Rattle.paging.specs.declared.draft.Draft.{Draft}
use Rattle.paging.specs.declared.form.PageForm.{Ghosts}
use Rattle.paging.specs.declared.geometry.PageGeometry.{PageGeometry}
use Rattle.paging.specs.declared.plan.SettledPlan.{SettledPlan}

-- those of its page form, the size exponent and the base number
pub record PlanNumbers : Type 0 where
  pub form : PageGeometry
  pub exponent : ℕ
  pub base : ℕ

abbrev pub numbers_of : {F : Type 0} {g : Ghosts F} → SettledPlan F g → PlanNumbers
numbers_of {g = g} plan = record { form = g.sizes; exponent = plan.exponent; base = plan.base.number }

-- those that a plan has if its draft is settled
abbrev pub drafted : {F : Type 0} → PageGeometry → Draft F → PlanNumbers
drafted f draft = record { form = f; exponent = draft.exponent; base = draft.base }

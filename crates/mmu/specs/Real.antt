-- Requests by real address.
use Rattle.std.specs.Prelude.{ℕ, ◌*◌, true, false, cond, List, length, Some, None, Option, ◌==◌, nat_lt}
use Rattle.refusals.specs.declared.refusal.Refusal.{Refusal}
use Rattle.refusals.specs.declared.refusal.Refusal.TheVariants.{SizeDiffers, ValueTooWide, RealAddressOutside}
use Rattle.paging.specs.Numbers.{PlanNumbers}
use Rattle.paging.specs.Address.{page_of}
use Rattle.paging.specs.Plan.{storage_bytes}
use Rattle.unit_state.specs.declared.state.UnitState.{UnitState}
use Rattle.lanes.specs.declared.width.Width.{Width}
use Rattle.unit_state.specs.Answers.{Answer, answered, unless}
use Rattle.lanes.specs.Lanes.{value_limit, loaded, stored}
use Rattle.unit_state.specs.Marks.{used_page}

-- The first rule that refuses a load: the storage has the plan's size, and the address lies in it.
abbrev pub load_refusal : PlanNumbers → List ℕ → ℕ → Option Refusal
load_refusal plan ws address =
    cond
    (4 * length ws == storage_bytes plan.exponent)
    (cond (nat_lt address (storage_bytes plan.exponent)) None (Some RealAddressOutside))
    (Some SizeDiffers)

-- A store's value has to fit its width, before all else.
abbrev pub store_refusal : PlanNumbers → List ℕ → Width → ℕ → ℕ → Option Refusal
store_refusal plan ws w address value = cond (nat_lt value (value_limit w)) (load_refusal plan ws address) (Some ValueTooWide)

abbrev pub real_load : PlanNumbers → List ℕ → Width → ℕ → Answer
real_load plan ws w address = answered (load_refusal plan ws address) (loaded ws w address)

-- An accepted load marks its page as used.
abbrev pub after_real_load : PlanNumbers → List ℕ → ℕ → UnitState → UnitState
after_real_load plan ws address s = unless (load_refusal plan ws address) s (used_page s (page_of plan.form address) false)

abbrev pub real_store : PlanNumbers → List ℕ → Width → ℕ → ℕ → Answer
real_store plan ws w address value = answered (store_refusal plan ws w address value) 0

-- An accepted store marks its page as used and as changed.
abbrev pub after_real_store : PlanNumbers → List ℕ → Width → ℕ → ℕ → UnitState → UnitState
after_real_store plan ws w address value s = unless (store_refusal plan ws w address value) s (used_page s (page_of plan.form address) true)

abbrev pub real_stored : PlanNumbers → List ℕ → Width → ℕ → ℕ → List ℕ
real_stored plan ws w address value = unless (store_refusal plan ws w address value) ws (stored ws w address value)

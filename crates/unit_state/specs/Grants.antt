-- What the registers and the page table grant: which words of a storage requests may reach.
use Rattle.std.specs.Prelude.{◌≡◌, ℕ, ◌+◌, ◌*◌, ◌/◌, ◌<◌, ◌≤◌, cond, List, Some, None, Ok, Err, Option}
use Rattle.refusals.specs.declared.refusal.Refusal.{Refusal}
use Rattle.paging.specs.declared.geometry.PageGeometry.{PageGeometry}
use Rattle.paging.specs.Numbers.{PlanNumbers}
use Rattle.paging.specs.Address.{offset_of, place_in_page}
use Rattle.paging.specs.Plan.{page_count, table_start}
use Rattle.page_table.specs.declared.walk.Found.{Found}
use Rattle.page_table.specs.Search.{Outcome}
use Rattle.protection.specs.declared.register.SegmentRegister.{SegmentRegister}
use Rattle.protection.specs.declared.access_type.AccessType.{AccessType}
use Rattle.protection.specs.declared.access_type.AccessType.TheVariants.{Store}
use Rattle.protection.specs.Permission.{permitted}
use Rattle.unit_state.specs.declared.state.UnitState.{UnitState}
use Rattle.unit_state.specs.Translation.{segment_at, tag_at, entry_refusal, found_for, protection_refusal}
use Rattle.unit_state.specs.Laws.{Passes}

-- The table has P entries of four words each.
abbrev pub TableWord : PlanNumbers → ℕ → Type 0
TableWord plan n =
    (table_start plan.form plan.exponent plan.base / 4 ≤ n)
    × (n < table_start plan.form plan.exponent plan.base / 4 + 4 * page_count plan.form plan.exponent)

-- the real address at the place in its page that an effective address names, in the page that was found for it
abbrev pub real_in : PlanNumbers → Found → ℕ → ℕ
real_in plan x address = x.entry * plan.form.page + place_in_page plan.form (offset_of address)

-- A word is granted for an access type where some effective address leads to it, and the rules let a request there pass: a
-- register is present and not barred, the tables name the page of its segment ID, and protection permits the access for the
-- line. In a storage that has not the plan's size no word is granted.
pub record Granted (plan : PlanNumbers) (ws : List ℕ) (s : UnitState) (t : AccessType) (n : ℕ) : Type 0 where
  pub address : ℕ
  pub passes : Passes plan ws s address t
  pub word : n ≡ real_in plan passes.found address / 4

-- No word of the table is granted for storing.
abbrev pub Closed : PlanNumbers → List ℕ → UnitState → Type 0
Closed plan ws s = (n : ℕ) → TableWord plan n → Granted plan ws s Store n → ⊥

-- what protection says of a page, or the refusal of the search that did not find it
abbrev pub judged_rule : PageGeometry → SegmentRegister → ℕ → ℕ → AccessType → Outcome → Option Refusal
judged_rule f r transaction offset t (Ok x) =
    cond (permitted f r x.page transaction offset t) None (Some (protection_refusal r))
judged_rule f r transaction offset t (Err e) = Some e.refusal

-- the first rule that is broken, of two in their order
abbrev pub or_then : Option Refusal → Option Refusal → Option Refusal
or_then None next = next
or_then (Some e) next = Some e

-- The first rule that a request breaks, by the tables: the size of the storage, a segment that is present and not barred, the
-- search, protection.
abbrev pub broken_rule : PlanNumbers → List ℕ → UnitState → ℕ → AccessType → Option Refusal
broken_rule plan ws s address t =
    or_then
    (entry_refusal plan.exponent ws (segment_at s address))
    (judged_rule
    plan.form
    (segment_at s address)
    s.transaction
    (offset_of address)
    t
    (found_for plan ws s (tag_at plan.form (segment_at s address) address)))

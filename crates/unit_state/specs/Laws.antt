-- What holds of translated requests, in the terms of registers, tables and protection.
use Rattle.std.specs.Prelude.{◌≡◌, ℕ, ◌*◌, ◌<◌, true, false, List, length, is_ok, Ok, Err, Result}
use Rattle.refusals.specs.declared.refusal.Refusal.{Refusal}
use Rattle.paging.specs.Numbers.{PlanNumbers}
use Rattle.paging.specs.declared.address.EffectiveAddress.{EffectiveAddress}
use Rattle.paging.specs.Address.{offset_of}
use Rattle.paging.specs.Plan.{storage_bytes}
use Rattle.page_table.specs.declared.entry.Tag.{Tag}
use Rattle.page_table.specs.declared.walk.Found.{Found}
use Rattle.page_table.specs.Search.{query_of}
use Rattle.page_table.specs.Laws.{AlikeTables}
use Rattle.lanes.specs.declared.width.Width.{Width}
use Rattle.lanes.specs.Lanes.{value_limit}
use Rattle.protection.specs.declared.access_type.AccessType.{AccessType}
use Rattle.protection.specs.declared.access_type.AccessType.TheVariants.{Load, Store}
use Rattle.protection.specs.Permission.{permitted}
use Rattle.tlb.specs.declared.buffers.Translation.{Translation}
use Rattle.tlb.specs.Lookup.{Each, empty_buffers}
use Rattle.unit_state.specs.declared.state.UnitState.{UnitState}
use Rattle.unit_state.specs.Answers.{Answer}
use Rattle.unit_state.specs.State.{with_buffers}
use Rattle.unit_state.specs.Translation.{segment_at, tag_at, kept_of, found_for}
use Rattle.unit_state.specs.Requests.{load_answer, store_answer}

-- the tables name a real page for a virtual one, and say of it what a look-aside entry says
pub record Named (plan : PlanNumbers) (ws : List ℕ) (s : UnitState) (t : Translation) : Type 0 where
  pub found : Found
  pub is : found_for plan ws s t.page.tag ≡ Ok found
  pub kept : kept_of found ≡ t

-- the look-aside buffers agree with the tables
abbrev pub Agrees : PlanNumbers → List ℕ → UnitState → Type 0
Agrees plan ws s = Each (Named plan ws s) s.buffers

abbrev pub without_buffers : UnitState → UnitState
without_buffers s = with_buffers s empty_buffers

-- the answer but for the count and the last entry
abbrev pub essence : Answer → Result ℕ Refusal
essence (Ok a) = Ok a.value
essence (Err e) = Err e.refusal

-- The rules let a request pass: the storage has the plan's size, the register is present and not barred, the tables name a
-- page, and protection permits it.
pub record Passes (plan : PlanNumbers) (ws : List ℕ) (s : UnitState) (address : ℕ) (t : AccessType) : Type 0 where
  pub sized : 4 * length ws ≡ storage_bytes plan.exponent
  pub present : (segment_at s address).present ≡ true
  pub unbarred : (segment_at s address).barred ≡ false
  pub found : Found
  pub named : found_for plan ws s (tag_at plan.form (segment_at s address) address) ≡ Ok found
  pub permits : permitted plan.form (segment_at s address) found.page s.transaction (offset_of address) t ≡ true

-- Where the buffers agree with the tables: a load is accepted exactly where the rules let it pass; but for the count and the
-- last entry it answers what it would answer with empty buffers; and it leaves buffers that agree with the tables.
pub record LoadLaws (plan : PlanNumbers) (ws : List ℕ) (s : UnitState) (w : Width) (address : EffectiveAddress) (r : Answer) (after : UnitState) : Type 0 where
  pub passes : is_ok r ≡ true → Passes plan ws s address.number Load
  pub accepts : Passes plan ws s address.number Load → is_ok r ≡ true
  pub unseen : essence r ≡ essence (load_answer plan ws (without_buffers s) w address)
  pub agrees : Agrees plan ws after

-- The same of a store, whose value has to fit its width. It can alter the tables themselves: then the buffers agree with the
-- tables as they were, and where the words of the table are as they were, with the new words too.
pub record StoreLaws (plan : PlanNumbers) (ws vs : List ℕ) (s : UnitState) (w : Width) (address : EffectiveAddress) (value : ℕ) (r : Answer) (after : UnitState) : Type 0 where
  pub fits : is_ok r ≡ true → value < value_limit w
  pub passes : is_ok r ≡ true → Passes plan ws s address.number Store
  pub accepts : value < value_limit w → Passes plan ws s address.number Store → is_ok r ≡ true
  pub unseen : essence r ≡ essence (store_answer plan ws (without_buffers s) w address value)
  pub agrees : Agrees plan ws after
  pub kept : ((tag : Tag) → AlikeTables (query_of plan s.long_stop tag) ws vs) → Agrees plan vs after

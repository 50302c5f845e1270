-- Translated loads and stores.
use Rattle.std.specs.Prelude.{◌≡◌, ℕ, Bool, true, false, cond, List, Ok, Err, Result, nat_lt}
use Rattle.refusals.specs.declared.refusal.Refusal.{Refusal}
use Rattle.refusals.specs.declared.refusal.Refusal.TheVariants.{ValueTooWide}
use Rattle.paging.specs.Numbers.{PlanNumbers}
use Rattle.paging.specs.declared.address.EffectiveAddress.{EffectiveAddress}
use Rattle.paging.specs.Address.{page_of}
use Rattle.lanes.specs.declared.width.Width.{Width}
use Rattle.lanes.specs.Lanes.{value_limit, load_of, store_of, stored_if}
use Rattle.lanes.specs.Bytes.{LoadedBytes, StoredBytes}
use Rattle.protection.specs.declared.access_type.AccessType.{AccessType}
use Rattle.protection.specs.declared.access_type.AccessType.TheVariants.{Load, Store}
use Rattle.exceptions.specs.Raising.{noted}
use Rattle.unit_state.specs.declared.answer.Access.{Access}
use Rattle.page_table.specs.declared.walk.Fault.{Fault}
use Rattle.unit_state.specs.declared.state.UnitState.{UnitState}
use Rattle.unit_state.specs.declared.translation.Place.{Place}
use Rattle.page_table.specs.Search.{uncompared}
use Rattle.unit_state.specs.Answers.{Answer}
use Rattle.unit_state.specs.State.{with_exceptions}
use Rattle.unit_state.specs.Marks.{used_page}
use Rattle.unit_state.specs.Translation.{translated, translated_state}

abbrev pub accepts : Place → ℕ → Answer
accepts p value = Ok (record { value = value; compared = p.compared })

abbrev pub refuses : Place → Refusal → Answer
refuses p r = Err (record { refusal = r; compared = p.compared })

-- what the access to storage makes of a place
abbrev pub loaded_from : Place → Result ℕ Refusal → Answer
loaded_from p (Ok value) = accepts p value
loaded_from p (Err r) = refuses p r

abbrev pub stored_to : Place → Result (Unit {0}) Refusal → Answer
stored_to p (Ok done) = accepts p 0
stored_to p (Err r) = refuses p r

abbrev pub load_at : List ℕ → Width → Result Place Fault → Answer
load_at ws w (Ok p) = loaded_from p (load_of ws w p.address.number)
load_at ws w (Err e) = Err e

abbrev pub store_at : List ℕ → Width → ℕ → Result Place Fault → Answer
store_at ws w value (Ok p) = stored_to p (store_of ws w p.address.number value)
store_at ws w value (Err e) = Err e

abbrev pub words_at : List ℕ → Width → ℕ → Result Place Fault → List ℕ
words_at ws w value (Ok p) = stored_if ws w p.address.number value
words_at ws w value (Err e) = ws

-- An accepted request marks its page.
abbrev pub used_at : UnitState → Result Place Fault → Answer → Bool → UnitState
used_at s (Ok p) (Ok a) store = used_page s p.page store
used_at s (Ok p) (Err e) store = s
used_at s (Err x) (Ok a) store = s
used_at s (Err x) (Err e) store = s

-- A refused request raises the exception of its refusal, if that has one.
abbrev pub noted_in : UnitState → Answer → EffectiveAddress → AccessType → UnitState
noted_in s (Ok a) address t = s
noted_in s (Err e) address t = with_exceptions s (noted s.exceptions e.refusal address t)

-- what the translation of a load, and what that of a store, leads to
abbrev pub load_place : PlanNumbers → List ℕ → UnitState → EffectiveAddress → Result Place Fault
load_place plan ws s address = translated plan ws s address.number Load

abbrev pub store_place : PlanNumbers → List ℕ → UnitState → EffectiveAddress → Result Place Fault
store_place plan ws s address = translated plan ws s address.number Store

abbrev pub used_by_load : PlanNumbers → List ℕ → UnitState → Width → EffectiveAddress → UnitState
used_by_load plan ws s w address =
    used_at
    (translated_state plan ws s address.number)
    (load_place plan ws s address)
    (load_at ws w (load_place plan ws s address))
    false

-- What a load answers, and the unit after it.
unfoldable pub load_answer : PlanNumbers → List ℕ → UnitState → Width → EffectiveAddress → Answer
load_answer plan ws s w address = load_at ws w (load_place plan ws s address)

unfoldable pub after_load : PlanNumbers → List ℕ → UnitState → Width → EffectiveAddress → UnitState
after_load plan ws s w address =
    noted_in (used_by_load plan ws s w address) (load_at ws w (load_place plan ws s address)) address Load

abbrev pub used_by_store : PlanNumbers → List ℕ → UnitState → Width → EffectiveAddress → ℕ → UnitState
used_by_store plan ws s w address value =
    used_at
    (translated_state plan ws s address.number)
    (store_place plan ws s address)
    (store_at ws w value (store_place plan ws s address))
    true

-- What a store answers, the unit after it, and the storage after it. A value that is too wide is refused before all else, and
-- alters nothing.
unfoldable pub store_answer : PlanNumbers → List ℕ → UnitState → Width → EffectiveAddress → ℕ → Answer
store_answer plan ws s w address value =
    cond (nat_lt value (value_limit w)) (store_at ws w value (store_place plan ws s address)) (Err (uncompared ValueTooWide))

unfoldable pub after_store : PlanNumbers → List ℕ → UnitState → Width → EffectiveAddress → ℕ → UnitState
after_store plan ws s w address value =
    cond
    (nat_lt value (value_limit w))
    (noted_in (used_by_store plan ws s w address value) (store_at ws w value (store_place plan ws s address)) address Store)
    s

unfoldable pub store_words : PlanNumbers → List ℕ → UnitState → Width → EffectiveAddress → ℕ → List ℕ
store_words plan ws s w address value =
    cond (nat_lt value (value_limit w)) (words_at ws w value (store_place plan ws s address)) ws

-- An accepted load gives the bytes at the real address that its translation names, which is one of the page that it names.
abbrev pub LoadedAt : PlanNumbers → List ℕ → UnitState → Width → EffectiveAddress → Access → Type 0
LoadedAt plan ws s w address a =
    (p : Place)
    × (load_place plan ws s address ≡ Ok p)
    × (page_of plan.form p.address.number ≡ p.page)
    × LoadedBytes ws w p.address.number a.value

-- An accepted store alters the bytes of one aligned unit at the real address that its translation names, which is one of the
-- page that it names, and no other byte.
abbrev pub StoredAt : PlanNumbers → List ℕ → List ℕ → UnitState → Width → EffectiveAddress → ℕ → Type 0
StoredAt plan ws vs s w address value =
    (p : Place)
    × (store_place plan ws s address ≡ Ok p)
    × (page_of plan.form p.address.number ≡ p.page)
    × StoredBytes ws vs w p.address.number value

-- Requests and purges leave look-aside buffers that agree with the tables.
use Rattle.std.proofs.Common.{◌≡◌, ℕ, ◌<◌, Bool, List, Some, None, Ok, Err, Option, Result, sym, refl, ap, ◌∙◌, subst}
use Rattle.refusals.specs.declared.refusal.Refusal.{Refusal}
use Rattle.paging.specs.Numbers.{PlanNumbers}
use Rattle.paging.specs.declared.address.EffectiveAddress.{EffectiveAddress}
use Rattle.paging.specs.Plan.{page_count}
use Rattle.page_table.specs.declared.entry.Tag.{Tag}
use Rattle.page_table.specs.declared.walk.Found.{Found}
use Rattle.page_table.specs.Search.{Outcome, query_of}
use Rattle.page_table.specs.Laws.{Well, AlikeTables}
use Rattle.page_table.proofs.Walks.{searched_well}
use Rattle.page_table.proofs.Alike.{searched_alike}
use Rattle.protection.specs.declared.access_type.AccessType.{AccessType}
use Rattle.protection.specs.declared.register.SegmentRegister.{SegmentRegister}
use Rattle.tlb.specs.declared.purging.Purge.{Purge}
use Rattle.tlb.proofs.Purged.{each_purged}
use Rattle.page_table.specs.declared.walk.Fault.{Fault}
use Rattle.unit_state.specs.declared.state.UnitState.{UnitState}
use Rattle.unit_state.specs.declared.translation.Place.{Place}
use Rattle.unit_state.specs.Answers.{Answer, unless}
use Rattle.unit_state.specs.State.{with_buffers}
use Rattle.unit_state.specs.Marks.{used_page}
use Rattle.unit_state.specs.Translation.{segment_at, tag_at, entry_refusal, kept_of, found_for, buffers_after, translated_state}
use Rattle.unit_state.specs.Requests.{used_at, noted_in}
use Rattle.unit_state.specs.Purges.{after_purge}
use Rattle.unit_state.specs.Laws.{Named, Agrees}
use Rattle.unit_state.proofs.Locating.{buffers_hold}

-- what a search finds is named by the tables
found_named :
    (plan : PlanNumbers) (ws : List ℕ) (s : UnitState) (tag : Tag) (x : Found) →
    found_for plan ws s tag ≡ Ok x →
    Named plan ws s (kept_of x)
found_named plan ws s tag x e =
    let q = query_of plan s.long_stop tag in
    let P : Outcome → Type 0 = λ r. Well plan.form ws q r in
    let tagged = (subst P e (searched_well plan.form ws q)).tagged in
    record { found = x; is = ap (found_for plan ws s) tagged ∙ e; kept = refl }

agrees_translated :
    (plan : PlanNumbers) (ws : List ℕ) (s : UnitState) (address : ℕ) →
    Agrees plan ws s →
    Agrees plan ws (translated_state plan ws s address)
unfolding translated_state
agrees_translated plan ws s address agrees = ways (entry_refusal plan.exponent ws (segment_at s address))
  where
    tag : Tag
    tag = tag_at plan.form (segment_at s address) address

    ways : (o : Option Refusal) → Agrees plan ws (unless o s (with_buffers s (buffers_after plan ws s tag)))
    ways (Some e) = agrees
    ways None = λ i j t is.
        let named = buffers_hold (Named plan ws s) plan ws s tag agrees (found_named plan ws s tag) i j t is in
        record { found = named.found; is = named.is; kept = named.kept }

agrees_used :
    (plan : PlanNumbers) (ws : List ℕ) (s : UnitState) (r : Result Place Fault) (answer : Answer) (store : Bool) →
    Agrees plan ws s →
    Agrees plan ws (used_at s r answer store)
unfolding used_page
agrees_used plan ws s (Ok p) (Ok a) store agrees = λ i j t is.
    let named = agrees i j t is in record { found = named.found; is = named.is; kept = named.kept }
agrees_used plan ws s (Ok p) (Err e) store agrees = agrees
agrees_used plan ws s (Err x) (Ok a) store agrees = agrees
agrees_used plan ws s (Err x) (Err e) store agrees = agrees

agrees_noted :
    (plan : PlanNumbers) (ws : List ℕ) (s : UnitState) (answer : Answer) (address : EffectiveAddress) (t : AccessType) →
    Agrees plan ws s →
    Agrees plan ws (noted_in s answer address t)
agrees_noted plan ws s (Ok a) address t agrees = agrees
agrees_noted plan ws s (Err e) address t agrees = λ i j x is.
    let named = agrees i j x is in record { found = named.found; is = named.is; kept = named.kept }

pub agrees_after :
    (plan : PlanNumbers) (ws : List ℕ) (s : UnitState) (address : EffectiveAddress) (r : Result Place Fault) (answer : Answer) (store : Bool) (t : AccessType) →
    Agrees plan ws s →
    Agrees plan ws (noted_in (used_at (translated_state plan ws s address.number) r answer store) answer address t)
agrees_after plan ws s address r answer store t agrees =
    agrees_noted plan ws (used_at (translated_state plan ws s address.number) r answer store) answer address t
    (agrees_used plan ws (translated_state plan ws s address.number) r answer store (agrees_translated plan ws s address.number agrees))

pub agrees_purged :
    (plan : PlanNumbers) (ws : List ℕ) (p : Purge) (s : UnitState) → Agrees plan ws s → Agrees plan ws (after_purge p s)
agrees_purged plan ws p s agrees = λ i j t is.
    let named = each_purged (Named plan ws s) p s.buffers agrees i j t is in
    record { found = named.found; is = named.is; kept = named.kept }

-- buffers that agree with a table agree with every table that is alike
pub agrees_alike :
    (plan : PlanNumbers) (ws vs : List ℕ) (s : UnitState) →
    0 < page_count plan.form plan.exponent →
    ((tag : Tag) → AlikeTables (query_of plan s.long_stop tag) ws vs) →
    Agrees plan ws s →
    Agrees plan vs s
agrees_alike plan ws vs s some alike agrees = λ i j t is.
    let named = agrees i j t is in
    let q = query_of plan s.long_stop t.page.tag in
    record {
      found = named.found;
      is = sym (searched_alike plan.form ws vs q some (alike t.page.tag)) ∙ named.is;
      kept = named.kept;
    }

-- a request leaves the registers, the transaction ID and the long-stop bit, and all that is made of them
registers_translated :
    {X : Type 0} (made : List SegmentRegister → ℕ → Bool → X) (plan : PlanNumbers) (ws : List ℕ) (s : UnitState) (address : ℕ) →
    made (translated_state plan ws s address).segments (translated_state plan ws s address).transaction (translated_state plan ws s address).long_stop
    ≡ made s.segments s.transaction s.long_stop
unfolding translated_state
registers_translated made plan ws s address = ways (entry_refusal plan.exponent ws (segment_at s address))
  where
    after : Option Refusal → UnitState
    after o = unless o s (with_buffers s (buffers_after plan ws s (tag_at plan.form (segment_at s address) address)))

    ways : (o : Option Refusal) → made (after o).segments (after o).transaction (after o).long_stop ≡ made s.segments s.transaction s.long_stop
    ways (Some e) = refl
    ways None = refl

registers_used :
    {X : Type 0} (made : List SegmentRegister → ℕ → Bool → X) (s : UnitState) (r : Result Place Fault) (answer : Answer) (store : Bool) →
    made (used_at s r answer store).segments (used_at s r answer store).transaction (used_at s r answer store).long_stop
    ≡ made s.segments s.transaction s.long_stop
unfolding used_page
registers_used made s (Ok p) (Ok a) store = refl
registers_used made s (Ok p) (Err e) store = refl
registers_used made s (Err x) (Ok a) store = refl
registers_used made s (Err x) (Err e) store = refl

registers_noted :
    {X : Type 0} (made : List SegmentRegister → ℕ → Bool → X) (s : UnitState) (answer : Answer) (address : EffectiveAddress) (t : AccessType) →
    made (noted_in s answer address t).segments (noted_in s answer address t).transaction (noted_in s answer address t).long_stop
    ≡ made s.segments s.transaction s.long_stop
registers_noted made s (Ok a) address t = refl
registers_noted made s (Err e) address t = refl

pub registers_after :
    {X : Type 0} (made : List SegmentRegister → ℕ → Bool → X) (plan : PlanNumbers) (ws : List ℕ) (s : UnitState) (address : EffectiveAddress) →
    (r : Result Place Fault) (answer : Answer) (store : Bool) (t : AccessType) →
    made
    (noted_in (used_at (translated_state plan ws s address.number) r answer store) answer address t).segments
    (noted_in (used_at (translated_state plan ws s address.number) r answer store) answer address t).transaction
    (noted_in (used_at (translated_state plan ws s address.number) r answer store) answer address t).long_stop
    ≡ made s.segments s.transaction s.long_stop
registers_after made plan ws s address r answer store t =
    registers_noted made (used_at (translated_state plan ws s address.number) r answer store) answer address t
    ∙ registers_used made (translated_state plan ws s address.number) r answer store
    ∙ registers_translated made plan ws s address.number

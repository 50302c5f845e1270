-- Two storages that are alike in the words of the table and in all that is granted for loading answer alike, and stay so.
use Rattle.std.proofs.Common.{◌≡◌, ℕ, ◌*◌, ◌/◌, ◌<◌, ◌%◌, ◌^◌, Bool, true, false, cond, eqb, ltb, List, length, get_or, Some, Ok, Err, Option, Result, sym, refl, ap, ◌∙◌, ⊎_elim, arith, get_or-set_same}
use Rattle.std.proofs.lemmas.Bool.{cases_eq}
use Rattle.std.proofs.lemmas.Bool.Decides.{nat_tests}
use Rattle.refusals.specs.declared.refusal.Refusal.{Refusal}
use Rattle.refusals.specs.declared.refusal.Refusal.TheVariants.{ValueTooWide, WordOutside, SizeDiffers}
use Rattle.storage.specs.Words.{written, merged}
use Rattle.paging.specs.Numbers.{PlanNumbers}
use Rattle.paging.specs.declared.address.EffectiveAddress.{EffectiveAddress}
use Rattle.paging.specs.Address.{offset_of}
use Rattle.paging.specs.Plan.{page_count, storage_bytes}
use Rattle.page_table.specs.declared.entry.Tag.{Tag}
use Rattle.page_table.specs.declared.walk.Fault.{Fault}
use Rattle.page_table.specs.Search.{Outcome, uncompared}
use Rattle.lanes.specs.declared.width.Width.{Width}
use Rattle.lanes.specs.Lanes.{value_limit, shift_of, mask_of, stored}
use Rattle.protection.specs.declared.access_type.AccessType.{AccessType}
use Rattle.protection.specs.declared.access_type.AccessType.TheVariants.{Load, Store}
use Rattle.unit_state.specs.declared.state.UnitState.{UnitState}
use Rattle.unit_state.specs.declared.translation.Place.{Place}
use Rattle.tlb.specs.Lookup.{hit_of, looked_up}
use Rattle.unit_state.specs.Answers.{Answer, unless}
use Rattle.unit_state.specs.State.{with_buffers}
use Rattle.unit_state.specs.Translation.{segment_at, tag_at, segment_refusal, entry_refusal, located_by, kept_by, found_for, located, buffers_after, judged, refused_or, translated, translated_state}
use Rattle.unit_state.specs.Requests.{used_at, noted_in, load_at, store_at, loaded_from, stored_to, load_answer, after_load, store_answer, after_store}
use Rattle.unit_state.specs.Grants.{Granted}
use Rattle.unit_state.proofs.Plain.{Spot, plain_place, plain_translated, translated-plain}
use Rattle.unit_state.proofs.Passing.{plain_passes}
use Rattle.unit_state.proofs.Standing.{Standing, found_same, plain_same}
use Rattle.unit_state.proofs.Granting.{plain_store_words, written_other}

-- Two storages under one unit, both judged by the tables of one at first, and alike in what is granted for loading.
pub record Twins (plan : PlanNumbers) (start : List ℕ) (first : UnitState) (ws vs : List ℕ) (s : UnitState) : Type 0 where
  pub one : Standing plan start first ws s
  pub two : Standing plan start first vs s
  pub granted : (n : ℕ) → Granted plan start first Load n → get_or ws n 0 ≡ get_or vs n 0

pub twins_long :
    (plan : PlanNumbers) (start : List ℕ) (first : UnitState) (ws vs : List ℕ) (s : UnitState) →
    Twins plan start first ws vs s →
    length ws ≡ length vs
twins_long plan start first ws vs s twins =
    sym twins.one.long ∙ twins.two.long

twins_found :
    (plan : PlanNumbers) (start : List ℕ) (first : UnitState) (ws vs : List ℕ) (s : UnitState) →
    0 < page_count plan.form plan.exponent →
    Twins plan start first ws vs s →
    (tag : Tag) →
    found_for plan ws s tag ≡ found_for plan vs s tag
twins_found plan start first ws vs s some twins tag =
    found_same plan start first ws s some twins.one tag ∙ sym (found_same plan start first vs s some twins.two tag)

-- what is made of the refusal before a search and of what the search finds
judged_twins :
    {X : Type 0} (made : Option Refusal → Outcome → X) →
    (plan : PlanNumbers) (start : List ℕ) (first : UnitState) (ws vs : List ℕ) (s : UnitState) →
    0 < page_count plan.form plan.exponent →
    Twins plan start first ws vs s →
    (address : ℕ) →
    made (entry_refusal plan.exponent ws (segment_at s address)) (found_for plan ws s (tag_at plan.form (segment_at s address) address))
    ≡ made (entry_refusal plan.exponent vs (segment_at s address)) (found_for plan vs s (tag_at plan.form (segment_at s address) address))
judged_twins made plan start first ws vs s some twins address =
    ap
    (λ (n : ℕ). made (cond (eqb (4 * n) (storage_bytes plan.exponent)) (segment_refusal (segment_at s address)) (Some SizeDiffers)) (found_for plan ws s (tag_at plan.form (segment_at s address) address)))
    (twins_long plan start first ws vs s twins)
    ∙ ap
    (made (entry_refusal plan.exponent vs (segment_at s address)))
    (twins_found plan start first ws vs s some twins (tag_at plan.form (segment_at s address) address))

translated_twins :
    (plan : PlanNumbers) (start : List ℕ) (first : UnitState) (ws vs : List ℕ) (s : UnitState) (address : ℕ) (t : AccessType) →
    0 < page_count plan.form plan.exponent →
    Twins plan start first ws vs s →
    translated plan ws s address t ≡ translated plan vs s address t
unfolding translated located
translated_twins plan start first ws vs s address t some twins =
    let r = segment_at s address in
    judged_twins
    (λ o x. refused_or o (judged plan.form r s.transaction (offset_of address) t (located_by (hit_of s.buffers (tag_at plan.form r address)) x)))
    plan
    start
    first
    ws
    vs
    s
    some
    twins
    address

state_twins :
    (plan : PlanNumbers) (start : List ℕ) (first : UnitState) (ws vs : List ℕ) (s : UnitState) (address : ℕ) →
    0 < page_count plan.form plan.exponent →
    Twins plan start first ws vs s →
    translated_state plan ws s address ≡ translated_state plan vs s address
unfolding translated_state buffers_after
state_twins plan start first ws vs s address some twins =
    let r = segment_at s address in
    let tag = tag_at plan.form r address in
    judged_twins
    (λ o x. unless o s (with_buffers s (kept_by (looked_up s.buffers tag) (hit_of s.buffers tag) x)))
    plan
    start
    first
    ws
    vs
    s
    some
    twins
    address

-- what a load gives, at the place that it leads to
load_at_twins :
    (plan : PlanNumbers) (start : List ℕ) (first : UnitState) (ws vs : List ℕ) (s : UnitState) (w : Width) (address : ℕ) →
    0 < page_count plan.form plan.exponent →
    Twins plan start first ws vs s →
    load_at ws w (translated plan ws s address Load) ≡ load_at vs w (translated plan ws s address Load)
load_at_twins plan start first ws vs s w address some twins = ways (translated plan ws s address Load) refl
  where
    ways : (r : Result Place Fault) → translated plan ws s address Load ≡ r → load_at ws w r ≡ load_at vs w r
    ways (Err e) _ = refl
    ways (Ok p) is =
        let leads : plain_translated plan start first address Load ≡ Ok (p.address.number, p.page) =
        sym (plain_same plan start first ws s some twins.one address Load)
        ∙ sym (translated-plain plan ws s address Load twins.one.agrees)
        ∙ ap plain_place is
        in
        let pass = plain_passes plan start first address Load (p.address.number, p.page) leads in
        let same : get_or ws (p.address.number / 4) 0 ≡ get_or vs (p.address.number / 4) 0 =
        twins.granted (p.address.number / 4) (record { address = address; passes = pass.0; word = ap (λ (x : Spot). x.0 / 4) pass.1 })
        in
        ap
        (λ (n : ℕ).
        loaded_from p (cond (ltb (p.address.number / 4) n) (Ok (get_or ws (p.address.number / 4) 0 / 2 ^ shift_of w p.address.number % value_limit w)) (Err WordOutside)))
        (twins_long plan start first ws vs s twins)
        ∙ ap
        (λ (word : ℕ).
        loaded_from p (cond (ltb (p.address.number / 4) (length vs)) (Ok (word / 2 ^ shift_of w p.address.number % value_limit w)) (Err WordOutside)))
        same

pub load_twins :
    {X : Type 0} (made : Answer → UnitState → X) (plan : PlanNumbers) (start : List ℕ) (first : UnitState) (ws vs : List ℕ) (s : UnitState) (w : Width) (address : EffectiveAddress) →
    0 < page_count plan.form plan.exponent →
    Twins plan start first ws vs s →
    made (load_answer plan ws s w address) (after_load plan ws s w address) ≡ made (load_answer plan vs s w address) (after_load plan vs s w address)
unfolding load_answer after_load
load_twins {X} made plan start first ws vs s w address some twins =
    let a = load_at_twins plan start first ws vs s w address.number some twins in
    let b = translated_twins plan start first ws vs s address.number Load some twins in
    let c = state_twins plan start first ws vs s address.number some twins in
    let both : Answer → Result Place Fault → UnitState → X = λ answer place after. made answer (noted_in (used_at after place answer false) answer address Load) in
    ap (λ answer. both answer (translated plan ws s address.number Load) (translated_state plan ws s address.number)) a
    ∙ ap (λ place. both (load_at vs w place) place (translated_state plan ws s address.number)) b
    ∙ ap (both (load_at vs w (translated plan vs s address.number Load)) (translated plan vs s address.number Load)) c

store_at_twins :
    (ws vs : List ℕ) (w : Width) (value : ℕ) (r : Result Place Fault) → length ws ≡ length vs → store_at ws w value r ≡ store_at vs w value r
store_at_twins ws vs w value (Ok p) long =
    ap
    (λ (n : ℕ).
    stored_to p (cond (ltb value (value_limit w)) (cond (ltb (p.address.number / 4) n) (Ok tt) (Err WordOutside)) (Err ValueTooWide)))
    long
store_at_twins ws vs w value (Err e) long = refl

pub store_twins :
    {X : Type 0} (made : Answer → UnitState → X) (plan : PlanNumbers) (start : List ℕ) (first : UnitState) (ws vs : List ℕ) (s : UnitState) (w : Width) (address : EffectiveAddress) (value : ℕ) →
    0 < page_count plan.form plan.exponent →
    Twins plan start first ws vs s →
    made (store_answer plan ws s w address value) (after_store plan ws s w address value)
    ≡ made (store_answer plan vs s w address value) (after_store plan vs s w address value)
unfolding store_answer after_store
store_twins {X} made plan start first ws vs s w address value some twins =
    let fits = ltb value (value_limit w) in
    let a = store_at_twins ws vs w value (translated plan ws s address.number Store) (twins_long plan start first ws vs s twins) in
    let b = translated_twins plan start first ws vs s address.number Store some twins in
    let c = state_twins plan start first ws vs s address.number some twins in
    let both : Answer → Result Place Fault → UnitState → X =
    λ answer place after.
    made (cond fits answer (Err (uncompared ValueTooWide))) (cond fits (noted_in (used_at after place answer true) answer address Store) s)
    in
    ap (λ answer. both answer (translated plan ws s address.number Store) (translated_state plan ws s address.number)) a
    ∙ ap (λ place. both (store_at vs w value place) place (translated_state plan ws s address.number)) b
    ∙ ap (both (store_at vs w value (translated plan vs s address.number Store)) (translated plan vs s address.number Store)) c

-- a store keeps the words that are granted for loading alike
written_twins :
    (ws vs : List ℕ) (n value mask k : ℕ) →
    length ws ≡ length vs →
    get_or ws k 0 ≡ get_or vs k 0 →
    get_or (written ws n value mask) k 0 ≡ get_or (written vs n value mask) k 0
written_twins ws vs n value mask k long same =
    ⊎_elim
    (λ (here : k ≡ n).
    let there = ap (λ (x : ℕ). get_or ws x 0) (sym here) ∙ same ∙ ap (λ (x : ℕ). get_or vs x 0) here in
    ap (λ (x : ℕ). get_or (written ws n value mask) x 0) here
    ∙ written_here ws vs n value mask long there
    ∙ ap (λ (x : ℕ). get_or (written vs n value mask) x 0) (sym here))
    (λ other. written_other ws n value mask k other ∙ same ∙ sym (written_other vs n value mask k other))
    (cases_eq k n)
  where
    written_here :
        (ws vs : List ℕ) (n value mask : ℕ) →
        length ws ≡ length vs →
        get_or ws n 0 ≡ get_or vs n 0 →
        get_or (written ws n value mask) n 0 ≡ get_or (written vs n value mask) n 0
    written_here ws vs n value mask long same =
        let one = get_or-set_same ws n (merged (get_or ws n 0) value mask) 0 in
        let two = get_or-set_same vs n (merged (get_or vs n 0) value mask) 0 in
        let step : merged (get_or ws n 0) value mask ≡ merged (get_or vs n 0) value mask = ap (λ (x : ℕ). merged x value mask) same in
        grind (arith, nat_tests)

pub stored_twins :
    (ws vs : List ℕ) (w : Width) (value : ℕ) (r : Result Spot Refusal) (n : ℕ) →
    length ws ≡ length vs →
    get_or ws n 0 ≡ get_or vs n 0 →
    get_or (plain_store_words ws w value r) n 0 ≡ get_or (plain_store_words vs w value r) n 0
stored_twins ws vs w value (Ok p) n long same = ways (ltb value (value_limit w))
  where
    ways : (b : Bool) → get_or (cond b (cond b (stored ws w p.0 value) ws) ws) n 0 ≡ get_or (cond b (cond b (stored vs w p.0 value) vs) vs) n 0
    ways true = written_twins ws vs (p.0 / 4) (value * 2 ^ shift_of w p.0) (mask_of w p.0) n long same
    ways false = same
stored_twins ws vs w value (Err e) n long same = ways (ltb value (value_limit w))
  where
    ways : (b : Bool) → get_or (cond b ws ws) n 0 ≡ get_or (cond b vs vs) n 0
    ways true = same
    ways false = same

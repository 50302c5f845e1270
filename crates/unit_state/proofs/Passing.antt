-- A request is accepted exactly where the rules let it pass.
use Rattle.std.proofs.Common.{◌≡◌, ℕ, ◌+◌, ◌*◌, ◌/◌, ◌<◌, ◌≤◌, Bool, true, false, cond, eqb, ltb, List, length, is_ok, Some, None, Ok, Err, Option, Result, sym, refl, ap, ◌∙◌, subst, ⊎_elim, mul_comm, add-mul, one-mul, arith}
use Rattle.std.proofs.lemmas.Bool.{cond-true, eqb-true, eq-eqb, lt-ltb, both_ways}
use Rattle.std.proofs.lemmas.Nat.{mul-le, mod_below}
use Rattle.std.proofs.lemmas.Option.{none-some}
use Rattle.refusals.specs.declared.refusal.Refusal.{Refusal}
use Rattle.refusals.specs.declared.refusal.Refusal.TheVariants.{SizeDiffers, SegmentAbsent, SegmentBarred}
use Rattle.paging.specs.declared.geometry.PageGeometry.{PageGeometry}
use Rattle.paging.specs.Numbers.{PlanNumbers}
use Rattle.paging.specs.Address.{offset_of, place_in_page}
use Rattle.paging.specs.Plan.{storage_bytes, page_count}
use Rattle.paging.proofs.Pages.{Wide, Whole, pages_whole, page_length}
use Rattle.page_table.specs.declared.walk.Found.{Found}
use Rattle.page_table.specs.Search.{Outcome, query_of}
use Rattle.page_table.specs.Laws.{Well}
use Rattle.page_table.proofs.Walks.{searched_well}
use Rattle.lanes.specs.declared.width.Width.{Width}
use Rattle.lanes.specs.Lanes.{value_limit, loaded, store_of}
use Rattle.protection.specs.declared.register.SegmentRegister.{SegmentRegister}
use Rattle.protection.specs.declared.access_type.AccessType.{AccessType}
use Rattle.protection.specs.Permission.{permitted}
use Rattle.tlb.specs.declared.buffers.Translation.{Translation}
use Rattle.page_table.specs.declared.walk.Fault.{Fault}
use Rattle.unit_state.specs.declared.state.UnitState.{UnitState}
use Rattle.unit_state.specs.declared.translation.Place.{Place}
use Rattle.unit_state.specs.Answers.{Answer}
use Rattle.unit_state.specs.Translation.{segment_at, tag_at, segment_refusal, entry_refusal, kept_of, found_for, protection_refusal, translated}
use Rattle.unit_state.specs.Requests.{load_at, store_at}
use Rattle.unit_state.specs.Laws.{Agrees, Passes, essence, without_buffers}
use Rattle.unit_state.specs.Grants.{real_in}
use Rattle.tlb.proofs.Entries.{each_empty}
use Rattle.unit_state.proofs.Inverting.{Leads, translated_leads}
use Rattle.unit_state.proofs.Plain.{Spot, plain_located, plain_named, plain_judged, plain_refused_or, plain_translated, plain_load, plain_store, zeroed, located-plain, translated-plain, load_plain, store-plain}

-- the rules of a page form and of an exponent that a plan has
pub record Planned (f : PageGeometry) (k : ℕ) : Type 0 where
  pub wide : Wide f
  pub whole : Whole f
  pub large : 16 ≤ k

-- a storage of the plan's size, and a register that is present and not barred
pub record Entered (k : ℕ) (ws : List ℕ) (r : SegmentRegister) : Type 0 where
  pub sized : 4 * length ws ≡ storage_bytes k
  pub present : r.present ≡ true
  pub unbarred : r.barred ≡ false

entered_from : (k : ℕ) (ws : List ℕ) (r : SegmentRegister) → entry_refusal k ws r ≡ None → Entered k ws r
entered_from k ws r e = sizes (eqb (4 * length ws) (storage_bytes k)) refl e
  where
    bars : (b : Bool) → r.barred ≡ b → r.present ≡ true → 4 * length ws ≡ storage_bytes k → cond b (Some SegmentBarred) None ≡ None → Entered k ws r
    bars true h present sized is = absurd (none-some SegmentBarred (sym is))
    bars false h present sized is = record { sized = sized; present = present; unbarred = h }

    segments : (b : Bool) → r.present ≡ b → 4 * length ws ≡ storage_bytes k → cond b (cond r.barred (Some SegmentBarred) None) (Some SegmentAbsent) ≡ None → Entered k ws r
    segments true h sized is = bars r.barred refl h sized is
    segments false h sized is = absurd (none-some SegmentAbsent (sym is))

    sizes : (b : Bool) → eqb (4 * length ws) (storage_bytes k) ≡ b → cond b (segment_refusal r) (Some SizeDiffers) ≡ None → Entered k ws r
    sizes true h is = segments r.present refl (eqb-true _ _ h) is
    sizes false h is = absurd (none-some SizeDiffers (sym is))

entered_to : (k : ℕ) (ws : List ℕ) (r : SegmentRegister) → Entered k ws r → entry_refusal k ws r ≡ None
entered_to k ws r entered =
    ap (λ (b : Bool). cond b (segment_refusal r) (Some SizeDiffers)) (eq-eqb _ _ entered.sized)
    ∙ ap (λ (b : Bool). cond b (cond r.barred (Some SegmentBarred) None) (Some SegmentAbsent)) entered.present
    ∙ ap (λ (b : Bool). cond b (Some SegmentBarred) None) entered.unbarred

-- where the translation leads to a place, the rules let the request pass
pub leads_passes :
    (plan : PlanNumbers) (ws : List ℕ) (s : UnitState) (address : ℕ) (t : AccessType) (p : Place) →
    Agrees plan ws s →
    translated plan ws s address t ≡ Ok p →
    Passes plan ws s address t
leads_passes plan ws s address t p agrees e = finds (found_for plan ws s (tag_at plan.form r address)) refl
  where
    r : SegmentRegister
    r = segment_at s address

    leads : Leads plan ws s address t p
    leads = translated_leads plan ws s address t p e

    entered : Entered plan.exponent ws r
    entered = entered_from plan.exponent ws r leads.entered

    same : plain_named (found_for plan ws s (tag_at plan.form r address)) ≡ Ok leads.found.translation
    same = sym (located-plain plan ws s (tag_at plan.form r address) agrees) ∙ ap plain_located leads.is

    finds : (x : Outcome) → found_for plan ws s (tag_at plan.form r address) ≡ x → Passes plan ws s address t
    finds (Ok x) is =
        let kept : kept_of x ≡ leads.found.translation = let step = sym (ap plain_named is) ∙ same in cc in
        record {
          sized = entered.sized;
          present = entered.present;
          unbarred = entered.unbarred;
          found = x;
          named = is;
          permits = ap (λ (y : Translation). permitted plan.form r y.page s.transaction (offset_of address) t) kept ∙ leads.permits;
        }
    finds (Err fault) is =
        let step = sym (ap plain_named is) ∙ same in let z : ◌≡◌ {A = ℕ} 0 1 = cc in absurd (omega arith)

-- where the rules let it pass, the translation by the tables leads to the same place of the page that they name
pub passes_leads :
    (plan : PlanNumbers) (ws : List ℕ) (s : UnitState) (address : ℕ) (t : AccessType) (pass : Passes plan ws s address t) →
    plain_translated plan ws s address t
    ≡ Ok (pass.found.entry * plan.form.page + place_in_page plan.form (offset_of address), pass.found.entry)
passes_leads plan ws s address t pass =
    let r = segment_at s address in
    let judge : Result Translation Refusal → Result Spot Refusal = plain_judged plan.form r s.transaction (offset_of address) t in
    let named = found_for plan ws s (tag_at plan.form r address) in
    ap
    (λ (o : Option Refusal). plain_refused_or o (judge (plain_named named)))
    (entered_to plan.exponent ws r (record { sized = pass.sized; present = pass.present; unbarred = pass.unbarred }))
    ∙ ap (λ (x : Outcome). judge (plain_named x)) pass.named
    ∙ cond-true _ _ _ pass.permits

-- where the translation by the tables leads to a place, the rules let the request pass, and the place is that of the page found
pub plain_passes :
    (plan : PlanNumbers) (ws : List ℕ) (s : UnitState) (address : ℕ) (t : AccessType) (p : Spot) →
    plain_translated plan ws s address t ≡ Ok p →
    (pass : Passes plan ws s address t) × (p ≡ (real_in plan pass.found address, pass.found.entry))
plain_passes plan ws s address t p e = enters (entry_refusal plan.exponent ws r) refl e
  where
    r : SegmentRegister
    r = segment_at s address

    offset : ℕ
    offset = offset_of address

    found : Outcome
    found = found_for plan ws s (tag_at plan.form r address)

    Goal : Type 0
    Goal = (pass : Passes plan ws s address t) × (p ≡ (real_in plan pass.found address, pass.found.entry))

    allows :
        (x : Found) (b : Bool) →
        entry_refusal plan.exponent ws r ≡ None →
        found ≡ Ok x →
        permitted plan.form r x.page s.transaction offset t ≡ b →
        cond {A = Result Spot Refusal} b (Ok (x.entry * plan.form.page + place_in_page plan.form offset, x.entry)) (Err (protection_refusal r)) ≡ Ok p →
        Goal
    allows x true entered named permits place =
        let enter = entered_from plan.exponent ws r entered in
        let same : p ≡ (real_in plan x address, x.entry) = cc in (
          record { sized = enter.sized; present = enter.present; unbarred = enter.unbarred; found = x; named = named; permits = permits },
          same,
        )
    allows x false entered named permits place = let z : ◌≡◌ {A = ℕ} 0 1 = cc in absurd (omega arith)

    finds :
        (x : Outcome) →
        entry_refusal plan.exponent ws r ≡ None →
        found ≡ x →
        plain_judged plan.form r s.transaction offset t (plain_named x) ≡ Ok p →
        Goal
    finds (Ok x) entered named place = allows x (permitted plan.form r x.page s.transaction offset t) entered named refl place
    finds (Err fault) entered named place = let z : ◌≡◌ {A = ℕ} 0 1 = cc in absurd (omega arith)

    enters :
        (o : Option Refusal) →
        entry_refusal plan.exponent ws r ≡ o →
        plain_refused_or o (plain_judged plan.form r s.transaction offset t (plain_named found)) ≡ Ok p →
        Goal
    enters None entered place = finds found entered refl place
    enters (Some refusal) entered place = let z : ◌≡◌ {A = ℕ} 0 1 = cc in absurd (omega arith)

-- a place in a page of the plan lies in a storage of its size
pub place_inside :
    (f : PageGeometry) (k i offset : ℕ) (ws : List ℕ) →
    Planned f k →
    4 * length ws ≡ storage_bytes k →
    i < page_count f k →
    (i * f.page + place_in_page f offset) / 4 < length ws
place_inside f k i offset ws planned sized inside =
    let whole = pages_whole f k planned.wide planned.whole planned.large in
    let some : 0 < f.page = ⊎_elim (λ p. omega arith) (λ p. omega arith) (page_length f planned.wide planned.whole) in
    let low : place_in_page f offset < f.page = mod_below offset f.page some in
    let most = mul-le (i + 1) f.page (page_count f k) f.page (omega arith) (omega arith) in
    let step : (i + 1) * f.page ≡ i * f.page + f.page = add-mul i 1 f.page ∙ ap (λ (x : ℕ). i * f.page + x) (one-mul f.page) in
    omega (arith, mul_comm f.page (page_count f k), whole, sized)

pub found_inside :
    (plan : PlanNumbers) (ws : List ℕ) (s : UnitState) (address : ℕ) (t : AccessType) (pass : Passes plan ws s address t) →
    pass.found.entry < page_count plan.form plan.exponent
found_inside plan ws s address t pass =
    let q = query_of plan s.long_stop (tag_at plan.form (segment_at s address) address) in
    let P : Outcome → Type 0 = λ r. Well plan.form ws q r in
    (subst P pass.named (searched_well plan.form ws q)).inside

load_ok : (ws : List ℕ) (w : Width) (r : Result Place Fault) → is_ok (load_at ws w r) ≡ true → (p : Place) × (r ≡ Ok p)
load_ok ws w (Ok p) e = (p, refl)
load_ok ws w (Err x) e = absurd (both_ways _ refl e)

store_ok : (ws : List ℕ) (w : Width) (value : ℕ) (r : Result Place Fault) → is_ok (store_at ws w value r) ≡ true → (p : Place) × (r ≡ Ok p)
store_ok ws w value (Ok p) e = (p, refl)
store_ok ws w value (Err x) e = absurd (both_ways _ refl e)

essence_ok : (r : Answer) (v : ℕ) → essence r ≡ Ok v → is_ok r ≡ true
essence_ok (Ok a) v e = refl
essence_ok (Err x) v e = let z : ◌≡◌ {A = ℕ} 0 1 = cc in absurd (omega arith)

pub load_passes :
    (plan : PlanNumbers) (ws : List ℕ) (s : UnitState) (w : Width) (address : ℕ) (t : AccessType) →
    Agrees plan ws s →
    is_ok (load_at ws w (translated plan ws s address t)) ≡ true →
    Passes plan ws s address t
load_passes plan ws s w address t agrees e =
    let at = load_ok ws w (translated plan ws s address t) e in leads_passes plan ws s address t at.0 agrees at.1

pub store_passes :
    (plan : PlanNumbers) (ws : List ℕ) (s : UnitState) (w : Width) (value address : ℕ) (t : AccessType) →
    Agrees plan ws s →
    is_ok (store_at ws w value (translated plan ws s address t)) ≡ true →
    Passes plan ws s address t
store_passes plan ws s w value address t agrees e =
    let at = store_ok ws w value (translated plan ws s address t) e in leads_passes plan ws s address t at.0 agrees at.1

pub load_accepts :
    (plan : PlanNumbers) (ws : List ℕ) (s : UnitState) (w : Width) (address : ℕ) (t : AccessType) →
    Planned plan.form plan.exponent →
    Agrees plan ws s →
    Passes plan ws s address t →
    is_ok (load_at ws w (translated plan ws s address t)) ≡ true
load_accepts plan ws s w address t planned agrees pass =
    let number = pass.found.entry * plan.form.page + place_in_page plan.form (offset_of address) in
    let inside = place_inside plan.form plan.exponent pass.found.entry (offset_of address) ws planned pass.sized (found_inside plan ws s address t pass) in
    essence_ok
    (load_at ws w (translated plan ws s address t))
    (loaded ws w number)
    (load_plain ws w (translated plan ws s address t)
    ∙ ap (plain_load ws w) (translated-plain plan ws s address t agrees ∙ passes_leads plan ws s address t pass)
    ∙ cond-true (ltb (number / 4) (length ws)) _ _ (lt-ltb _ _ inside))

pub store-accepts :
    (plan : PlanNumbers) (ws : List ℕ) (s : UnitState) (w : Width) (value address : ℕ) (t : AccessType) →
    Planned plan.form plan.exponent →
    Agrees plan ws s →
    value < value_limit w →
    Passes plan ws s address t →
    is_ok (store_at ws w value (translated plan ws s address t)) ≡ true
store-accepts plan ws s w value address t planned agrees fits pass =
    let number = pass.found.entry * plan.form.page + place_in_page plan.form (offset_of address) in
    let inside = place_inside plan.form plan.exponent pass.found.entry (offset_of address) ws planned pass.sized (found_inside plan ws s address t pass) in
    let done : store_of ws w number value ≡ Ok tt =
    cond-true (ltb value (value_limit w)) _ _ (lt-ltb _ _ fits) ∙ cond-true (ltb (number / 4) (length ws)) _ _ (lt-ltb _ _ inside)
    in
    essence_ok
    (store_at ws w value (translated plan ws s address t))
    0
    (store-plain ws w value (translated plan ws s address t)
    ∙ ap (plain_store ws w value) (translated-plain plan ws s address t agrees ∙ passes_leads plan ws s address t pass)
    ∙ ap zeroed done)

-- but for the count and the last entry, the answer is that of empty buffers
pub load_unseen :
    (plan : PlanNumbers) (ws : List ℕ) (s : UnitState) (w : Width) (address : ℕ) (t : AccessType) →
    Agrees plan ws s →
    essence (load_at ws w (translated plan ws s address t))
    ≡ essence (load_at ws w (translated plan ws (without_buffers s) address t))
load_unseen plan ws s w address t agrees =
    load_plain ws w (translated plan ws s address t)
    ∙ ap (plain_load ws w) (translated-plain plan ws s address t agrees ∙ sym (translated-plain plan ws (without_buffers s) address t (each_empty _)))
    ∙ sym (load_plain ws w (translated plan ws (without_buffers s) address t))

pub store_unseen :
    (plan : PlanNumbers) (ws : List ℕ) (s : UnitState) (w : Width) (value address : ℕ) (t : AccessType) →
    Agrees plan ws s →
    essence (store_at ws w value (translated plan ws s address t))
    ≡ essence (store_at ws w value (translated plan ws (without_buffers s) address t))
store_unseen plan ws s w value address t agrees =
    store-plain ws w value (translated plan ws s address t)
    ∙ ap (plain_store ws w value) (translated-plain plan ws s address t agrees ∙ sym (translated-plain plan ws (without_buffers s) address t (each_empty _)))
    ∙ sym (store-plain ws w value (translated plan ws (without_buffers s) address t))

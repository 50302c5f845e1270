-- What a translation that leads to a place says.
use Rattle.std.proofs.Common.{◌≡◌, ℕ, ◌+◌, ◌*◌, ◌/◌, ◌%◌, ◌<◌, ◌≤◌, ⊎_elim, Bool, true, false, cond, List, Some, None, Ok, Err, Option, Result, sym, refl, subst, arith}
use Rattle.refusals.specs.declared.refusal.Refusal.{Refusal}
use Rattle.paging.specs.Numbers.{PlanNumbers}
use Rattle.paging.specs.declared.geometry.PageGeometry.{PageGeometry}
use Rattle.paging.specs.Plan.{page_count}
use Rattle.paging.specs.Address.{offset_of, page_of}
use Rattle.paging.proofs.Pages.{Wide, Whole, page_length, pages_bounded}
use Rattle.protection.specs.declared.register.SegmentRegister.{SegmentRegister}
use Rattle.protection.specs.declared.access_type.AccessType.{AccessType}
use Rattle.protection.specs.Permission.{permitted}
use Rattle.tlb.specs.Lookup.{EachNear}
use Rattle.page_table.specs.declared.walk.Fault.{Fault}
use Rattle.unit_state.specs.declared.state.UnitState.{UnitState}
use Rattle.unit_state.specs.declared.translation.Located.{Located}
use Rattle.unit_state.specs.declared.translation.Place.{Place}
use Rattle.unit_state.specs.Translation.{segment_at, tag_at, entry_refusal, protection_refusal, place_at, judged, refused_or, located, translated}
use Rattle.unit_state.proofs.Locating.{located_near}

-- nothing refuses the request, the page was found, and protection permits it
pub record Leads (plan : PlanNumbers) (ws : List ℕ) (s : UnitState) (address : ℕ) (t : AccessType) (p : Place) : Type 0 where
  pub entered : entry_refusal plan.exponent ws (segment_at s address) ≡ None
  pub found : Located
  pub is : located plan ws s (tag_at plan.form (segment_at s address) address) ≡ Ok found
  pub permits : permitted plan.form (segment_at s address) found.translation.page s.transaction (offset_of address) t ≡ true
  pub place : p ≡ place_at plan.form (offset_of address) found

pub translated_leads :
    (plan : PlanNumbers) (ws : List ℕ) (s : UnitState) (address : ℕ) (t : AccessType) (p : Place) →
    translated plan ws s address t ≡ Ok p →
    Leads plan ws s address t p
unfolding translated
translated_leads plan ws s address t p e = enters (entry_refusal plan.exponent ws r) refl e
  where
    r : SegmentRegister
    r = segment_at s address

    offset : ℕ
    offset = offset_of address

    found : Result Located Fault
    found = located plan ws s (tag_at plan.form r address)

    allows :
        (l : Located) (allowed : Bool) →
        entry_refusal plan.exponent ws r ≡ None →
        found ≡ Ok l →
        permitted plan.form r l.translation.page s.transaction offset t ≡ allowed →
        cond {A = Result Place Fault} allowed (Ok (place_at plan.form offset l)) (Err (record { refusal = protection_refusal r; compared = l.compared })) ≡ Ok p →
        Leads plan ws s address t p
    allows l true entered is permits place =
        let same : p ≡ place_at plan.form offset l = cc in
        record { entered = entered; found = l; is = is; permits = permits; place = same }
    allows l false entered is permits place = let z : ◌≡◌ {A = ℕ} 0 1 = cc in absurd (omega arith)

    finds :
        (x : Result Located Fault) →
        entry_refusal plan.exponent ws r ≡ None →
        found ≡ x →
        judged plan.form r s.transaction offset t x ≡ Ok p →
        Leads plan ws s address t p
    finds (Ok l) entered is place = allows l (permitted plan.form r l.translation.page s.transaction offset t) entered is refl place
    finds (Err fault) entered is place = let z : ◌≡◌ {A = ℕ} 0 1 = cc in absurd (omega arith)

    enters :
        (o : Option Refusal) →
        entry_refusal plan.exponent ws r ≡ o →
        refused_or o (judged plan.form r s.transaction offset t found) ≡ Ok p →
        Leads plan ws s address t p
    enters None entered place = finds found entered refl place
    enters (Some refusal) entered place = let z : ◌≡◌ {A = ℕ} 0 1 = cc in absurd (omega arith)

-- a permitted request leads to one of 8,192 pages, where there are no more
pub translated_near :
    (plan : PlanNumbers) (ws : List ℕ) (s : UnitState) (address : ℕ) (t : AccessType) (p : Place) →
    page_count plan.form plan.exponent ≤ 8192 →
    EachNear s.buffers →
    translated plan ws s address t ≡ Ok p →
    p.page < 8192
translated_near plan ws s address t p few near e =
    let leads = translated_leads plan ws s address t p e in
    let low = located_near plan ws s (tag_at plan.form (segment_at s address) address) leads.found few near leads.is in
    subst (λ (x : Place). x.page < 8192) (sym leads.place) low

-- under every settled plan there are no more
pub place_near :
    (plan : PlanNumbers) (ws : List ℕ) (s : UnitState) (address : ℕ) (t : AccessType) (p : Place) →
    Wide plan.form →
    Whole plan.form →
    16 ≤ plan.exponent →
    plan.exponent ≤ 24 →
    EachNear s.buffers →
    translated plan ws s address t ≡ Ok p →
    p.page < 8192
place_near plan ws s address t p wide whole large small near e =
    translated_near plan ws s address t p (pages_bounded plan.form plan.exponent wide whole large small).1 near e

-- its real address lies in that page
place_in_page_of :
    (plan : PlanNumbers) (ws : List ℕ) (s : UnitState) (address : ℕ) (t : AccessType) (p : Place) →
    Wide plan.form →
    Whole plan.form →
    translated plan ws s address t ≡ Ok p →
    page_of plan.form p.address.number ≡ p.page
place_in_page_of plan ws s address t p wide whole e =
    let leads = translated_leads plan ws s address t p e in
    let at = entry_page plan.form leads.found.translation.entry (offset_of address) wide whole in
    subst (λ (x : Place). page_of plan.form x.address.number ≡ x.page) (sym leads.place) at
  where
    entry_page :
        (f : PageGeometry) (entry offset : ℕ) → Wide f → Whole f → (entry * f.page + offset % f.page) / f.page ≡ entry
    entry_page f entry offset wide whole =
        ⊎_elim
        (λ l. subst (λ (x : ℕ). (entry * x + offset % x) / x ≡ entry) (sym l) (omega arith))
        (λ l. subst (λ (x : ℕ). (entry * x + offset % x) / x ≡ entry) (sym l) (omega arith))
        (page_length f wide whole)

-- what a request gives or leaves at the place that it leads to
pub at_place :
    (plan : PlanNumbers) (ws : List ℕ) (s : UnitState) (address : ℕ) (t : AccessType) (p : Place) (Bytes : Place → Type 0) →
    Wide plan.form →
    Whole plan.form →
    translated plan ws s address t ≡ Ok p →
    Bytes p →
    (q : Place) × (translated plan ws s address t ≡ Ok q) × (page_of plan.form q.address.number ≡ q.page) × Bytes q
at_place plan ws s address t p Bytes wide whole e bytes = (p, e, place_in_page_of plan ws s address t p wide whole e, bytes)

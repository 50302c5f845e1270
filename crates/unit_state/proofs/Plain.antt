-- Requests without the look-aside buffers: what the tables alone answer.
use Rattle.std.proofs.Common.{◌≡◌, ℕ, ◌+◌, ◌*◌, Bool, true, false, cond, List, Some, None, Ok, Err, Option, Result, sym, refl, ap, ◌∙◌}
use Rattle.refusals.specs.declared.refusal.Refusal.{Refusal}
use Rattle.paging.specs.declared.geometry.PageGeometry.{PageGeometry}
use Rattle.paging.specs.Numbers.{PlanNumbers}
use Rattle.paging.specs.Address.{offset_of, place_in_page}
use Rattle.page_table.specs.declared.entry.Tag.{Tag}
use Rattle.page_table.specs.Search.{Outcome}
use Rattle.lanes.specs.declared.width.Width.{Width}
use Rattle.lanes.specs.Lanes.{load_of, store_of}
use Rattle.protection.specs.declared.register.SegmentRegister.{SegmentRegister}
use Rattle.protection.specs.declared.access_type.AccessType.{AccessType}
use Rattle.protection.specs.Permission.{permitted}
use Rattle.tlb.specs.declared.buffers.Translation.{Translation}
use Rattle.tlb.specs.Lookup.{hit_of}
use Rattle.tlb.proofs.Entries.{hit_each}
use Rattle.page_table.specs.declared.walk.Fault.{Fault}
use Rattle.unit_state.specs.declared.state.UnitState.{UnitState}
use Rattle.unit_state.specs.declared.translation.Located.{Located}
use Rattle.unit_state.specs.declared.translation.Place.{Place}
use Rattle.unit_state.specs.Translation.{
  segment_at,
  tag_at,
  entry_refusal,
  kept_of,
  located_by,
  found_for,
  located,
  protection_refusal,
  place_at,
  judged,
  refused_or,
  translated,
}
use Rattle.unit_state.specs.Requests.{loaded_from, stored_to, load_at, store_at}
use Rattle.unit_state.specs.Laws.{Named, Agrees, essence}

abbrev pub plain_located : Result Located Fault → Result Translation Refusal
plain_located (Ok l) = Ok l.translation
plain_located (Err e) = Err e.refusal

abbrev pub plain_named : Outcome → Result Translation Refusal
plain_named (Ok x) = Ok (kept_of x)
plain_named (Err e) = Err e.refusal

pub located-plain :
    (plan : PlanNumbers) (ws : List ℕ) (s : UnitState) (tag : Tag) →
    Agrees plan ws s →
    plain_located (located plan ws s tag) ≡ plain_named (found_for plan ws s tag)
unfolding located
located-plain plan ws s tag agrees = ways (hit_of s.buffers tag) refl (found_for plan ws s tag) refl
  where
    ways :
        (h : Option Translation) →
        hit_of s.buffers tag ≡ h →
        (r : Outcome) →
        found_for plan ws s tag ≡ r →
        plain_located (located_by h r) ≡ plain_named r
    ways (Some t) hit r is =
        let held = hit_each (Named plan ws s) s.buffers tag t agrees hit in
        let there = ap (found_for plan ws s) (sym held.1) ∙ held.0.is in
        ap (λ (x : Translation). Ok x) (sym held.0.kept) ∙ ap plain_named (sym there ∙ is)
    ways None _ (Ok x) _ = refl
    ways None _ (Err e) _ = refl

-- a place by its real address and its real page
abbrev pub Spot : Type 0
Spot = ℕ × ℕ

abbrev pub plain_place : Result Place Fault → Result Spot Refusal
plain_place (Ok p) = Ok (p.address.number, p.page)
plain_place (Err e) = Err e.refusal

abbrev pub plain_judged :
    PageGeometry → SegmentRegister → ℕ → ℕ → AccessType → Result Translation Refusal → Result Spot Refusal
plain_judged f r transaction offset t (Ok x) =
    cond {A = Result Spot Refusal}
    (permitted f r x.page transaction offset t)
    (Ok (x.entry * f.page + place_in_page f offset, x.entry))
    (Err (protection_refusal r))
plain_judged f r transaction offset t (Err e) = Err e

judged-plain :
    (f : PageGeometry) (r : SegmentRegister) (transaction offset : ℕ) (t : AccessType) (x : Result Located Fault) →
    plain_place (judged f r transaction offset t x) ≡ plain_judged f r transaction offset t (plain_located x)
judged-plain f r transaction offset t (Ok l) = ways (permitted f r l.translation.page transaction offset t)
  where
    ways :
        (b : Bool) →
        plain_place (cond {A = Result Place Fault} b (Ok (place_at f offset l)) (Err (record { refusal = protection_refusal r; compared = l.compared })))
        ≡ cond {A = Result Spot Refusal}
        b
        (Ok (l.translation.entry * f.page + place_in_page f offset, l.translation.entry))
        (Err (protection_refusal r))
    ways true = refl
    ways false = refl
judged-plain f r transaction offset t (Err e) = refl

abbrev pub plain_refused_or : Option Refusal → Result Spot Refusal → Result Spot Refusal
plain_refused_or None r = r
plain_refused_or (Some e) r = Err e

-- the translation by the tables alone
abbrev pub plain_translated : PlanNumbers → List ℕ → UnitState → ℕ → AccessType → Result Spot Refusal
plain_translated plan ws s address t =
    plain_refused_or
    (entry_refusal plan.exponent ws (segment_at s address))
    (plain_judged
    plan.form
    (segment_at s address)
    s.transaction
    (offset_of address)
    t
    (plain_named (found_for plan ws s (tag_at plan.form (segment_at s address) address))))

pub translated-plain :
    (plan : PlanNumbers) (ws : List ℕ) (s : UnitState) (address : ℕ) (t : AccessType) →
    Agrees plan ws s →
    plain_place (translated plan ws s address t) ≡ plain_translated plan ws s address t
unfolding translated
translated-plain plan ws s address t agrees = ways (entry_refusal plan.exponent ws r)
  where
    r : SegmentRegister
    r = segment_at s address

    found : Result Located Fault
    found = located plan ws s (tag_at plan.form r address)

    ways :
        (o : Option Refusal) →
        plain_place (refused_or o (judged plan.form r s.transaction (offset_of address) t found))
        ≡ plain_refused_or o (plain_judged plan.form r s.transaction (offset_of address) t (plain_named (found_for plan ws s (tag_at plan.form r address))))
    ways (Some e) = refl
    ways None =
        judged-plain plan.form r s.transaction (offset_of address) t found
        ∙ ap (plain_judged plan.form r s.transaction (offset_of address) t) (located-plain plan ws s (tag_at plan.form r address) agrees)

abbrev pub plain_load : List ℕ → Width → Result Spot Refusal → Result ℕ Refusal
plain_load ws w (Ok p) = load_of ws w p.0
plain_load ws w (Err e) = Err e

abbrev pub zeroed : Result (Unit {0}) Refusal → Result ℕ Refusal
zeroed (Ok done) = Ok 0
zeroed (Err e) = Err e

abbrev pub plain_store : List ℕ → Width → ℕ → Result Spot Refusal → Result ℕ Refusal
plain_store ws w value (Ok p) = zeroed (store_of ws w p.0 value)
plain_store ws w value (Err e) = Err e

loaded-plain : (p : Place) (r : Result ℕ Refusal) → essence (loaded_from p r) ≡ r
loaded-plain p (Ok value) = refl
loaded-plain p (Err e) = refl

stored-plain : (p : Place) (r : Result (Unit {0}) Refusal) → essence (stored_to p r) ≡ zeroed r
stored-plain p (Ok done) = refl
stored-plain p (Err e) = refl

pub load_plain : (ws : List ℕ) (w : Width) (r : Result Place Fault) → essence (load_at ws w r) ≡ plain_load ws w (plain_place r)
load_plain ws w (Ok p) = loaded-plain p (load_of ws w p.address.number)
load_plain ws w (Err e) = refl

pub store-plain :
    (ws : List ℕ) (w : Width) (value : ℕ) (r : Result Place Fault) →
    essence (store_at ws w value r) ≡ plain_store ws w value (plain_place r)
store-plain ws w value (Ok p) = stored-plain p (store_of ws w p.address.number value)
store-plain ws w value (Err e) = refl

-- Requests are accepted exactly where no rule is broken by the tables at the start, and refused by the first that is.
use Rattle.std.proofs.Common.{◌≡◌, ℕ, ◌/◌, ◌<◌, Bool, true, false, cond, ltb, List, length, Some, Ok, Err, Option, Result, sym, refl, ap, ◌∙◌, subst}
use Rattle.std.proofs.lemmas.Bool.{cond-true, lt-ltb}
use Rattle.refusals.specs.declared.refusal.Refusal.{Refusal}
use Rattle.refusals.specs.declared.refusal.Refusal.TheVariants.{ValueTooWide}
use Rattle.paging.specs.Numbers.{PlanNumbers}
use Rattle.paging.specs.Address.{offset_of}
use Rattle.lanes.specs.declared.width.Width.{Width}
use Rattle.lanes.specs.Lanes.{value_limit, store_of}
use Rattle.protection.specs.declared.access_type.AccessType.{AccessType}
use Rattle.protection.specs.declared.access_type.AccessType.TheVariants.{Load, Store}
use Rattle.unit_state.specs.declared.state.UnitState.{UnitState}
use Rattle.unit_state.specs.Grants.{broken_rule}
use Rattle.unit_state.proofs.Plain.{Spot, plain_translated, plain_load, plain_store, zeroed}
use Rattle.unit_state.proofs.Passing.{Planned, place_inside, found_inside, plain_passes}
use Rattle.unit_state.proofs.Standing.{refused_by, rule_plain}
use Rattle.unit_state.proofs.Granting.{plain_store_answer}

-- where the translation leads to is a place of the storage
pub spot_inside :
    (plan : PlanNumbers) (start ws : List ℕ) (s : UnitState) (address : ℕ) (t : AccessType) (p : Spot) →
    Planned plan.form plan.exponent →
    length ws ≡ length start →
    plain_translated plan start s address t ≡ Ok p →
    p.0 / 4 < length ws
spot_inside plan start ws s address t p planned long is =
    let pass = plain_passes plan start s address t p is in
    let inside = place_inside plan.form plan.exponent pass.0.found.entry (offset_of address) start planned pass.0.sized (found_inside plan start s address t pass.0) in
    subst (λ (n : ℕ). p.0 / 4 < n) (sym long) (subst (λ (x : Spot). x.0 / 4 < length start) (sym pass.1) inside)

pub load_rule :
    (plan : PlanNumbers) (start ws : List ℕ) (s : UnitState) (w : Width) (address : ℕ) →
    Planned plan.form plan.exponent →
    length ws ≡ length start →
    refused_by (plain_load ws w (plain_translated plan start s address Load)) ≡ broken_rule plan start s address Load
load_rule plan start ws s w address planned long =
    ways (plain_translated plan start s address Load) refl ∙ rule_plain plan start s address Load
  where
    ways :
        (r : Result Spot Refusal) →
        plain_translated plan start s address Load ≡ r →
        refused_by (plain_load ws w r) ≡ refused_by r
    ways (Ok p) is =
        ap refused_by (cond-true (ltb (p.0 / 4) (length ws)) _ _ (lt-ltb _ _ (spot_inside plan start ws s address Load p planned long is)))
    ways (Err e) is = refl

pub store_rule :
    (plan : PlanNumbers) (start ws : List ℕ) (s : UnitState) (w : Width) (value address : ℕ) →
    Planned plan.form plan.exponent →
    length ws ≡ length start →
    refused_by (plain_store_answer ws w value (plain_translated plan start s address Store))
    ≡ cond (ltb value (value_limit w)) (broken_rule plan start s address Store) (Some ValueTooWide)
store_rule plan start ws s w value address planned long =
    ways (plain_translated plan start s address Store) refl (ltb value (value_limit w)) refl
    ∙ ap (λ (o : Option Refusal). cond (ltb value (value_limit w)) o (Some ValueTooWide)) (rule_plain plan start s address Store)
  where
    ways :
        (r : Result Spot Refusal) →
        plain_translated plan start s address Store ≡ r →
        (b : Bool) →
        ltb value (value_limit w) ≡ b →
        refused_by (cond b (plain_store ws w value r) (Err ValueTooWide)) ≡ cond b (refused_by r) (Some ValueTooWide)
    ways r is false wide = refl
    ways (Err e) is true fits = refl
    ways (Ok p) is true fits =
        let inside = cond-true (ltb (p.0 / 4) (length ws)) (Ok tt) _ (lt-ltb _ _ (spot_inside plan start ws s address Store p planned long is)) in
        let done : store_of ws w p.0 value ≡ Ok tt = cond-true (ltb value (value_limit w)) _ _ fits ∙ inside in
        ap (λ (x : Result (Unit {0}) Refusal). refused_by (zeroed x)) done

-- While no table word is granted for storing, requests are judged by the tables as they were at first.
use Rattle.std.proofs.Common.{◌≡◌, ℕ, ◌+◌, ◌*◌, ◌<◌, Bool, true, false, cond, List, length, Some, None, Ok, Err, Option, Result, eqb, sym, refl, ap, ◌∙◌}
use Rattle.refusals.specs.declared.refusal.Refusal.{Refusal}
use Rattle.refusals.specs.declared.refusal.Refusal.TheVariants.{SizeDiffers}
use Rattle.paging.specs.Numbers.{PlanNumbers}
use Rattle.paging.specs.Address.{offset_of, place_in_page}
use Rattle.paging.specs.Plan.{page_count, storage_bytes}
use Rattle.page_table.specs.declared.entry.Tag.{Tag}
use Rattle.page_table.specs.declared.walk.Found.{Found}
use Rattle.page_table.specs.Search.{Outcome, query_of, found_in}
use Rattle.page_table.specs.Laws.{AlikeTables}
use Rattle.page_table.proofs.Alike.{searched_alike}
use Rattle.protection.specs.declared.register.SegmentRegister.{SegmentRegister}
use Rattle.protection.specs.declared.access_type.AccessType.{AccessType}
use Rattle.protection.specs.Permission.{permitted}
use Rattle.unit_state.specs.declared.state.UnitState.{UnitState}
use Rattle.unit_state.specs.Translation.{segment_at, tag_at, segment_refusal, entry_refusal, found_for, protection_refusal}
use Rattle.unit_state.specs.Laws.{Agrees}
use Rattle.unit_state.specs.Grants.{judged_rule, or_then, broken_rule}
use Rattle.unit_state.proofs.Plain.{Spot, plain_named, plain_judged, plain_refused_or, plain_translated}

-- the refusal of what is refused
abbrev pub refused_by : {X : Type 0} → Result X Refusal → Option Refusal
refused_by (Ok x) = None
refused_by (Err e) = Some e

-- The registers are those of the first unit, the tables those of the first storage, and the buffers agree with them.
pub record Standing (plan : PlanNumbers) (start : List ℕ) (first : UnitState) (ws : List ℕ) (s : UnitState) : Type 0 where
  pub segments : s.segments ≡ first.segments
  pub transaction : s.transaction ≡ first.transaction
  pub long_stop : s.long_stop ≡ first.long_stop
  pub long : length start ≡ length ws
  pub alike : (tag : Tag) → AlikeTables (query_of plan first.long_stop tag) start ws
  pub agrees : Agrees plan ws s

pub found_same :
    (plan : PlanNumbers) (start : List ℕ) (first : UnitState) (ws : List ℕ) (s : UnitState) →
    0 < page_count plan.form plan.exponent →
    Standing plan start first ws s →
    (tag : Tag) →
    found_for plan ws s tag ≡ found_for plan start first tag
found_same plan start first ws s some standing tag =
    ap (λ (long : Bool). found_in plan.form ws (query_of plan long tag)) standing.long_stop
    ∙ sym (searched_alike plan.form start ws (query_of plan first.long_stop tag) some (standing.alike tag))

pub segment_same :
    (plan : PlanNumbers) (start : List ℕ) (first : UnitState) (ws : List ℕ) (s : UnitState) →
    Standing plan start first ws s →
    (address : ℕ) →
    segment_at s address ≡ segment_at first address
segment_same plan start first ws s standing address =
    ap (λ (xs : List SegmentRegister). segment_at (record { segments = xs; transaction = 0; long_stop = false; buffers = s.buffers; exceptions = s.exceptions; marks = s.marks }) address) standing.segments

entry_same :
    (plan : PlanNumbers) (start : List ℕ) (first : UnitState) (ws : List ℕ) (s : UnitState) →
    Standing plan start first ws s →
    (address : ℕ) →
    entry_refusal plan.exponent ws (segment_at s address) ≡ entry_refusal plan.exponent start (segment_at first address)
entry_same plan start first ws s standing address =
    ap (entry_refusal plan.exponent ws) (segment_same plan start first ws s standing address)
    ∙ ap
    (λ (n : ℕ). cond (eqb (4 * n) (storage_bytes plan.exponent)) (segment_refusal (segment_at first address)) (Some SizeDiffers))
    (sym standing.long)

named_same :
    (plan : PlanNumbers) (start : List ℕ) (first : UnitState) (ws : List ℕ) (s : UnitState) →
    0 < page_count plan.form plan.exponent →
    Standing plan start first ws s →
    (address : ℕ) →
    found_for plan ws s (tag_at plan.form (segment_at s address) address)
    ≡ found_for plan start first (tag_at plan.form (segment_at first address) address)
named_same plan start first ws s some standing address =
    found_same plan start first ws s some standing (tag_at plan.form (segment_at s address) address)
    ∙ ap (λ (r : SegmentRegister). found_for plan start first (tag_at plan.form r address)) (segment_same plan start first ws s standing address)

-- what is made of the refusal before a search, of the register, the transaction ID and what the search finds
pub judged_same :
    {X : Type 0} (made : Option Refusal → SegmentRegister → ℕ → Outcome → X) →
    (plan : PlanNumbers) (start : List ℕ) (first : UnitState) (ws : List ℕ) (s : UnitState) →
    0 < page_count plan.form plan.exponent →
    Standing plan start first ws s →
    (address : ℕ) →
    made (entry_refusal plan.exponent ws (segment_at s address)) (segment_at s address) s.transaction (found_for plan ws s (tag_at plan.form (segment_at s address) address))
    ≡ made
    (entry_refusal plan.exponent start (segment_at first address))
    (segment_at first address)
    first.transaction
    (found_for plan start first (tag_at plan.form (segment_at first address) address))
judged_same made plan start first ws s some standing address =
    let a = entry_same plan start first ws s standing address in
    let b = segment_same plan start first ws s standing address in
    let c = standing.transaction in
    let d = named_same plan start first ws s some standing address in
    ap (λ o. made o (segment_at s address) s.transaction (found_for plan ws s (tag_at plan.form (segment_at s address) address))) a
    ∙ ap (λ r. made (entry_refusal plan.exponent start (segment_at first address)) r s.transaction (found_for plan ws s (tag_at plan.form (segment_at s address) address))) b
    ∙ ap (λ n. made (entry_refusal plan.exponent start (segment_at first address)) (segment_at first address) n (found_for plan ws s (tag_at plan.form (segment_at s address) address))) c
    ∙ ap (made (entry_refusal plan.exponent start (segment_at first address)) (segment_at first address) first.transaction) d

pub plain_same :
    (plan : PlanNumbers) (start : List ℕ) (first : UnitState) (ws : List ℕ) (s : UnitState) →
    0 < page_count plan.form plan.exponent →
    Standing plan start first ws s →
    (address : ℕ) (t : AccessType) →
    plain_translated plan ws s address t ≡ plain_translated plan start first address t
plain_same plan start first ws s some standing address t =
    judged_same
    (λ o r n x. plain_refused_or o (plain_judged plan.form r n (offset_of address) t (plain_named x)))
    plan
    start
    first
    ws
    s
    some
    standing
    address

-- the first rule that the tables break is the refusal of the translation by them
pub rule_plain :
    (plan : PlanNumbers) (ws : List ℕ) (s : UnitState) (address : ℕ) (t : AccessType) →
    refused_by (plain_translated plan ws s address t) ≡ broken_rule plan ws s address t
rule_plain plan ws s address t = enters (entry_refusal plan.exponent ws r)
  where
    r : SegmentRegister
    r = segment_at s address

    judges :
        (x : Outcome) →
        refused_by (plain_judged plan.form r s.transaction (offset_of address) t (plain_named x))
        ≡ judged_rule plan.form r s.transaction (offset_of address) t x
    judges (Ok x) = allows (permitted plan.form r x.page s.transaction (offset_of address) t) x
      where
        allows :
            (b : Bool) (x : Found) →
            refused_by
            (cond {A = Result Spot Refusal}
            b
            (Ok (x.entry * plan.form.page + place_in_page plan.form (offset_of address), x.entry))
            (Err (protection_refusal r)))
            ≡ cond b None (Some (protection_refusal r))
        allows true x = refl
        allows false x = refl
    judges (Err e) = refl

    enters :
        (o : Option Refusal) →
        refused_by (plain_refused_or o (plain_judged plan.form r s.transaction (offset_of address) t (plain_named (found_for plan ws s (tag_at plan.form r address)))))
        ≡ or_then o (judged_rule plan.form r s.transaction (offset_of address) t (found_for plan ws s (tag_at plan.form r address)))
    enters (Some e) = refl
    enters None = judges (found_for plan ws s (tag_at plan.form r address))

-- Requests alter granted words alone, and leave what stands.
use Rattle.std.proofs.Common.{◌≡◌, ℕ, ◌*◌, ◌/◌, ◌<◌, ◌≢◌, Bool, true, false, cond, ltb, List, length, get_or, Ok, Err, Result, sym, refl, ap, ◌∙◌, arith, ◌^◌, get_or-set_other}
use Rattle.std.proofs.lemmas.Bool.Decides.{nat_tests}
use Rattle.refusals.specs.declared.refusal.Refusal.{Refusal}
use Rattle.refusals.specs.declared.refusal.Refusal.TheVariants.{ValueTooWide}
use Rattle.storage.specs.Words.{read_of, written, merged}
use Rattle.storage.proofs.Tabulated.{length-written}
use Rattle.paging.specs.Numbers.{PlanNumbers}
use Rattle.paging.specs.declared.address.EffectiveAddress.{EffectiveAddress}
use Rattle.paging.specs.Plan.{page_count}
use Rattle.page_table.specs.declared.walk.Fault.{Fault}
use Rattle.page_table.specs.Search.{uncompared}
use Rattle.page_table.proofs.Alike.{read_same}
use Rattle.lanes.specs.declared.width.Width.{Width}
use Rattle.lanes.specs.Lanes.{value_limit, shift_of, mask_of, stored, stored_if}
use Rattle.protection.specs.declared.access_type.AccessType.TheVariants.{Load, Store}
use Rattle.unit_state.specs.declared.state.UnitState.{UnitState}
use Rattle.unit_state.specs.declared.translation.Place.{Place}
use Rattle.unit_state.specs.Answers.{Answer}
use Rattle.unit_state.specs.Translation.{translated_state}
use Rattle.unit_state.specs.Requests.{used_at, noted_in, load_at, store_at, words_at, load_place, store_place, load_answer, after_load, store_answer, after_store, store_words}
use Rattle.unit_state.specs.Laws.{essence}
use Rattle.unit_state.specs.Grants.{TableWord, Granted, Closed}
use Rattle.unit_state.proofs.Plain.{Spot, plain_place, plain_translated, plain_load, plain_store, translated-plain, load_plain, store-plain}
use Rattle.unit_state.proofs.Passing.{plain_passes}
use Rattle.unit_state.proofs.Agreeing.{agrees_after, agrees_alike, registers_after}
use Rattle.unit_state.proofs.Standing.{Standing, plain_same}

-- the words after a store at the place that it leads to
abbrev pub plain_stored : List ℕ → Width → ℕ → Result Spot Refusal → List ℕ
plain_stored ws w value (Ok p) = stored_if ws w p.0 value
plain_stored ws w value (Err e) = ws

words_plain :
    (ws : List ℕ) (w : Width) (value : ℕ) (r : Result Place Fault) → words_at ws w value r ≡ plain_stored ws w value (plain_place r)
words_plain ws w value (Ok p) = refl
words_plain ws w value (Err e) = refl

-- what a request answers and stores, by the tables as they were at first
pub load_essence :
    (plan : PlanNumbers) (start : List ℕ) (first : UnitState) (ws : List ℕ) (s : UnitState) (w : Width) (address : EffectiveAddress) →
    0 < page_count plan.form plan.exponent →
    Standing plan start first ws s →
    essence (load_answer plan ws s w address) ≡ plain_load ws w (plain_translated plan start first address.number Load)
unfolding load_answer
load_essence plan start first ws s w address some standing =
    load_plain ws w (load_place plan ws s address)
    ∙ ap (plain_load ws w) (translated-plain plan ws s address.number Load standing.agrees ∙ plain_same plan start first ws s some standing address.number Load)

abbrev pub plain_store_answer : List ℕ → Width → ℕ → Result Spot Refusal → Result ℕ Refusal
plain_store_answer ws w value r = cond (ltb value (value_limit w)) (plain_store ws w value r) (Err ValueTooWide)

abbrev pub plain_store_words : List ℕ → Width → ℕ → Result Spot Refusal → List ℕ
plain_store_words ws w value r = cond (ltb value (value_limit w)) (plain_stored ws w value r) ws

pub store_essence :
    (plan : PlanNumbers) (start : List ℕ) (first : UnitState) (ws : List ℕ) (s : UnitState) (w : Width) (address : EffectiveAddress) (value : ℕ) →
    0 < page_count plan.form plan.exponent →
    Standing plan start first ws s →
    essence (store_answer plan ws s w address value) ≡ plain_store_answer ws w value (plain_translated plan start first address.number Store)
unfolding store_answer
store_essence plan start first ws s w address value some standing = ways (ltb value (value_limit w))
  where
    leads : plain_place (store_place plan ws s address) ≡ plain_translated plan start first address.number Store
    leads = translated-plain plan ws s address.number Store standing.agrees ∙ plain_same plan start first ws s some standing address.number Store

    ways :
        (b : Bool) →
        essence (cond b (store_at ws w value (store_place plan ws s address)) (Err (uncompared ValueTooWide)))
        ≡ cond b (plain_store ws w value (plain_translated plan start first address.number Store)) (Err ValueTooWide)
    ways true = store-plain ws w value (store_place plan ws s address) ∙ ap (plain_store ws w value) leads
    ways false = refl

pub store_words_plain :
    (plan : PlanNumbers) (start : List ℕ) (first : UnitState) (ws : List ℕ) (s : UnitState) (w : Width) (address : EffectiveAddress) (value : ℕ) →
    0 < page_count plan.form plan.exponent →
    Standing plan start first ws s →
    store_words plan ws s w address value ≡ plain_store_words ws w value (plain_translated plan start first address.number Store)
unfolding store_words
store_words_plain plan start first ws s w address value some standing =
    ap
    (λ (vs : List ℕ). cond (ltb value (value_limit w)) vs ws)
    (words_plain ws w value (store_place plan ws s address)
    ∙ ap (plain_stored ws w value) (translated-plain plan ws s address.number Store standing.agrees ∙ plain_same plan start first ws s some standing address.number Store))

-- a store alters no other word than the one that it leads to, which is granted
pub written_other :
    (ws : List ℕ) (n value mask k : ℕ) → k ≢ n → get_or (written ws n value mask) k 0 ≡ get_or ws k 0
written_other ws n value mask k differs =
    let other = get_or-set_other ws n k (merged (get_or ws n 0) value mask) 0 in grind (arith, nat_tests)

pub length_plain_store :
    (ws : List ℕ) (w : Width) (value : ℕ) (r : Result Spot Refusal) → length (plain_store_words ws w value r) ≡ length ws
length_plain_store ws w value (Ok p) = ways (ltb value (value_limit w))
  where
    ways : (b : Bool) → length (cond b (cond b (stored ws w p.0 value) ws) ws) ≡ length ws
    ways true = length-written ws (p.0 / 4) (value * 2 ^ shift_of w p.0) (mask_of w p.0)
    ways false = refl
length_plain_store ws w value (Err e) = ways (ltb value (value_limit w))
  where
    ways : (b : Bool) → length (cond b ws ws) ≡ length ws
    ways true = refl
    ways false = refl

pub ungranted_stays :
    (plan : PlanNumbers) (start : List ℕ) (first : UnitState) (ws : List ℕ) (w : Width) (value address n : ℕ) →
    (Granted plan start first Store n → ⊥) →
    get_or (plain_store_words ws w value (plain_translated plan start first address Store)) n 0 ≡ get_or ws n 0
ungranted_stays plan start first ws w value address n ungranted = leads (plain_translated plan start first address Store) refl
  where
    leads :
        (r : Result Spot Refusal) →
        plain_translated plan start first address Store ≡ r →
        get_or (plain_store_words ws w value r) n 0 ≡ get_or ws n 0
    leads (Err e) is = ways (ltb value (value_limit w))
      where
        ways : (b : Bool) → get_or (cond b ws ws) n 0 ≡ get_or ws n 0
        ways true = refl
        ways false = refl
    leads (Ok p) is =
        let pass = plain_passes plan start first address Store p is in
        let other : n ≢ p.0 / 4 = λ e.
        ungranted (record { address = address; passes = pass.0; word = e ∙ ap (λ (x : Spot). x.0 / 4) pass.1 })
        in
        ways other (ltb value (value_limit w))
      where
        ways : n ≢ p.0 / 4 → (b : Bool) → get_or (cond b (cond b (stored ws w p.0 value) ws) ws) n 0 ≡ get_or ws n 0
        ways other true = written_other ws (p.0 / 4) (value * 2 ^ shift_of w p.0) (mask_of w p.0) n other
        ways other false = refl

pub standing_load :
    (plan : PlanNumbers) (start : List ℕ) (first : UnitState) (ws : List ℕ) (s : UnitState) (w : Width) (address : EffectiveAddress) →
    Standing plan start first ws s →
    Standing plan start first ws (after_load plan ws s w address)
unfolding after_load
standing_load plan start first ws s w address standing =
    let place = load_place plan ws s address in
    let answer = load_at ws w place in
    record {
      segments = registers_after (λ segments transaction long. segments) plan ws s address place answer false Load ∙ standing.segments;
      transaction = registers_after (λ segments transaction long. transaction) plan ws s address place answer false Load ∙ standing.transaction;
      long_stop = registers_after (λ segments transaction long. long) plan ws s address place answer false Load ∙ standing.long_stop;
      long = standing.long;
      alike = standing.alike;
      agrees = agrees_after plan ws s address place answer false Load standing.agrees;
    }

-- the words after a store, while no word of the table is granted for storing
pub standing_words :
    (plan : PlanNumbers) (start : List ℕ) (first : UnitState) (ws : List ℕ) (s : UnitState) (w : Width) (value address : ℕ) →
    0 < page_count plan.form plan.exponent →
    Closed plan start first →
    Standing plan start first ws s →
    Standing plan start first (plain_store_words ws w value (plain_translated plan start first address Store)) s
standing_words plan start first ws s w value address some closed standing =
    let vs = plain_store_words ws w value (plain_translated plan start first address Store) in
    let long : length vs ≡ length ws = length_plain_store ws w value (plain_translated plan start first address Store) in
    let read : (n : ℕ) → TableWord plan n → read_of ws n ≡ read_of vs n = λ n inside.
    read_same ws vs n (sym long) (sym (ungranted_stays plan start first ws w value address n (closed n inside)))
    in
    record {
      segments = standing.segments;
      transaction = standing.transaction;
      long_stop = standing.long_stop;
      long = standing.long ∙ sym long;
      alike = λ tag n low high. standing.alike tag n low high ∙ read n (low, high);
      agrees = agrees_alike plan ws vs s some (λ tag n low high. read n (low, high)) standing.agrees;
    }

pub standing_store :
    (plan : PlanNumbers) (start : List ℕ) (first : UnitState) (ws : List ℕ) (s : UnitState) (w : Width) (address : EffectiveAddress) (value : ℕ) →
    Standing plan start first ws s →
    Standing plan start first ws (after_store plan ws s w address value)
unfolding after_store
standing_store plan start first ws s w address value standing = ways (ltb value (value_limit w))
  where
    place : Result Place Fault
    place = store_place plan ws s address

    answer : Answer
    answer = store_at ws w value place

    after : UnitState
    after = noted_in (used_at (translated_state plan ws s address.number) place answer true) answer address Store

    ways : (b : Bool) → Standing plan start first ws (cond b after s)
    ways false = standing
    ways true =
        record {
          segments = registers_after (λ segments transaction long. segments) plan ws s address place answer true Store ∙ standing.segments;
          transaction = registers_after (λ segments transaction long. transaction) plan ws s address place answer true Store ∙ standing.transaction;
          long_stop = registers_after (λ segments transaction long. long) plan ws s address place answer true Store ∙ standing.long_stop;
          long = standing.long;
          alike = standing.alike;
          agrees = agrees_after plan ws s address place answer true Store standing.agrees;
        }

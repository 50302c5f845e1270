-- The law over a run on one storage.
use Rattle.std.proofs.Common.{◌≡◌, ℕ, zero, suc, ◌+◌, ◌*◌, ◌/◌, ◌<◌, ◌≤◌, ltb, inl, inr, List, [], ◌∷◌, length, get_or, take, Some, Ok, Err, Result, sym, refl, ap, ◌∙◌, subst, arith}
use Rattle.std.proofs.lemmas.Bool.{cond-true, lt-ltb}
use Rattle.refusals.specs.declared.refusal.Refusal.{Refusal}
use Rattle.refusals.specs.declared.refusal.Refusal.TheVariants.{WordOutside}
use Rattle.paging.specs.declared.address.EffectiveAddress.{EffectiveAddress}
use Rattle.paging.specs.Numbers.{PlanNumbers}
use Rattle.lanes.specs.declared.width.Width.{Width}
use Rattle.lanes.specs.declared.width.Width.TheVariants.{Byte, Halfword, Word}
use Rattle.lanes.specs.Lanes.{bytes_of, aligned, loaded}
use Rattle.lanes.specs.Bytes.{byte_at, byte_of, LoadedBytes}
use Rattle.lanes.proofs.Octets.{loaded_bytes}
use Rattle.protection.specs.declared.access_type.AccessType.TheVariants
use Rattle.unit_state.specs.declared.state.UnitState.{UnitState}
use Rattle.unit_state.specs.Answers.{Answer}
use Rattle.unit_state.specs.Laws.{Passes, essence}
use Rattle.unit_state.specs.Grants.{Granted, real_in}
use Rattle.unit_state.proofs.Plain.{Spot, plain_translated, plain_load}
use Rattle.unit_state.proofs.Passing.{Planned, plain_passes}
use Rattle.unit_state.proofs.Standing.{refused_by}
use Rattle.unit_state.proofs.Granting.{ungranted_stays}
use Rattle.unit_state.proofs.Judging.{spot_inside, load_rule, store_rule}
use Rattle.runs.specs.declared.call.Call.{Call}
use Rattle.runs.specs.declared.call.Call.TheVariants.{Load, Store, ReadExceptions, ClearExceptions, ReadMark, ClearMark, PurgeAll, PurgeSegment, PurgePage}
use Rattle.runs.specs.declared.call.Reply.{Reply}
use Rattle.runs.specs.declared.call.Reply.TheVariants.{Request}
use Rattle.runs.specs.Law.{item, VirtualByte, virtual_byte, AtVirtual, AtReal, Put, Last, StartByte, LastStored, Ended, refusal_in, Judged, Lawful, Throughout}
use Rattle.runs.proofs.Plainly.{replied, next_words, Plainly}
use Rattle.runs.proofs.History.{Moment, moment, next_long}
use Rattle.runs.proofs.VirtualBytes.{RealOf, real_from, real_to, virtual_once}

-- a word that is not granted for storing
word_stays :
    (plan : PlanNumbers) (start : List ℕ) (s : UnitState) (ws : List ℕ) (c : Call) (n : ℕ) →
    (Granted plan start s TheVariants.Store n → ⊥) →
    get_or (next_words plan start s ws c) n 0 ≡ get_or ws n 0
word_stays plan start s ws (Load address w) n ungranted = refl
word_stays plan start s ws (Store address w value) n ungranted = ungranted_stays plan start s ws w value address.number n ungranted
word_stays plan start s ws ReadExceptions n ungranted = refl
word_stays plan start s ws ClearExceptions n ungranted = refl
word_stays plan start s ws (ReadMark page) n ungranted = refl
word_stays plan start s ws (ClearMark page) n ungranted = refl
word_stays plan start s ws PurgeAll n ungranted = refl
word_stays plan start s ws (PurgeSegment number) n ungranted = refl
word_stays plan start s ws (PurgePage address) n ungranted = refl

untouched :
    (plan : PlanNumbers) (start : List ℕ) (s : UnitState) (ws : List ℕ) (cs : List Call) (replies : List Reply) (end : List ℕ) →
    Plainly plan start s ws cs replies end →
    (length end ≡ length ws) × ((n : ℕ) → (Granted plan start s TheVariants.Store n → ⊥) → get_or end n 0 ≡ get_or ws n 0)
unfolding Plainly
untouched plan start s ws [] replies end run = (ap (λ (xs : List ℕ). length xs) run.1, λ n _. ap (λ (xs : List ℕ). get_or xs n 0) run.1)
untouched plan start s ws (c ∷ cs) replies end run =
    let rest = untouched plan start s (next_words plan start s ws c) cs run.1 end run.4 in (
      rest.0 ∙ next_long plan start s ws c,
      λ n ungranted. rest.1 n ungranted ∙ word_stays plan start s ws c n ungranted,
    )

all_replied :
    (plan : PlanNumbers) (start : List ℕ) (s : UnitState) (ws : List ℕ) (cs : List Call) (replies : List Reply) (end : List ℕ) →
    Plainly plan start s ws cs replies end →
    length replies ≡ length cs
unfolding Plainly
all_replied plan start s ws [] replies end run = ap (λ (rs : List Reply). length rs) run.0
all_replied plan start s ws (c ∷ cs) replies end run =
    ap (λ (rs : List Reply). length rs) run.2 ∙ ap (λ (n : ℕ). suc n) (all_replied plan start s (next_words plan start s ws c) cs run.1 end run.4)

item_inside : {X : Type 0} (xs : List X) (k : ℕ) (x : X) → item xs k ≡ Some x → k < length xs
unfolding item
item_inside [] k x is = let z : ◌≡◌ {A = ℕ} 0 1 = cc in absurd (omega arith)
item_inside (y ∷ xs) zero x is = omega arith
item_inside (y ∷ xs) (suc k) x is = let inside = item_inside xs k x is in omega arith

refusal_essence : (r : Answer) → refusal_in r ≡ refused_by (essence r)
refusal_essence (Ok a) = refl
refusal_essence (Err e) = refl

judged :
    (plan : PlanNumbers) (start : List ℕ) (s : UnitState) (cs : List Call) (replies : List Reply) (end : List ℕ) →
    Planned plan.form plan.exponent →
    Plainly plan start s start cs replies end →
    Judged plan s cs start replies
judged plan start s cs replies end planned run =
    record {
      replied = all_replied plan start s start cs replies end run;
      loads = λ k address w called.
          let at = moment plan start s planned start cs replies end refl run k (below_item called) in
          let next = at.1.next (Load address w) called in
          let given = next.2 in (
            given.0,
            next.1 ∙ ap (λ (x : Reply). Some x) given.1,
            refusal_essence given.0 ∙ ap refused_by given.2 ∙ load_rule plan start at.0 s w address.number planned at.1.long,
          );
      stores = λ k address w value called.
          let at = moment plan start s planned start cs replies end refl run k (below_item called) in
          let next = at.1.next (Store address w value) called in
          let given = next.2 in (
            given.0,
            next.1 ∙ ap (λ (x : Reply). Some x) given.1,
            refusal_essence given.0 ∙ ap refused_by given.2 ∙ store_rule plan start at.0 s w value address.number planned at.1.long,
          );
    }
  where
    below_item : {k : ℕ} {c : Call} → item cs k ≡ Some c → k ≤ length cs
    below_item {k} {c} called = let inside = item_inside cs k c called in omega arith

-- what holds of each place where a byte is put holds of the last
last_alike :
    {P Q : ℕ → ℕ → Type 0} {A B : Type 0} (k b : ℕ) →
    ((i c : ℕ) → P i c → Q i c) →
    ((i c : ℕ) → Q i c → P i c) →
    (A → B) →
    Last P k b A →
    Last Q k b B
last_alike k b to from start (inl put) = inl (put.0, put.1, to put.0 b put.2, λ h c low high q. put.3 h c low high (from h c q))
last_alike k b to from start (inr none) = inr (λ h c high q. none.0 h c high (from h c q), start none.1)

put_at :
    {At Bt : EffectiveAddress → Width → ℕ → Type 0} (calls : List Call) (replies : List Reply) →
    ((address : EffectiveAddress) (w : Width) (j : ℕ) → j < bytes_of w → At address w j → Bt address w j) →
    (i c : ℕ) →
    Put At calls replies i c →
    Put Bt calls replies i c
put_at calls replies to i c put =
    record {
      address = put.address;
      width = put.width;
      value = put.value;
      stored = put.stored;
      j = put.j;
      inside = put.inside;
      here = to put.address put.width put.j put.inside put.here;
      byte = put.byte;
    }

unit_inside : (w : Width) (a j n : ℕ) → j < bytes_of w → a / 4 < n → aligned w a + j < 4 * n
unit_inside Byte a j n short inside = omega arith
unit_inside Halfword a j n short inside = omega arith
unit_inside Word a j n short inside = omega arith

-- an accepted load leads to a place, and gives the bytes that stand there
record Loaded (plan : PlanNumbers) (start : List ℕ) (s : UnitState) (between : List ℕ) (address : ℕ) (w : Width) (value : ℕ) : Type 0 where
  p : Spot
  leads : plain_translated plan start s address TheVariants.Load ≡ Ok p
  bytes : LoadedBytes between w p.0 value

loaded_from :
    (plan : PlanNumbers) (start : List ℕ) (s : UnitState) (between : List ℕ) (address : ℕ) (w : Width) (value : ℕ) →
    Planned plan.form plan.exponent →
    length between ≡ length start →
    plain_load between w (plain_translated plan start s address TheVariants.Load) ≡ Ok value →
    Loaded plan start s between address w value
loaded_from plan start s between address w value planned long e = ways (plain_translated plan start s address TheVariants.Load) refl e
  where
    ways :
        (r : Result Spot Refusal) →
        plain_translated plan start s address TheVariants.Load ≡ r →
        plain_load between w r ≡ Ok value →
        Loaded plan start s between address w value
    ways (Ok p) leads is =
        let inside = spot_inside plan start between s address TheVariants.Load p planned long leads in
        let there = cond-true (ltb (p.0 / 4) (length between)) (Ok (loaded between w p.0)) (Err WordOutside) (lt-ltb _ _ inside) in
        let both : Ok (loaded between w p.0) ≡ Ok value = sym there ∙ is in
        let same : loaded between w p.0 ≡ value = cc in
        record { p = p; leads = leads; bytes = subst (LoadedBytes between w p.0) same (loaded_bytes between w p.0) }
    ways (Err x) leads is = let z : ◌≡◌ {A = ℕ} 0 1 = cc in absurd (omega arith)

last_stored :
    (plan : PlanNumbers) (start : List ℕ) (s : UnitState) (cs : List Call) (replies : List Reply) (end : List ℕ) →
    Planned plan.form plan.exponent →
    Plainly plan start s start cs replies end →
    LastStored plan s cs start replies
last_stored plan start s cs replies end planned run k address w value by = (from.bytes.narrow, each)
  where
    low : k ≤ length cs
    low = let inside = item_inside cs k (Load address w) by.called in omega arith

    at : (between : List ℕ) × Moment plan start s start cs replies end k between
    at = moment plan start s planned start cs replies end refl run k low

    next : (reply : Reply) × (item replies k ≡ Some reply) × replied plan start s at.0 (Load address w) reply
    next = at.1.next (Load address w) by.called

    gives : plain_load at.0 w (plain_translated plan start s address.number TheVariants.Load) ≡ Ok value
    gives =
        let answer = next.2 in
        let both : Some (Request answer.0) ≡ Some (Request (Ok by.access)) =
        sym (ap (λ (x : Reply). Some x) answer.1) ∙ sym next.1 ∙ by.accepted
        in
        let same : answer.0 ≡ Ok by.access = cc in
        sym answer.2 ∙ ap essence same ∙ ap (λ (x : ℕ). Ok x) (sym by.value-is)

    from : Loaded plan start s at.0 address.number w value
    from = loaded_from plan start s at.0 address.number w value planned at.1.long gives

    pass : (given : Passes plan start s address.number TheVariants.Load) × (from.p ≡ (real_in plan given.found address.number, given.found.entry))
    pass = plain_passes plan start s address.number TheVariants.Load from.p from.leads

    each :
        (j : ℕ) →
        j < bytes_of w →
        Last
        (Put (AtVirtual s (virtual_byte s address w j)) cs replies)
        k
        (byte_of w value j)
        (StartByte plan start s (virtual_byte s address w j) (byte_of w value j))
    each j short =
        let v = virtual_byte s address w j in
        let m = aligned w from.p.0 + j in
        let real : RealOf plan start s v m =
        real_from plan start s m address w j planned.wide planned.whole short
        (pass.0.found, pass.0.named, ap (λ (x : Spot). aligned w x.0 + j) (sym pass.1))
        in
        let byte : byte_of w value j ≡ byte_at at.0 m = from.bytes.bytes j short in
        let inside = spot_inside plan start start s address.number TheVariants.Load from.p planned refl from.leads in
        subst
        (λ (b : ℕ). Last (Put (AtVirtual s v) cs replies) k b (StartByte plan start s v b))
        (sym byte)
        (last_alike k (byte_at at.0 m)
        (put_at cs replies (λ a x i h there. virtual_once plan start s (virtual_byte s a x i) v m planned.wide planned.whole (real_from plan start s m a x i planned.wide planned.whole h there) real))
        (put_at cs replies (λ a x i h there. real_to plan start s m a x i planned.wide planned.whole h (subst (λ (u : VirtualByte). RealOf plan start s u m) (sym there) real)))
        (λ is. (real.found, real.named, is ∙ ap (byte_at start) (sym real.place)))
        (at.1.lasts m (unit_inside w from.p.0 j (length start) short inside)))

ended :
    (plan : PlanNumbers) (start : List ℕ) (s : UnitState) (cs : List Call) (replies : List Reply) (end : List ℕ) →
    Planned plan.form plan.exponent →
    Plainly plan start s start cs replies end →
    Ended plan s cs start end replies
ended plan start s cs replies end planned run m inside =
    let at = moment plan start s planned start cs replies end refl run (length cs) (omega arith) in
    subst
    (λ (xs : List ℕ). Last (Put (AtReal plan start s m) cs replies) (length cs) (byte_at xs m) (byte_at xs m ≡ byte_at start m))
    (at.1.ended refl)
    (at.1.lasts m inside)

lawful :
    (plan : PlanNumbers) (start : List ℕ) (s : UnitState) (cs : List Call) (replies : List Reply) (end : List ℕ) →
    Planned plan.form plan.exponent →
    Plainly plan start s start cs replies end →
    Lawful plan s cs start end replies
lawful plan start s cs replies end planned run =
    record {
      untouched = untouched plan start s start cs replies end run;
      last-stored = last_stored plan start s cs replies end planned run;
      judged = judged plan start s cs replies end planned run;
      ended = ended plan start s cs replies end planned run;
    }

pub throughout :
    (plan : PlanNumbers) (start : List ℕ) (s : UnitState) (cs : List Call) (replies : List Reply) (end : List ℕ) →
    Planned plan.form plan.exponent →
    Plainly plan start s start cs replies end →
    Throughout plan s cs start end replies
throughout plan start s cs replies end planned run = (
  lawful plan start s cs replies end planned run,
  λ k low.
      let at = moment plan start s planned start cs replies end refl run k low in (
        at.0,
        lawful plan start s (take k cs) (take k replies) at.0 planned at.1.run,
      ),
)

-- What stands between the calls of a run, from the front of the calls on.
use Rattle.std.proofs.Common.{◌≡◌, ℕ, zero, suc, ◌*◌, ◌/◌, ◌<◌, ◌≤◌, Bool, true, false, cond, ltb, ◌⊎◌, inl, inr, List, [], ◌∷◌, length, take, Some, Ok, Err, Result, sym, refl, ap, ◌∙◌, subst, arith}
use Rattle.std.proofs.lemmas.Bool.{cond-true, ltb-true, lt-ltb}
use Rattle.refusals.specs.declared.refusal.Refusal.{Refusal}
use Rattle.refusals.specs.declared.refusal.Refusal.TheVariants.{ValueTooWide}
use Rattle.paging.specs.declared.address.EffectiveAddress.{EffectiveAddress}
use Rattle.paging.specs.Numbers.{PlanNumbers}
use Rattle.lanes.specs.declared.width.Width.{Width}
use Rattle.lanes.specs.Lanes.{value_limit, stored, store_of}
use Rattle.lanes.specs.Bytes.{byte_at}
use Rattle.protection.specs.declared.access_type.AccessType.TheVariants
use Rattle.unit_state.specs.declared.state.UnitState.{UnitState}
use Rattle.unit_state.specs.Answers.{Answer}
use Rattle.unit_state.specs.Laws.{essence}
use Rattle.unit_state.proofs.Plain.{Spot, plain_translated, plain_store, zeroed}
use Rattle.unit_state.proofs.Passing.{Planned}
use Rattle.unit_state.proofs.Granting.{plain_stored, length_plain_store}
use Rattle.unit_state.proofs.Judging.{spot_inside}
use Rattle.runs.specs.declared.call.Call.{Call}
use Rattle.runs.specs.declared.call.Call.TheVariants.{Load, Store, ReadExceptions, ClearExceptions, ReadMark, ClearMark, PurgeAll, PurgeSegment, PurgePage}
use Rattle.runs.specs.declared.call.Reply.{Reply}
use Rattle.runs.specs.declared.call.Reply.TheVariants.{Request}
use Rattle.runs.specs.Law.{item, AtReal, Put, Last}
use Rattle.runs.proofs.Plainly.{replied, next_words, Plainly}
use Rattle.runs.proofs.Moments.{First, no_store, refused_puts, first_stored}

-- what a store does to a byte, by what it leads to
first_store :
    (plan : PlanNumbers) (start : List ℕ) (s : UnitState) (ws : List ℕ) (cs : List Call) (rest : List Reply) →
    (address : EffectiveAddress) (w : Width) (value : ℕ) (r : Answer) (m : ℕ) →
    Planned plan.form plan.exponent →
    length ws ≡ length start →
    m < 4 * length ws →
    replied plan start s ws (Store address w value) (Request r) →
    First plan start s ws (Store address w value ∷ cs) (Request r ∷ rest) (Store address w value) m
first_store plan start s ws cs rest address w value r m planned long low given =
    ways (plain_translated plan start s address.number TheVariants.Store) refl (ltb value (value_limit w)) refl is
  where
    same : r ≡ given.0
    same = let both : Request r ≡ Request given.0 = given.1 in cc

    is : essence r ≡ cond (ltb value (value_limit w)) (plain_store ws w value (plain_translated plan start s address.number TheVariants.Store)) (Err ValueTooWide)
    is = ap essence same ∙ given.2

    Goal : List ℕ → Type 0
    Goal vs =
        ((b : ℕ) × Put (AtReal plan start s m) (Store address w value ∷ cs) (Request r ∷ rest) 0 b × (byte_at vs m ≡ b))
        ⊎ (((b : ℕ) → Put (AtReal plan start s m) (Store address w value ∷ cs) (Request r ∷ rest) 0 b → ⊥) × (byte_at vs m ≡ byte_at ws m))

    ways :
        (t : Result Spot Refusal) →
        plain_translated plan start s address.number TheVariants.Store ≡ t →
        (b : Bool) →
        ltb value (value_limit w) ≡ b →
        essence r ≡ cond b (plain_store ws w value t) (Err ValueTooWide) →
        Goal (cond b (plain_stored ws w value t) ws)
    ways t leads false wide is = inr (λ b put. refused_puts cs rest (Store address w value) r ValueTooWide b is put, refl)
    ways (Err e) leads true fits is = inr (λ b put. refused_puts cs rest (Store address w value) r e b is put, refl)
    ways (Ok p) leads true fits is =
        let inside = spot_inside plan start ws s address.number TheVariants.Store p planned long leads in
        let there = cond-true (ltb (p.0 / 4) (length ws)) (Ok tt) _ (lt-ltb _ _ inside) in
        let done : store_of ws w p.0 value ≡ Ok tt = cond-true (ltb value (value_limit w)) _ _ fits ∙ there in
        let ok : essence r ≡ Ok 0 = is ∙ ap zeroed done in
        subst
        Goal
        (sym (cond-true (ltb value (value_limit w)) (stored ws w p.0 value) ws fits))
        (first_stored plan start s ws cs rest address w value r p m low (ltb-true _ _ fits) inside leads ok)

first_call :
    (plan : PlanNumbers) (start : List ℕ) (s : UnitState) (ws : List ℕ) (c : Call) (cs : List Call) (reply : Reply) (rest : List Reply) (m : ℕ) →
    Planned plan.form plan.exponent →
    length ws ≡ length start →
    m < 4 * length ws →
    replied plan start s ws c reply →
    First plan start s ws (c ∷ cs) (reply ∷ rest) c m
first_call plan start s ws (Store address w value) cs reply rest m planned long low given =
    subst
    (λ (x : Reply). First plan start s ws (Store address w value ∷ cs) (x ∷ rest) (Store address w value) m)
    (sym given.1)
    (first_store plan start s ws cs rest address w value given.0 m planned long low (given.0, refl, given.2))
first_call plan start s ws (Load address w) cs reply rest m planned long low given =
    inr (λ b put. no_store (Load address w) cs (reply ∷ rest) b (λ _ _ _ e. let z : ◌≡◌ {A = ℕ} 0 1 = cc in omega arith) put, refl)
first_call plan start s ws ReadExceptions cs reply rest m planned long low given =
    inr (λ b put. no_store ReadExceptions cs (reply ∷ rest) b (λ _ _ _ e. let z : ◌≡◌ {A = ℕ} 0 1 = cc in omega arith) put, refl)
first_call plan start s ws ClearExceptions cs reply rest m planned long low given =
    inr (λ b put. no_store ClearExceptions cs (reply ∷ rest) b (λ _ _ _ e. let z : ◌≡◌ {A = ℕ} 0 1 = cc in omega arith) put, refl)
first_call plan start s ws (ReadMark page) cs reply rest m planned long low given =
    inr (λ b put. no_store (ReadMark page) cs (reply ∷ rest) b (λ _ _ _ e. let z : ◌≡◌ {A = ℕ} 0 1 = cc in omega arith) put, refl)
first_call plan start s ws (ClearMark page) cs reply rest m planned long low given =
    inr (λ b put. no_store (ClearMark page) cs (reply ∷ rest) b (λ _ _ _ e. let z : ◌≡◌ {A = ℕ} 0 1 = cc in omega arith) put, refl)
first_call plan start s ws PurgeAll cs reply rest m planned long low given =
    inr (λ b put. no_store PurgeAll cs (reply ∷ rest) b (λ _ _ _ e. let z : ◌≡◌ {A = ℕ} 0 1 = cc in omega arith) put, refl)
first_call plan start s ws (PurgeSegment number) cs reply rest m planned long low given =
    inr (λ b put. no_store (PurgeSegment number) cs (reply ∷ rest) b (λ _ _ _ e. let z : ◌≡◌ {A = ℕ} 0 1 = cc in omega arith) put, refl)
first_call plan start s ws (PurgePage address) cs reply rest m planned long low given =
    inr (λ b put. no_store (PurgePage address) cs (reply ∷ rest) b (λ _ _ _ e. let z : ◌≡◌ {A = ℕ} 0 1 = cc in omega arith) put, refl)

-- a byte that is put later in the run is put later in the rest of it
later :
    {At : EffectiveAddress → Width → ℕ → Type 0} (c : Call) (cs : List Call) (reply : Reply) (rest : List Reply) (i b : ℕ) →
    Put At cs rest i b →
    Put At (c ∷ cs) (reply ∷ rest) (suc i) b
unfolding item
later c cs reply rest i b put =
    record {
      address = put.address;
      width = put.width;
      value = put.value;
      stored = record { called = put.stored.called; access = put.stored.access; accepted = put.stored.accepted };
      j = put.j;
      inside = put.inside;
      here = put.here;
      byte = put.byte;
    }

earlier :
    {At : EffectiveAddress → Width → ℕ → Type 0} (c : Call) (cs : List Call) (reply : Reply) (rest : List Reply) (i b : ℕ) →
    Put At (c ∷ cs) (reply ∷ rest) (suc i) b →
    Put At cs rest i b
unfolding item
earlier c cs reply rest i b put =
    record {
      address = put.address;
      width = put.width;
      value = put.value;
      stored = record { called = put.stored.called; access = put.stored.access; accepted = put.stored.accepted };
      j = put.j;
      inside = put.inside;
      here = put.here;
      byte = put.byte;
    }

last_more :
    (plan : PlanNumbers) (start : List ℕ) (s : UnitState) (ws between : List ℕ) (c : Call) (cs : List Call) (reply : Reply) (rest : List Reply) (m k : ℕ) →
    First plan start s ws (c ∷ cs) (reply ∷ rest) c m →
    Last (Put (AtReal plan start s m) cs rest) k (byte_at between m) (byte_at between m ≡ byte_at (next_words plan start s ws c) m) →
    Last (Put (AtReal plan start s m) (c ∷ cs) (reply ∷ rest)) (suc k) (byte_at between m) (byte_at between m ≡ byte_at ws m)
last_more plan start s ws between c cs reply rest m k first (inl put) =
    inl (suc put.0, omega (arith, put.1), later c cs reply rest put.0 (byte_at between m) put.2, none_between)
  where
    none_between : (h b : ℕ) → suc put.0 < h → h < suc k → Put (AtReal plan start s m) (c ∷ cs) (reply ∷ rest) h b → ⊥
    none_between zero b low high q = omega (arith, low)
    none_between (suc h) b low high q = put.3 h b (omega arith) (omega arith) (earlier c cs reply rest h b q)
last_more plan start s ws between c cs reply rest m k (inl first) (inr none) =
    let is : first.0 ≡ byte_at between m = sym first.2 ∙ sym none.1 in
    inl (0, omega arith, subst (λ (b : ℕ). Put (AtReal plan start s m) (c ∷ cs) (reply ∷ rest) 0 b) is first.1, none_after)
  where
    none_after : (h b : ℕ) → 0 < h → h < suc k → Put (AtReal plan start s m) (c ∷ cs) (reply ∷ rest) h b → ⊥
    none_after zero b low high q = omega (arith, low)
    none_after (suc h) b low high q = none.0 h b (omega arith) (earlier c cs reply rest h b q)
last_more plan start s ws between c cs reply rest m k (inr first) (inr none) = inr (none_ever, none.1 ∙ first.1)
  where
    none_ever : (h b : ℕ) → h < suc k → Put (AtReal plan start s m) (c ∷ cs) (reply ∷ rest) h b → ⊥
    none_ever zero b high q = first.0 b q
    none_ever (suc h) b high q = none.0 h b (omega arith) (earlier c cs reply rest h b q)

-- the words of the storage before call k
pub record Moment (plan : PlanNumbers) (start : List ℕ) (s : UnitState) (ws : List ℕ) (cs : List Call) (replies : List Reply) (end : List ℕ) (k : ℕ) (between : List ℕ) : Type 0 where
  pub run : Plainly plan start s ws (take k cs) (take k replies) between
  pub long : length between ≡ length ws
  pub lasts : (m : ℕ) → m < 4 * length ws → Last (Put (AtReal plan start s m) cs replies) k (byte_at between m) (byte_at between m ≡ byte_at ws m)
  pub next : (c : Call) → item cs k ≡ Some c → (reply : Reply) × (item replies k ≡ Some reply) × replied plan start s between c reply
  pub ended : k ≡ length cs → between ≡ end

pub next_long : (plan : PlanNumbers) (start : List ℕ) (s : UnitState) (ws : List ℕ) (c : Call) → length (next_words plan start s ws c) ≡ length ws
next_long plan start s ws (Load address w) = refl
next_long plan start s ws (Store address w value) = length_plain_store ws w value (plain_translated plan start s address.number TheVariants.Store)
next_long plan start s ws ReadExceptions = refl
next_long plan start s ws ClearExceptions = refl
next_long plan start s ws (ReadMark page) = refl
next_long plan start s ws (ClearMark page) = refl
next_long plan start s ws PurgeAll = refl
next_long plan start s ws (PurgeSegment number) = refl
next_long plan start s ws (PurgePage address) = refl

pub moment :
    (plan : PlanNumbers) (start : List ℕ) (s : UnitState) →
    Planned plan.form plan.exponent →
    (ws : List ℕ) (cs : List Call) (replies : List Reply) (end : List ℕ) →
    length ws ≡ length start →
    Plainly plan start s ws cs replies end →
    (k : ℕ) →
    k ≤ length cs →
    (between : List ℕ) × Moment plan start s ws cs replies end k between
unfolding Plainly item
moment plan start s planned ws [] replies end long run zero low = (
  ws,
  record {
    run = (refl, refl);
    long = refl;
    lasts = λ m _. inr (λ h b high q. omega (arith, high), refl);
    next = λ c is. let z : ◌≡◌ {A = ℕ} 0 1 = cc in absurd (omega arith);
    ended = λ _. sym run.1;
  },
)
moment plan start s planned ws [] replies end long run (suc k) low = absurd (omega (arith, low))
moment plan start s planned ws (c ∷ cs) replies end long run zero low = (
  ws,
  record {
    run = (refl, refl);
    long = refl;
    lasts = λ m _. inr (λ h b high q. omega (arith, high), refl);
    next = λ d is.
        let same : c ≡ d = cc in (
          run.0,
          ap (λ (rs : List Reply). item rs 0) run.2,
          subst (λ (x : Call). replied plan start s ws x run.0) same run.3,
        );
    ended = λ e. absurd (omega (arith, e));
  },
)
moment plan start s planned ws (c ∷ cs) replies end long run (suc k) low =
    let reply = run.0 in
    let rest = run.1 in
    let vs = next_words plan start s ws c in
    let kept : length vs ≡ length ws = next_long plan start s ws c in
    let after = moment plan start s planned vs cs rest end (kept ∙ long) run.4 k (omega (arith, low)) in
    let at = after.1 in (
      after.0,
      subst
          (λ (rs : List Reply). Moment plan start s ws (c ∷ cs) rs end (suc k) after.0)
          (sym run.2)
          (record {
            run = (reply, take k rest, refl, run.3, at.run);
            long = at.long ∙ kept;
            lasts = λ m inside.
                last_more
                plan
                start
                s
                ws
                after.0
                c
                cs
                reply
                rest
                m
                k
                (first_call plan start s ws c cs reply rest m planned long inside run.3)
                (at.lasts m (subst (λ (n : ℕ). m < 4 * n) (sym kept) inside));
            next = at.next;
            ended = λ e. at.ended (omega (arith, e));
          }),
    )

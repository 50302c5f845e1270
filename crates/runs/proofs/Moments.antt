-- The words of the storage between the calls of a run, byte by byte.
use Rattle.std.proofs.Common.{◌≡◌, ℕ, ◌+◌, ◌-◌, ◌*◌, ◌/◌, ◌<◌, ◌≤◌, Bool, true, false, cond, ◌&&◌, leb, ltb, ◌⊎◌, inl, inr, List, ◌∷◌, length, Some, Ok, Err, Result, sym, refl, ap, ◌∙◌, subst, ⊎_elim, arith}
use Rattle.std.proofs.lemmas.Bool.{cond-true, cond-false, and_parts, and_from, ltb-true, leb-true, lt-ltb, le-leb, cases_Bool, both_ways}
use Rattle.refusals.specs.declared.refusal.Refusal.{Refusal}
use Rattle.paging.specs.declared.address.EffectiveAddress.{EffectiveAddress}
use Rattle.paging.specs.Numbers.{PlanNumbers}
use Rattle.page_table.specs.declared.walk.Found.{Found}
use Rattle.lanes.specs.declared.width.Width.{Width}
use Rattle.lanes.specs.Lanes.{bytes_of, value_limit, aligned, stored}
use Rattle.lanes.specs.Bytes.{byte_at, byte_of}
use Rattle.lanes.proofs.Octets.{stored_bytes}
use Rattle.protection.specs.declared.access_type.AccessType.TheVariants
use Rattle.unit_state.specs.declared.answer.Access.{Access}
use Rattle.unit_state.specs.declared.state.UnitState.{UnitState}
use Rattle.unit_state.specs.Answers.{Answer}
use Rattle.unit_state.specs.Translation.{segment_at, tag_at, found_for}
use Rattle.unit_state.specs.Laws.{Passes, essence}
use Rattle.unit_state.specs.Grants.{real_in}
use Rattle.unit_state.proofs.Plain.{Spot, plain_translated}
use Rattle.unit_state.proofs.Passing.{plain_passes}
use Rattle.runs.specs.declared.call.Call.{Call}
use Rattle.runs.specs.declared.call.Call.TheVariants.{Store}
use Rattle.runs.specs.declared.call.Reply.{Reply}
use Rattle.runs.specs.declared.call.Reply.TheVariants.{Request}
use Rattle.runs.specs.Law.{item, AtReal, Put}
use Rattle.runs.proofs.Plainly.{next_words}

-- the first call put a byte at a real address, or it put nothing there and left it as it was
abbrev pub First : PlanNumbers → List ℕ → UnitState → List ℕ → List Call → List Reply → Call → ℕ → Type 0
First plan start s ws calls replies c m =
    ((b : ℕ) × Put (AtReal plan start s m) calls replies 0 b × (byte_at (next_words plan start s ws c) m ≡ b))
    ⊎ (((b : ℕ) → Put (AtReal plan start s m) calls replies 0 b → ⊥) × (byte_at (next_words plan start s ws c) m ≡ byte_at ws m))

-- a call that is no store puts nothing
pub no_store :
    {At : EffectiveAddress → Width → ℕ → Type 0} (c : Call) (cs : List Call) (replies : List Reply) (b : ℕ) →
    ((address : EffectiveAddress) (w : Width) (value : ℕ) → c ≡ Store address w value → ⊥) →
    Put At (c ∷ cs) replies 0 b →
    ⊥
unfolding item
no_store c cs replies b other put =
    let called : Some c ≡ Some (Store put.address put.width put.value) = put.stored.called in
    other put.address put.width put.value cc

-- a refused call puts nothing
pub refused_puts :
    {At : EffectiveAddress → Width → ℕ → Type 0} (cs : List Call) (rest : List Reply) (c : Call) (r : Answer) (e : Refusal) (b : ℕ) →
    essence r ≡ Err e →
    Put At (c ∷ cs) (Request r ∷ rest) 0 b →
    ⊥
unfolding item
refused_puts cs rest c r e b is put =
    let given : Some (Request r) ≡ Some (Request (Ok put.stored.access)) = put.stored.accepted in
    let same : r ≡ Ok put.stored.access = cc in
    let both : ◌≡◌ {A = Result ℕ Refusal} (Err e) (Ok put.stored.access.value) = sym is ∙ ap essence same in
    let z : ◌≡◌ {A = ℕ} 0 1 = cc in
    omega arith

pub accepted_is : (r : Answer) (v : ℕ) → essence r ≡ Ok v → (a : Access) × (r ≡ Ok a)
accepted_is (Ok a) v is = (a, refl)
accepted_is (Err e) v is = let z : ◌≡◌ {A = ℕ} 0 1 = cc in absurd (omega arith)

-- a store that leads to a place puts its bytes there, and leaves all others
pub first_stored :
    (plan : PlanNumbers) (start : List ℕ) (s : UnitState) (ws : List ℕ) (cs : List Call) (rest : List Reply) →
    (address : EffectiveAddress) (w : Width) (value : ℕ) (r : Answer) (p : Spot) (m : ℕ) →
    m < 4 * length ws →
    value < value_limit w →
    p.0 / 4 < length ws →
    plain_translated plan start s address.number TheVariants.Store ≡ Ok p →
    essence r ≡ Ok 0 →
    ((b : ℕ) × Put (AtReal plan start s m) (Store address w value ∷ cs) (Request r ∷ rest) 0 b × (byte_at (stored ws w p.0 value) m ≡ b))
    ⊎ (((b : ℕ) → Put (AtReal plan start s m) (Store address w value ∷ cs) (Request r ∷ rest) 0 b → ⊥)
    × (byte_at (stored ws w p.0 value) m ≡ byte_at ws m))
unfolding item
first_stored plan start s ws cs rest address w value r p m low fits there leads done =
    ⊎_elim reached missed (cases_Bool within)
  where
    within : Bool
    within = leb (aligned w p.0) m && ltb m (aligned w p.0 + bytes_of w)

    calls : List Call
    calls = Store address w value ∷ cs

    replies : List Reply
    replies = Request r ∷ rest

    Goal : Type 0
    Goal =
        ((b : ℕ) × Put (AtReal plan start s m) calls replies 0 b × (byte_at (stored ws w p.0 value) m ≡ b))
        ⊎ (((b : ℕ) → Put (AtReal plan start s m) calls replies 0 b → ⊥) × (byte_at (stored ws w p.0 value) m ≡ byte_at ws m))

    pass : (given : Passes plan start s address.number TheVariants.Store) × (p ≡ (real_in plan given.found address.number, given.found.entry))
    pass = plain_passes plan start s address.number TheVariants.Store p leads

    place : p.0 ≡ real_in plan pass.0.found address.number
    place = ap (λ (x : Spot). x.0) pass.1

    after : byte_at (stored ws w p.0 value) m ≡ cond within (byte_of w value (m - aligned w p.0)) (byte_at ws m)
    after = (stored_bytes ws w p.0 value).bytes m low

    reached : within ≡ true → Goal
    reached holds =
        let both = and_parts (leb (aligned w p.0) m) (ltb m (aligned w p.0 + bytes_of w)) holds in
        let above : aligned w p.0 ≤ m = leb-true _ _ both.0 in
        let below : m < aligned w p.0 + bytes_of w = ltb-true _ _ both.1 in
        let given = accepted_is r 0 done in
        let j = m - aligned w p.0 in
        let here : aligned w (real_in plan pass.0.found address.number) + j ≡ m =
        subst (λ (x : ℕ). aligned w x + j ≡ m) place (omega arith)
        in
        inl (
          byte_of w value j,
          record {
            address = address;
            width = w;
            value = value;
            stored = record { called = refl; access = given.0; accepted = ap (λ (x : Answer). Some (Request x)) given.1 };
            j = j;
            inside = omega arith;
            here = (pass.0.found, pass.0.named, here);
            byte = refl;
          },
          after ∙ cond-true within _ _ holds,
        )

    missed : within ≡ false → Goal
    missed fails =
        inr (
          (λ b put.
              let called : Some (Store address w value) ≡ Some (Store put.address put.width put.value) = put.stored.called in
              let same_address : put.address ≡ address = cc in
              let same_width : put.width ≡ w = cc in
              let found : Ok put.here.0 ≡ Ok pass.0.found =
              sym put.here.1
              ∙ ap (λ (a : EffectiveAddress). found_for plan start s (tag_at plan.form (segment_at s a.number) a.number)) same_address
              ∙ pass.0.named
              in
              let same_found : put.here.0 ≡ pass.0.found = cc in
              let real : real_in plan put.here.0 put.address.number ≡ p.0 =
              ap (λ (x : Found). real_in plan x put.address.number) same_found
              ∙ ap (λ (a : EffectiveAddress). real_in plan pass.0.found a.number) same_address
              ∙ sym place
              in
              let at : aligned w p.0 + put.j ≡ m =
              sym (ap (λ (x : ℕ). aligned w x + put.j) real)
              ∙ sym (ap (λ (x : Width). aligned x (real_in plan put.here.0 put.address.number) + put.j) same_width)
              ∙ put.here.2
              in
              let short : put.j < bytes_of w = subst (λ (x : Width). put.j < bytes_of x) same_width put.inside in
              let holds : within ≡ true = and_from _ _ (le-leb (aligned w p.0) m (omega arith)) (lt-ltb m (aligned w p.0 + bytes_of w) (omega arith)) in
              both_ways within fails holds),
          after ∙ cond-false within _ _ fails,
        )

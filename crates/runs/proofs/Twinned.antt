-- The same calls on two storages that are alike in the table and in what is granted for loading are answered alike.
use Rattle.std.proofs.Common.{◌≡◌, ℕ, ◌<◌, List, [], ◌∷◌, get_or, sym, refl, ap, ◌∙◌, subst}
use Rattle.paging.specs.Numbers.{PlanNumbers}
use Rattle.paging.specs.Plan.{page_count}
use Rattle.protection.specs.declared.access_type.AccessType.TheVariants
use Rattle.unit_state.specs.declared.state.UnitState.{UnitState}
use Rattle.unit_state.specs.Grants.{Granted, Closed}
use Rattle.unit_state.proofs.Plain.{plain_translated}
use Rattle.unit_state.proofs.Standing.{Standing}
use Rattle.unit_state.proofs.Isolating.{Twins, load_twins, store_twins, stored_twins, twins_long}
use Rattle.runs.specs.declared.call.Call.{Call}
use Rattle.runs.specs.declared.call.Call.TheVariants.{Load, Store, ReadExceptions, ClearExceptions, ReadMark, ClearMark, PurgeAll, PurgeSegment, PurgePage}
use Rattle.runs.specs.declared.call.Reply.{Reply}
use Rattle.runs.specs.declared.call.Reply.TheVariants.{Request}
use Rattle.runs.specs.Step.{reply_of, state_after, words_after}
use Rattle.runs.specs.Fold.{replies_from}
use Rattle.runs.proofs.Plainly.{next_words, stepped}

-- a call is answered alike, and leaves one unit and words that are granted for loading alike
record Alike_step (plan : PlanNumbers) (start : List ℕ) (first : UnitState) (ws vs : List ℕ) (s : UnitState) (c : Call) : Type 0 where
  reply : reply_of plan ws s c ≡ reply_of plan vs s c
  state : state_after plan ws s c ≡ state_after plan vs s c
  granted :
      (n : ℕ) →
      Granted plan start first TheVariants.Load n →
      get_or (next_words plan start first ws c) n 0 ≡ get_or (next_words plan start first vs c) n 0

alike_step :
    (plan : PlanNumbers) (start : List ℕ) (first : UnitState) (ws vs : List ℕ) (s : UnitState) (c : Call) →
    0 < page_count plan.form plan.exponent →
    Twins plan start first ws vs s →
    Alike_step plan start first ws vs s c
alike_step plan start first ws vs s (Load address w) some twins =
    record {
      reply = load_twins (λ answer after. Request answer) plan start first ws vs s w address some twins;
      state = load_twins (λ answer after. after) plan start first ws vs s w address some twins;
      granted = twins.granted;
    }
alike_step plan start first ws vs s (Store address w value) some twins =
    record {
      reply = store_twins (λ answer after. Request answer) plan start first ws vs s w address value some twins;
      state = store_twins (λ answer after. after) plan start first ws vs s w address value some twins;
      granted = λ n granted.
          stored_twins ws vs w value (plain_translated plan start first address.number TheVariants.Store) n (twins_long plan start first ws vs s twins) (twins.granted n granted);
    }
alike_step plan start first ws vs s ReadExceptions some twins = record { reply = refl; state = refl; granted = twins.granted }
alike_step plan start first ws vs s ClearExceptions some twins = record { reply = refl; state = refl; granted = twins.granted }
alike_step plan start first ws vs s (ReadMark page) some twins = record { reply = refl; state = refl; granted = twins.granted }
alike_step plan start first ws vs s (ClearMark page) some twins = record { reply = refl; state = refl; granted = twins.granted }
alike_step plan start first ws vs s PurgeAll some twins = record { reply = refl; state = refl; granted = twins.granted }
alike_step plan start first ws vs s (PurgeSegment number) some twins = record { reply = refl; state = refl; granted = twins.granted }
alike_step plan start first ws vs s (PurgePage address) some twins = record { reply = refl; state = refl; granted = twins.granted }

twins_after :
    (plan : PlanNumbers) (start : List ℕ) (first : UnitState) (ws vs : List ℕ) (s : UnitState) (c : Call) →
    0 < page_count plan.form plan.exponent →
    Closed plan start first →
    Twins plan start first ws vs s →
    Twins plan start first (words_after plan ws s c) (words_after plan vs s c) (state_after plan ws s c)
twins_after plan start first ws vs s c some closed twins =
    let one = stepped plan start first ws s c some closed twins.one in
    let two = stepped plan start first vs s c some closed twins.two in
    let alike = alike_step plan start first ws vs s c some twins in
    record {
      one = one.standing;
      two = subst (Standing plan start first (words_after plan vs s c)) (sym alike.state) two.standing;
      granted = λ n granted.
          ap (λ (xs : List ℕ). get_or xs n 0) one.words ∙ alike.granted n granted ∙ sym (ap (λ (xs : List ℕ). get_or xs n 0) two.words);
    }

pub answered_alike :
    (plan : PlanNumbers) (start : List ℕ) (first : UnitState) →
    0 < page_count plan.form plan.exponent →
    Closed plan start first →
    (ws vs : List ℕ) (s : UnitState) (cs : List Call) →
    Twins plan start first ws vs s →
    replies_from plan ws s cs ≡ replies_from plan vs s cs
unfolding replies_from
answered_alike plan start first some closed ws vs s [] twins = refl
answered_alike plan start first some closed ws vs s (c ∷ cs) twins =
    let alike = alike_step plan start first ws vs s c some twins in
    ap (λ (reply : Reply). reply ∷ replies_from plan (words_after plan ws s c) (state_after plan ws s c) cs) alike.reply
    ∙ ap
    (λ (rest : List Reply). reply_of plan vs s c ∷ rest)
    (answered_alike plan start first some closed (words_after plan ws s c) (words_after plan vs s c) (state_after plan ws s c) cs (twins_after plan start first ws vs s c some closed twins)
    ∙ ap (λ (after : UnitState). replies_from plan (words_after plan vs s c) after cs) alike.state)

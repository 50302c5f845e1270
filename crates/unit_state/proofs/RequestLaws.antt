-- The laws of requests, for every settled plan.
use Rattle.std.proofs.Common.{◌≡◌, ℕ, ◌<◌, Bool, true, false, cond, ltb, List, Err, Result, sym, refl, ap, ◌∙◌, subst}
use Rattle.std.proofs.lemmas.Bool.{ltb-true, lt-ltb, both_ways, cond-true, cond-false}
use Rattle.refusals.specs.declared.refusal.Refusal.TheVariants.{ValueTooWide}
use Rattle.paging.specs.Numbers.{PlanNumbers}
use Rattle.paging.specs.declared.address.EffectiveAddress.{EffectiveAddress}
use Rattle.paging.specs.Plan.{page_count}
use Rattle.page_table.specs.declared.entry.Tag.{Tag}
use Rattle.page_table.specs.Search.{query_of}
use Rattle.page_table.specs.Laws.{AlikeTables}
use Rattle.lanes.specs.declared.width.Width.{Width}
use Rattle.lanes.specs.Lanes.{value_limit}
use Rattle.protection.specs.declared.access_type.AccessType.TheVariants.{Load, Store}
use Rattle.page_table.specs.declared.walk.Fault.{Fault}
use Rattle.unit_state.specs.declared.state.UnitState.{UnitState}
use Rattle.unit_state.specs.declared.translation.Place.{Place}
use Rattle.page_table.specs.Search.{uncompared}
use Rattle.unit_state.specs.Answers.{Answer}
use Rattle.unit_state.specs.Requests.{load_at, store_at, noted_in, load_place, store_place, used_by_store, load_answer, after_load, store_answer, after_store}
use Rattle.unit_state.specs.Laws.{Agrees, LoadLaws, StoreLaws, essence}
use Rattle.unit_state.proofs.Passing.{Planned, load_passes, load_accepts, load_unseen, store_passes, store-accepts, store_unseen}
use Rattle.unit_state.proofs.Agreeing.{agrees_after, agrees_alike, registers_after}

pub load_laws :
    (plan : PlanNumbers) (ws : List ℕ) (s : UnitState) (w : Width) (address : EffectiveAddress) →
    Planned plan.form plan.exponent →
    Agrees plan ws s →
    LoadLaws plan ws s w address (load_answer plan ws s w address) (after_load plan ws s w address)
unfolding load_answer after_load
load_laws plan ws s w address planned agrees =
    record {
      passes = load_passes plan ws s w address.number Load agrees;
      accepts = load_accepts plan ws s w address.number Load planned agrees;
      unseen = load_unseen plan ws s w address.number Load agrees;
      agrees = agrees_after plan ws s address (load_place plan ws s address) (load_at ws w (load_place plan ws s address)) false Load agrees;
    }

pub store_laws :
    (plan : PlanNumbers) (ws vs : List ℕ) (s : UnitState) (w : Width) (address : EffectiveAddress) (value : ℕ) →
    Planned plan.form plan.exponent →
    0 < page_count plan.form plan.exponent →
    Agrees plan ws s →
    StoreLaws plan ws vs s w address value (store_answer plan ws s w address value) (after_store plan ws s w address value)
unfolding store_answer after_store
store_laws plan ws vs s w address value planned some agrees = ways (ltb value (value_limit w)) refl
  where
    place : Result Place Fault
    place = store_place plan ws s address

    answer : Answer
    answer = store_at ws w value place

    after : UnitState
    after = noted_in (used_by_store plan ws s w address value) answer address Store

    agreed : Agrees plan ws after
    agreed = agrees_after plan ws s address place answer true Store agrees

    long : after.long_stop ≡ s.long_stop
    long = registers_after (λ segments transaction long. long) plan ws s address place answer true Store

    ways :
        (fits : Bool) →
        ltb value (value_limit w) ≡ fits →
        StoreLaws plan ws vs s w address value (cond fits answer (Err (uncompared ValueTooWide))) (cond fits after s)
    ways true fits =
        record {
          fits = λ _. ltb-true value (value_limit w) fits;
          passes = store_passes plan ws s w value address.number Store agrees;
          accepts = λ low pass. store-accepts plan ws s w value address.number Store planned agrees low pass;
          unseen =
              store_unseen plan ws s w value address.number Store agrees ∙ sym (ap essence (cond-true (ltb value (value_limit w)) _ _ fits));
          agrees = agreed;
          kept = λ alike.
              let P : Bool → Type 0 = λ long. (tag : Tag) → AlikeTables (query_of plan long tag) ws vs in
              agrees_alike plan ws vs after some (subst P (sym long) alike) agreed;
        }
    ways false wide =
        record {
          fits = λ ok. absurd (both_ways _ refl ok);
          passes = λ ok. absurd (both_ways _ refl ok);
          accepts = λ low pass. absurd (both_ways (ltb value (value_limit w)) wide (lt-ltb value (value_limit w) low));
          unseen = sym (ap essence (cond-false (ltb value (value_limit w)) _ _ wide));
          agrees = agrees;
          kept = λ alike. agrees_alike plan ws vs s some alike agrees;
        }

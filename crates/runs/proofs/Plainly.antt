-- A run as the tables at the start give it: no look-aside buffer is spoken of any more.
use Rattle.std.proofs.Common.{◌≡◌, ℕ, ◌<◌, List, [], ◌∷◌, Some, None, Option, sym, refl, subst}
use Rattle.paging.specs.Numbers.{PlanNumbers}
use Rattle.paging.specs.Plan.{page_count}
use Rattle.protection.specs.declared.access_type.AccessType.TheVariants
use Rattle.unit_state.specs.declared.state.UnitState.{UnitState}
use Rattle.refusals.specs.declared.refusal.Refusal.{Refusal}
use Rattle.unit_state.specs.Answers.{Answer, unless}
use Rattle.unit_state.specs.Marks.{mark_refusal, cleared_page}
use Rattle.unit_state.specs.Registers.{number_refusal}
use Rattle.unit_state.specs.Purges.{after_purge, segment_purge, page_purge}
use Rattle.tlb.specs.declared.purging.Purge.{Purge}
use Rattle.tlb.specs.declared.purging.Purge.TheVariants.{All}
use Rattle.unit_state.proofs.Agreeing.{agrees_purged}
use Rattle.unit_state.specs.Requests.{load_answer, store_answer, after_store}
use Rattle.unit_state.specs.Laws.{essence}
use Rattle.unit_state.specs.Grants.{Closed}
use Rattle.unit_state.proofs.Plain.{plain_translated, plain_load}
use Rattle.unit_state.proofs.Standing.{Standing}
use Rattle.unit_state.proofs.Granting.{plain_store_answer, plain_store_words, load_essence, store_essence, store_words_plain, standing_load, standing_store, standing_words}
use Rattle.runs.specs.declared.call.Call.{Call}
use Rattle.runs.specs.declared.call.Call.TheVariants.{Load, Store, ReadExceptions, ClearExceptions, ReadMark, ClearMark, PurgeAll, PurgeSegment, PurgePage}
use Rattle.runs.specs.declared.call.Reply.{Reply}
use Rattle.runs.specs.declared.call.Reply.TheVariants.{Request}
use Rattle.runs.specs.Step.{reply_of, state_after, words_after}
use Rattle.runs.specs.Fold.{replies_from, words_from}

-- what a request replies; nothing is said of the other calls
abbrev pub replied : PlanNumbers → List ℕ → UnitState → List ℕ → Call → Reply → Type 0
replied plan start first ws (Load address w) reply =
    (r : Answer)
    × (reply ≡ Request r)
    × (essence r ≡ plain_load ws w (plain_translated plan start first address.number TheVariants.Load))
replied plan start first ws (Store address w value) reply =
    (r : Answer)
    × (reply ≡ Request r)
    × (essence r ≡ plain_store_answer ws w value (plain_translated plan start first address.number TheVariants.Store))
replied plan start first ws ReadExceptions reply = Unit {0}
replied plan start first ws ClearExceptions reply = Unit {0}
replied plan start first ws (ReadMark page) reply = Unit {0}
replied plan start first ws (ClearMark page) reply = Unit {0}
replied plan start first ws PurgeAll reply = Unit {0}
replied plan start first ws (PurgeSegment number) reply = Unit {0}
replied plan start first ws (PurgePage address) reply = Unit {0}

-- the words after a call
abbrev pub next_words : PlanNumbers → List ℕ → UnitState → List ℕ → Call → List ℕ
next_words plan start first ws (Load address w) = ws
next_words plan start first ws (Store address w value) =
    plain_store_words ws w value (plain_translated plan start first address.number TheVariants.Store)
next_words plan start first ws ReadExceptions = ws
next_words plan start first ws ClearExceptions = ws
next_words plan start first ws (ReadMark page) = ws
next_words plan start first ws (ClearMark page) = ws
next_words plan start first ws PurgeAll = ws
next_words plan start first ws (PurgeSegment number) = ws
next_words plan start first ws (PurgePage address) = ws

unfoldable pub Plainly : PlanNumbers → List ℕ → UnitState → List ℕ → List Call → List Reply → List ℕ → Type 0
Plainly plan start first ws [] replies end = (replies ≡ []) × (end ≡ ws)
Plainly plan start first ws (c ∷ cs) replies end =
    (reply : Reply)
    × (rest : List Reply)
    × (replies ≡ reply ∷ rest)
    × replied plan start first ws c reply
    × Plainly plan start first (next_words plan start first ws c) cs rest end

-- one call of a unit that stands
pub record Stepped (plan : PlanNumbers) (start : List ℕ) (first : UnitState) (ws : List ℕ) (s : UnitState) (c : Call) : Type 0 where
  pub reply : replied plan start first ws c (reply_of plan ws s c)
  pub words : words_after plan ws s c ≡ next_words plan start first ws c
  pub standing : Standing plan start first (words_after plan ws s c) (state_after plan ws s c)

-- a purge leaves what stands
standing_purged :
    (plan : PlanNumbers) (start : List ℕ) (first : UnitState) (ws : List ℕ) (s : UnitState) (p : Purge) →
    Standing plan start first ws s →
    Standing plan start first ws (after_purge p s)
standing_purged plan start first ws s p standing =
    record {
      segments = standing.segments;
      transaction = standing.transaction;
      long_stop = standing.long_stop;
      long = standing.long;
      alike = standing.alike;
      agrees = agrees_purged plan ws p s standing.agrees;
    }

standing_unless :
    (plan : PlanNumbers) (start : List ℕ) (first : UnitState) (ws : List ℕ) (o : Option Refusal) (s after : UnitState) →
    Standing plan start first ws s →
    Standing plan start first ws after →
    Standing plan start first ws (unless o s after)
standing_unless plan start first ws (Some e) s after standing then = standing
standing_unless plan start first ws None s after standing then = then

pub stepped :
    (plan : PlanNumbers) (start : List ℕ) (first : UnitState) (ws : List ℕ) (s : UnitState) (c : Call) →
    0 < page_count plan.form plan.exponent →
    Closed plan start first →
    Standing plan start first ws s →
    Stepped plan start first ws s c
stepped plan start first ws s (Load address w) some closed standing =
    record {
      reply = (load_answer plan ws s w address, refl, load_essence plan start first ws s w address some standing);
      words = refl;
      standing = standing_load plan start first ws s w address standing;
    }
stepped plan start first ws s (Store address w value) some closed standing =
    let is = store_words_plain plan start first ws s w address value some standing in
    let after = standing_store plan start first ws s w address value standing in
    record {
      reply = (store_answer plan ws s w address value, refl, store_essence plan start first ws s w address value some standing);
      words = is;
      standing =
          subst
          (λ (vs : List ℕ). Standing plan start first vs (after_store plan ws s w address value))
          (sym is)
          (standing_words plan start first ws (after_store plan ws s w address value) w value address.number some closed after);
    }
stepped plan start first ws s ReadExceptions some closed standing = record { reply = tt; words = refl; standing = standing }
stepped plan start first ws s ClearExceptions some closed standing =
    record {
      reply = tt;
      words = refl;
      standing =
          record {
            segments = standing.segments;
            transaction = standing.transaction;
            long_stop = standing.long_stop;
            long = standing.long;
            alike = standing.alike;
            agrees = λ i j t is. let named = standing.agrees i j t is in record { found = named.found; is = named.is; kept = named.kept };
          };
    }
stepped plan start first ws s (ReadMark page) some closed standing = record { reply = tt; words = refl; standing = standing }
stepped plan start first ws s (ClearMark page) some closed standing =
    record {
      reply = tt;
      words = refl;
      standing =
          standing_unless plan start first ws (mark_refusal plan page) s (cleared_page s page) standing
          (record {
            segments = standing.segments;
            transaction = standing.transaction;
            long_stop = standing.long_stop;
            long = standing.long;
            alike = standing.alike;
            agrees = λ i j t is. let named = standing.agrees i j t is in record { found = named.found; is = named.is; kept = named.kept };
          });
    }
stepped plan start first ws s PurgeAll some closed standing =
    record { reply = tt; words = refl; standing = standing_purged plan start first ws s All standing }
stepped plan start first ws s (PurgeSegment number) some closed standing =
    record {
      reply = tt;
      words = refl;
      standing =
          standing_unless plan start first ws (number_refusal number) s (after_purge (segment_purge s number) s) standing
          (standing_purged plan start first ws s (segment_purge s number) standing);
    }
stepped plan start first ws s (PurgePage address) some closed standing =
    record {
      reply = tt;
      words = refl;
      standing = standing_purged plan start first ws s (page_purge plan.form s address.number) standing;
    }

pub plainly :
    (plan : PlanNumbers) (start : List ℕ) (first : UnitState) →
    0 < page_count plan.form plan.exponent →
    Closed plan start first →
    (ws : List ℕ) (s : UnitState) (cs : List Call) →
    Standing plan start first ws s →
    Plainly plan start first ws cs (replies_from plan ws s cs) (words_from plan ws s cs)
unfolding Plainly replies_from words_from
plainly plan start first some closed ws s [] standing = (refl, refl)
plainly plan start first some closed ws s (c ∷ cs) standing =
    let step = stepped plan start first ws s c some closed standing in
    let rest = plainly plan start first some closed (words_after plan ws s c) (state_after plan ws s c) cs step.standing in (
      reply_of plan ws s c,
      replies_from plan (words_after plan ws s c) (state_after plan ws s c) cs,
      refl,
      step.reply,
      subst
          (λ (vs : List ℕ).
          Plainly plan start first vs cs (replies_from plan (words_after plan ws s c) (state_after plan ws s c) cs) (words_from plan (words_after plan ws s c) (state_after plan ws s c) cs))
          step.words
          rest,
    )

-- The law over two runs, from what they reply and leave.
use Rattle.std.proofs.Common.{◌≡◌, ℕ, ◌<◌, List, [], ◌∷◌, length, set, Some, None, Option, sym, refl, ◌∙◌, subst, arith}
use Rattle.refusals.specs.declared.refusal.Refusal.{Refusal}
use Rattle.paging.specs.Numbers.{PlanNumbers}
use Rattle.paging.specs.Plan.{page_count}
use Rattle.page_table.proofs.Alike.{read_same}
use Rattle.tlb.specs.declared.buffers.Buffers.{Buffers}
use Rattle.tlb.specs.Lookup.{Each, empty_buffers}
use Rattle.tlb.proofs.Entries.{each_empty}
use Rattle.unit_state.specs.declared.state.UnitState.{UnitState}
use Rattle.unit_state.specs.Answers.{unless}
use Rattle.unit_state.specs.Registers.{register_refusal}
use Rattle.unit_state.specs.State.{powered_on, with_segments}
use Rattle.unit_state.specs.Laws.{Named, Agrees}
use Rattle.unit_state.specs.Grants.{Closed}
use Rattle.unit_state.proofs.Passing.{Planned}
use Rattle.unit_state.proofs.Standing.{Standing}
use Rattle.runs.specs.declared.call.Call.{Call}
use Rattle.runs.specs.declared.call.Reply.{Reply}
use Rattle.runs.specs.declared.set_up.RegisterWrite.{RegisterWrite}
use Rattle.runs.specs.declared.set_up.RegisterWrite.TheVariants.{Segment, Transaction, LongStop}
use Rattle.runs.specs.SetUp.{written_by, set_up}
use Rattle.runs.specs.Fold.{replies_from, words_from}
use Rattle.runs.specs.Law.{Throughout, Twice}
use Rattle.runs.proofs.Plainly.{Plainly, plainly}
use Rattle.runs.proofs.Keeping.{throughout}
use Rattle.runs.proofs.Twinned.{answered_alike}

-- a write of a register leaves the look-aside buffers
buffers_written : (s : UnitState) (w : RegisterWrite) → (written_by s w).buffers ≡ s.buffers
buffers_written s (Segment number r) = ways (register_refusal number r)
  where
    ways : (o : Option Refusal) → (unless o s (with_segments s (set s.segments number r))).buffers ≡ s.buffers
    ways None = refl
    ways (Some e) = refl
buffers_written s (Transaction transaction) = refl
buffers_written s (LongStop on) = refl

buffers_set_up : (s : UnitState) (writes : List RegisterWrite) → (set_up s writes).buffers ≡ s.buffers
unfolding set_up
buffers_set_up s [] = refl
buffers_set_up s (w ∷ writes) = buffers_set_up (written_by s w) writes ∙ buffers_written s w

-- empty buffers agree with every table
agrees_empty :
    (plan : PlanNumbers) (start : List ℕ) (s : UnitState) → s.buffers ≡ empty_buffers → Agrees plan start s
agrees_empty plan start s empty =
    subst (λ (b : Buffers). Each (Named plan start s) b) (sym empty) (each_empty (Named plan start s))

powered_empty : powered_on.buffers ≡ empty_buffers
unfolding powered_on
powered_empty = refl

standing_first :
    (plan : PlanNumbers) (start : List ℕ) (writes : List RegisterWrite) → Standing plan start (set_up powered_on writes) start (set_up powered_on writes)
standing_first plan start writes =
    record {
      segments = refl;
      transaction = refl;
      long_stop = refl;
      long = refl;
      alike = λ tag n low high. refl;
      agrees = agrees_empty plan start (set_up powered_on writes) (buffers_set_up powered_on writes ∙ powered_empty);
    }

kept :
    (plan : PlanNumbers) (writes : List RegisterWrite) (calls : List Call) (start end : List ℕ) (replies : List Reply) →
    Planned plan.form plan.exponent →
    0 < page_count plan.form plan.exponent →
    replies ≡ replies_from plan start (set_up powered_on writes) calls →
    end ≡ words_from plan start (set_up powered_on writes) calls →
    Closed plan start (set_up powered_on writes) →
    Throughout plan (set_up powered_on writes) calls start end replies
kept plan writes calls start end replies planned some answered ends closed =
    let first = set_up powered_on writes in
    let run = plainly plan start first some closed start first calls (standing_first plan start writes) in
    throughout plan start first calls replies end planned
    (subst
    (λ (rs : List Reply). Plainly plan start first start calls rs end)
    (sym answered)
    (subst (λ (xs : List ℕ). Plainly plan start first start calls (replies_from plan start first calls) xs) (sym ends) run))

pub twice :
    (plan : PlanNumbers) (writes : List RegisterWrite) (calls : List Call) →
    (start end : List ℕ) (replies : List Reply) (start' end' : List ℕ) (replies' : List Reply) →
    Planned plan.form plan.exponent →
    0 < page_count plan.form plan.exponent →
    replies ≡ replies_from plan start (set_up powered_on writes) calls →
    end ≡ words_from plan start (set_up powered_on writes) calls →
    replies' ≡ replies_from plan start' (set_up powered_on writes) calls →
    end' ≡ words_from plan start' (set_up powered_on writes) calls →
    Twice plan (set_up powered_on writes) calls start end replies start' end' replies'
twice plan writes calls start end replies start' end' replies' planned some answered ends answered' ends' =
    let first = set_up powered_on writes in
    record {
      one = kept plan writes calls start end replies planned some answered ends;
      two = kept plan writes calls start' end' replies' planned some answered' ends';
      isolated = λ closed alike.
          let long : length start ≡ length start' = omega (arith, alike.sized, alike.sized') in
          let other : Standing plan start first start' first =
          record {
            segments = refl;
            transaction = refl;
            long_stop = refl;
            long = long;
            alike = λ tag n low high. read_same start start' n long (alike.table n (low, high));
            agrees = agrees_empty plan start' first (buffers_set_up powered_on writes ∙ powered_empty);
          }
          in
          answered
          ∙ answered_alike plan start first some closed start start' first calls
          (record { one = standing_first plan start writes; two = other; granted = alike.granted })
          ∙ sym answered';
    }

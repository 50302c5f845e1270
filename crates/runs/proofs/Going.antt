-- The steps of the loop that carries calls out.
use Rattle.std.proofs.Common.{◌≡◌, ℕ, ◌+◌, ◌<◌, ◌≤◌, List, [], ◌∷◌, ◌++◌, length, get_or, drop, sym, ap, ◌∙◌, append_assoc, append-nil}
use Rattle.std.proofs.lemmas.List.{at_drop_more, at_drop_all}
use Rattle.paging.specs.Numbers.{PlanNumbers}
use Rattle.unit_state.specs.declared.state.UnitState.{UnitState}
use Rattle.runs.specs.declared.call.Call.{Call}
use Rattle.runs.specs.declared.call.Reply.{Reply}
use Rattle.runs.specs.Step.{reply_of, state_after, words_after}
use Rattle.runs.specs.Fold.{replies_from, state_from, words_from}

-- what is done and what is left make up the whole run
pub record Going (plan : PlanNumbers) (calls : List Call) (start : List ℕ) (first : UnitState) (i : ℕ) (ws : List ℕ) (s : UnitState) (done : List Reply) : Type 0 where
  pub replies : done ++ replies_from plan ws s (drop i calls) ≡ replies_from plan start first calls
  pub state : state_from plan ws s (drop i calls) ≡ state_from plan start first calls
  pub words : words_from plan ws s (drop i calls) ≡ words_from plan start first calls

pub going_more :
    (plan plan' : PlanNumbers) (calls : List Call) (start : List ℕ) (first : UnitState) (i : ℕ) (ws : List ℕ) (s : UnitState) (done : List Reply) (d : Call) →
    (ws' : List ℕ) (s' : UnitState) (done' : List Reply) (reply : Reply) →
    Going plan calls start first i ws s done →
    plan' ≡ plan →
    i < length calls →
    reply ≡ reply_of plan' ws s (get_or calls i d) →
    s' ≡ state_after plan' ws s (get_or calls i d) →
    ws' ≡ words_after plan' ws s (get_or calls i d) →
    done' ≡ done ++ reply ∷ [] →
    Going plan calls start first (i + 1) ws' s' done'
unfolding replies_from state_from words_from
going_more plan plan' calls start first i ws s done d ws' s' done' reply going same inside reply-is state-is words_are is-done =
    let call = get_or calls i d in
    let is-reply : reply ≡ reply_of plan ws s call = reply-is ∙ ap (λ (x : PlanNumbers). reply_of x ws s call) same in
    let is_state : s' ≡ state_after plan ws s call = state-is ∙ ap (λ (x : PlanNumbers). state_after x ws s call) same in
    let is-words : ws' ≡ words_after plan ws s call = words_are ∙ ap (λ (x : PlanNumbers). words_after x ws s call) same in
    record {
      replies =
          rw (is-done, append_assoc, is-reply, is_state, is-words) (
          sym (at_drop_more (λ (cs : List Call). done ++ replies_from plan ws s cs) calls i d inside) ∙ going.replies);
      state = rw (is_state, is-words) (sym (at_drop_more (state_from plan ws s) calls i d inside) ∙ going.state);
      words = rw (is_state, is-words) (sym (at_drop_more (words_from plan ws s) calls i d inside) ∙ going.words);
    }

pub record Gone (plan : PlanNumbers) (calls : List Call) (start : List ℕ) (first : UnitState) (ws : List ℕ) (s : UnitState) (done : List Reply) : Type 0 where
  pub replies : done ≡ replies_from plan start first calls
  pub state : s ≡ state_from plan start first calls
  pub words : ws ≡ words_from plan start first calls

pub going_all :
    (plan : PlanNumbers) (calls : List Call) (start : List ℕ) (first : UnitState) (i : ℕ) (ws : List ℕ) (s : UnitState) (done : List Reply) →
    Going plan calls start first i ws s done →
    length calls ≤ i →
    Gone plan calls start first ws s done
unfolding replies_from state_from words_from
going_all plan calls start first i ws s done going past =
    record {
      replies =
          sym (append-nil done)
          ∙ sym (at_drop_all (λ (cs : List Call). done ++ replies_from plan ws s cs) calls i past)
          ∙ going.replies;
      state = sym (at_drop_all (state_from plan ws s) calls i past) ∙ going.state;
      words = sym (at_drop_all (words_from plan ws s) calls i past) ∙ going.words;
    }

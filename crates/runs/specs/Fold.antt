-- What a list of calls answers, one call after the other, and what it leaves.
use Rattle.std.specs.Prelude.{◌≡◌, ℕ, List, [], ◌∷◌}
use Rattle.paging.specs.Numbers.{PlanNumbers}
use Rattle.unit_state.specs.declared.state.UnitState.{UnitState}
use Rattle.runs.specs.declared.call.Call.{Call}
use Rattle.runs.specs.declared.call.Reply.{Reply}
use Rattle.runs.specs.Step.{reply_of, state_after, words_after}

unfoldable pub replies_from : PlanNumbers → List ℕ → UnitState → List Call → List Reply
replies_from plan ws s [] = []
replies_from plan ws s (c ∷ cs) =
    reply_of plan ws s c ∷ replies_from plan (words_after plan ws s c) (state_after plan ws s c) cs

unfoldable pub state_from : PlanNumbers → List ℕ → UnitState → List Call → UnitState
state_from plan ws s [] = s
state_from plan ws s (c ∷ cs) = state_from plan (words_after plan ws s c) (state_after plan ws s c) cs

unfoldable pub words_from : PlanNumbers → List ℕ → UnitState → List Call → List ℕ
words_from plan ws s [] = ws
words_from plan ws s (c ∷ cs) = words_from plan (words_after plan ws s c) (state_after plan ws s c) cs

-- what a run replies, and the words that it leaves
pub record Replied (plan : PlanNumbers) (start end : List ℕ) (first : UnitState) (calls : List Call) (replies : List Reply) : Type 0 where
  pub replies-are : replies ≡ replies_from plan start first calls
  pub words_are : end ≡ words_from plan start first calls

-- a whole run: its replies, the unit and the storage after it
pub record Ran (plan : PlanNumbers) (start end : List ℕ) (first last : UnitState) (calls : List Call) (replies : List Reply) : Type 0 where
  pub replies-are : replies ≡ replies_from plan start first calls
  pub state-is : last ≡ state_from plan start first calls
  pub words_are : end ≡ words_from plan start first calls

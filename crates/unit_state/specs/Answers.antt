-- What a request answers, and what it leaves.
use Rattle.std.specs.Prelude.{ℕ, Some, None, Ok, Err, Option, Result}
use Rattle.refusals.specs.declared.refusal.Refusal.{Refusal}
use Rattle.refusals.specs.Numbers.{number_of}
use Rattle.page_table.specs.declared.walk.Fault.{Fault}
use Rattle.page_table.specs.Search.{uncompared}
use Rattle.unit_state.specs.declared.answer.Access.{Access}

abbrev pub Answer : Type 0
Answer = Result Access Fault

-- An accepted request has the number 0, a refused one that of its refusal.
abbrev pub answer_number : Answer → ℕ
answer_number (Ok a) = 0
answer_number (Err e) = number_of e.refusal

-- The value of a refused request is 0.
abbrev pub answer_value : Answer → ℕ
answer_value (Ok a) = a.value
answer_value (Err e) = 0

-- what a request that walks no table answers, by the rule that refuses it, if one does
abbrev pub answered : Option Refusal → ℕ → Answer
answered None value = Ok (record { value = value; compared = record { count = 0; last = None } })
answered (Some r) value = Err (uncompared r)

-- what a call gives, by the rule that refuses it, if one does
abbrev pub passed : {X : Type 0} → Option Refusal → X → Result X Refusal
passed None x = Ok x
passed (Some r) x = Err r

-- what a call leaves: a refusal leaves all as it was
abbrev pub unless : {X : Type 0} → Option Refusal → X → X → X
unless None old new = new
unless (Some r) old new = old

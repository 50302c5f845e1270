-- What comes of a trial.
use Rattle.std.specs.Prelude.{ℕ, ◌+◌, ◌-◌, ◌*◌, ◌/◌, ◌^◌, cond, List, slice_set}
use Rattle.paging.specs.declared.geometry.PageGeometry.{PageGeometry}
use Rattle.paging.specs.declared.address.EffectiveAddress.{EffectiveAddress}
use Rattle.paging.specs.Numbers.{PlanNumbers}
use Rattle.paging.specs.Plan.{page_count}
use Rattle.protection.specs.declared.access_type.AccessType.{AccessType}
use Rattle.protection.specs.declared.access_type.AccessType.TheVariants.{Load, Store}
use Rattle.exceptions.specs.Raising.{word_of}
use Rattle.unit_state.specs.declared.state.UnitState.{UnitState}
use Rattle.unit_state.specs.Answers.{Answer}
use Rattle.unit_state.specs.State.{powered_on, with_segments, with_long_search}
use Rattle.unit_state.specs.Requests.{load_answer, after_load, store_answer, after_store, store_words}
use Rattle.trials.specs.declared.bench.Spot.{Spot}
use Rattle.trials.specs.declared.bench.Spot.TheVariants.{First, Fifth, EndOfLine, NextLine}
use Rattle.trials.specs.declared.bench.BenchRequest.{BenchRequest}
use Rattle.trials.specs.declared.bench.Trial.{Trial}
use Rattle.trials.specs.declared.bench.TrialOutcome.{TrialOutcome}
use Rattle.trials.specs.Image.{bench_words}

-- The table starts at byte 1,024 in both page forms: the base number is 2 in 2K, 4 in 4K.
abbrev pub bench_base : PageGeometry → ℕ
bench_base f = 64 / page_count f 16

-- the numbers of the bench image's plan
abbrev pub bench_plan : PageGeometry → PlanNumbers
bench_plan f = record { form = f; exponent = 16; base = bench_base f }

abbrev pub spot_of : PageGeometry → Spot → ℕ
spot_of f First = 0
spot_of f Fifth = 4
spot_of f EndOfLine = f.line - 1
spot_of f NextLine = f.line

-- an address in register 1
abbrev pub address_of : PageGeometry → BenchRequest → EffectiveAddress
address_of f r = record { number = 2 ^ 28 + r.page * f.page + spot_of f r.spot }

-- the unit after power-on and the writes of register 1 and of the long-stop bit
abbrev pub start_of : Trial → UnitState
start_of t = with_long_search (with_segments powered_on (slice_set powered_on.segments 1 t.register)) t.long_stop

-- what a request answers, and what it leaves; stores are of 0
abbrev pub answer_by : PageGeometry → BenchRequest → AccessType → List ℕ → UnitState → Answer
answer_by f r Load ws s = load_answer (bench_plan f) ws s r.width (address_of f r)
answer_by f r Store ws s = store_answer (bench_plan f) ws s r.width (address_of f r) 0

abbrev pub state_by : PageGeometry → BenchRequest → AccessType → List ℕ → UnitState → UnitState
state_by f r Load ws s = after_load (bench_plan f) ws s r.width (address_of f r)
state_by f r Store ws s = after_store (bench_plan f) ws s r.width (address_of f r) 0

abbrev pub words_by : PageGeometry → BenchRequest → AccessType → List ℕ → UnitState → List ℕ
words_by f r Load ws s = ws
words_by f r Store ws s = store_words (bench_plan f) ws s r.width (address_of f r) 0

abbrev pub outcome_by : PageGeometry → BenchRequest → List ℕ → UnitState → TrialOutcome
outcome_by f r ws s =
    record {
      answer = answer_by f r r.access ws s;
      exceptions = word_of (state_by f r r.access ws s).exceptions;
    }

-- A trial that is made again is judged by the second answer.
abbrev pub outcome_in : PageGeometry → Trial → List ℕ → UnitState → TrialOutcome
outcome_in f t ws s =
    cond
    t.again
    (outcome_by f t.request (words_by f t.request t.request.access ws s) (state_by f t.request t.request.access ws s))
    (outcome_by f t.request ws s)

abbrev pub outcome_of : PageGeometry → Trial → TrialOutcome
outcome_of f t = outcome_in f t (bench_words f t) (start_of t)

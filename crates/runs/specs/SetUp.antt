-- The registers as a list of writes leaves them.
use Rattle.std.specs.Prelude.{List, [], ◌∷◌, slice_set}
use Rattle.unit_state.specs.declared.state.UnitState.{UnitState}
use Rattle.unit_state.specs.Answers.{unless}
use Rattle.unit_state.specs.Registers.{register_refusal}
use Rattle.unit_state.specs.State.{with_segments, with_transaction, with_long_search}
use Rattle.runs.specs.declared.set_up.RegisterWrite.{RegisterWrite}
use Rattle.runs.specs.declared.set_up.RegisterWrite.TheVariants.{Segment, Transaction, LongStop}

-- A write that is refused alters nothing.
abbrev pub written_by : UnitState → RegisterWrite → UnitState
written_by s (Segment number r) = unless (register_refusal number r) s (with_segments s (slice_set s.segments number r))
written_by s (Transaction transaction) = with_transaction s transaction
written_by s (LongStop on) = with_long_search s on

unfoldable pub set_up : UnitState → List RegisterWrite → UnitState
set_up s [] = s
set_up s (w ∷ ws) = set_up (written_by s w) ws

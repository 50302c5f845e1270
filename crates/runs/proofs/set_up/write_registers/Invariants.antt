use Rattle.std.proofs.Common.{◌≡◌, drop}
use Rattle.runs.specs.SetUp.{set_up}
use Rattle.runs.proofs.set_up.write_registers.Given as goal

abbrev pub invariant-loop-write : goal.invariant-loop-write
invariant-loop-write g l =
    (set_up l.unit.state (drop l.write-index l.writes) ≡ set_up l.initial.unit.state l.writes)
    × (l.unit.plan ≡ l.initial.unit.plan)

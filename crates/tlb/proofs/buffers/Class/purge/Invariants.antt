use Rattle.std.proofs.Common.{◌≡◌, ◌++◌, map, take, drop}
use Rattle.tlb.specs.Purging.{left_by}
use Rattle.tlb.proofs.buffers.Class.purge.Given as goal

abbrev pub invariant-loop-way : goal.invariant-loop-way
invariant-loop-way l =
    l.way-items ≡ map (left_by l.purge) (take l.way-index l.initial.way-items) ++ drop l.way-index l.initial.way-items

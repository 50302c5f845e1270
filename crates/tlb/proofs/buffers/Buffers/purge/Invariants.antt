use Rattle.std.proofs.Common.{◌≡◌, ◌++◌, map, take, drop}
use Rattle.tlb.specs.Purging.{purged_class}
use Rattle.tlb.proofs.buffers.Buffers.purge.Given as goal

abbrev pub invariant-loop-class : goal.invariant-loop-class
invariant-loop-class l =
    l.class-items ≡ map (purged_class l.purge) (take l.class-index l.initial.class-items) ++ drop l.class-index l.initial.class-items

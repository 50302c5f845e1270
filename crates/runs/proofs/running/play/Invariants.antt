use Rattle.std.proofs.Common.{◌≡◌, ◌≤◌, length, vec_items, vec_len, vec_capacity}
use Rattle.paging.specs.Numbers.{numbers_of}
use Rattle.runs.proofs.Going.{Going}
use Rattle.runs.proofs.running.play.Given as goal

abbrev pub invariant-loop-call : goal.invariant-loop-call
invariant-loop-call g l =
    (vec_len l.replies ≡ l.call-index)
    × (length l.calls ≤ vec_capacity l.replies)
    × (l.unit.plan ≡ l.initial.unit.plan)
    × (g.S.Storage.lenders l.storage ≡ g.S.Storage.lenders l.initial.storage)
    × Going (numbers_of l.initial.unit.plan) l.calls (g.S.ReadStorage.words l.initial.storage) l.initial.unit.state l.call-index (g.S.ReadStorage.words l.storage) l.unit.state (vec_items l.replies)

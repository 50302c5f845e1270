use Rattle.std.proofs.Common.{◌≡◌}
use Rattle.storage.specs.Copy.{copied_up_to}
use Rattle.storage.proofs.copy.copy_words.Given as goal

abbrev pub invariant-loop-n : goal.invariant-loop-n
invariant-loop-n g l =
    (g.B.ReadStorage.words l.to
    ≡ copied_up_to l.n (g.A.ReadStorage.words l.from) (g.B.ReadStorage.words l.initial.to))
    × (g.B.Storage.lenders l.to ≡ g.B.Storage.lenders l.initial.to)

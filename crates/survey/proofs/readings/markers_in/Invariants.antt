use Rattle.std.proofs.Common.{vec_items}
use Rattle.survey.specs.Readings.{AllSpelled}
use Rattle.survey.proofs.readings.markers_in.Given as goal

abbrev pub invariant-loop-j : goal.invariant-loop-j
invariant-loop-j l = AllSpelled l.replies l.j (vec_items l.markers)

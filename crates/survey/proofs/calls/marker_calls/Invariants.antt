use Rattle.std.proofs.Common.{◌+◌, ◌*◌, vec_items}
use Rattle.survey.specs.Calls.{MarkerCalls}
use Rattle.survey.proofs.calls.marker_calls.Given as goal

abbrev pub invariant-loop-word : goal.invariant-loop-word
invariant-loop-word g l = MarkerCalls g.F.PageForm.sizes l.sites (4 * l.n + l.word) (vec_items l.calls)

abbrev pub invariant-loop-n : goal.invariant-loop-n
invariant-loop-n g l = MarkerCalls g.F.PageForm.sizes l.sites (4 * l.n) (vec_items l.calls)

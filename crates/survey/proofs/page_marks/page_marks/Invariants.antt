use Rattle.std.proofs.Common.{vec_items}
use Rattle.survey.specs.Check.{AllMarks}
use Rattle.survey.proofs.page_marks.page_marks.Given as goal

abbrev pub invariant-loop-page : goal.invariant-loop-page
invariant-loop-page g l = AllMarks l.page l.unit.state (vec_items l.marks)

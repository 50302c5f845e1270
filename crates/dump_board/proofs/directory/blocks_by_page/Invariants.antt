use Rattle.dump_board.specs.Dump.{Inverse}
use Rattle.dump_board.proofs.directory.blocks_by_page.Given as goal

abbrev pub invariant-loop-b : goal.invariant-loop-b
invariant-loop-b l = Inverse l.pages l.blocks l.b

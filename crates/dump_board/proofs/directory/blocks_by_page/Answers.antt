use Rattle.dump_board.proofs.Directories.{inverse_none}
use Rattle.dump_board.proofs.directory.blocks_by_page.Goals as goal

-- said here, since the search does not find it by `using(inverse_none)`
pub loop-b-init : goal.loop-b-init
loop-b-init c = inverse_none c.args.pages.now

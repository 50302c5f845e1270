use Rattle.std.proofs.Common.{◌≡◌}
use Rattle.survey_image.proofs.Blocks.{Drawing}
use Rattle.survey_image.proofs.drawing.draw_all.Given as goal

abbrev pub invariant-loop-item : goal.invariant-loop-item
invariant-loop-item g l =
    Drawing g.B.AsBlock.block l.items (g.S.ReadStorage.words l.initial.storage) l.item-index (g.S.ReadStorage.words l.storage)
    × (g.S.Storage.lenders l.storage ≡ g.S.Storage.lenders l.initial.storage)

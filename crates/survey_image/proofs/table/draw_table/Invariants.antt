use Rattle.std.proofs.Common.{◌≡◌}
use Rattle.survey_image.specs.Drawing.{table_drawn}
use Rattle.survey_image.proofs.table.draw_table.Given as goal

abbrev pub invariant-loop-page : goal.invariant-loop-page
invariant-loop-page g l =
    (g.S.ReadStorage.words l.storage
    ≡ table_drawn g.F.PageForm.sizes l.plan.base.number (g.S.ReadStorage.words l.initial.storage) l.page)
    × (g.S.Storage.lenders l.storage ≡ g.S.Storage.lenders l.initial.storage)

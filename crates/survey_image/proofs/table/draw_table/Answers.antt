use Rattle.std.proofs.Common.{◌≡◌, ◌^◌, sym, ◌∙◌}
use Rattle.survey_image.proofs.Blocks.{table_more}
use Rattle.survey_image.proofs.table.draw_table.Goals as goal

-- Said here: with `table_more` named on the function the search leaves the goal open. The lemma asks for the size as a power,
-- which follows from a test before the loop.
pub loop-page-preserved : goal.loop-page-preserved
loop-page-preserved g c =
    let plan = c.args.plan.now in
    let size : 2 ^ plan.exponent ≡ 65536 = sym c.storage_bytes.ensures ∙ c.if-storage_bytes-ne65536.false in (
      table_more g.F.PageForm.sizes plan.base.number plan.exponent _ _ _ c.loop-page.page c.table-start.result.start.number c.table_block.result size c.table-start.ensures.start c.loop-page.invariant.0 c.table_block.ensures c.draw.ensures.after,
      c.draw.ensures.lenders ∙ c.loop-page.invariant.1,
    )

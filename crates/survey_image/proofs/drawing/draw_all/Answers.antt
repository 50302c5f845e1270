use Rattle.std.proofs.Common.{◌≡◌, Err, sym, ◌∙◌, rules}
use Rattle.survey_image.proofs.Blocks.{drawing_more, drawing_stopped, drawing_all, whole_from}
use Rattle.survey_image.proofs.drawing.draw_all.Goals as goal

-- Said here: with the four lemmas named on the function the search gives up on the loop's goal, and leaves others open. They
-- ask what the last block answered, which each path says the other way round.
pub loop-item-preserved : goal.loop-item-preserved
loop-item-preserved g c = (
  drawing_more g.B.AsBlock.block c.args.items.now _ _ _ _ _ _ c.loop-item-test.true c.item-item.is c.loop-item.invariant.0 (sym c.in_ok-draw.was ∙ c.draw.ensures.answer) c.draw.ensures.after,
  c.draw.ensures.lenders ∙ c.loop-item.invariant.1,
)

pub returns-in_err-draw : goal.returns-in_err-draw
returns-in_err-draw g c =
    let same : c.from_residual.result ≡ Err c.in_err-draw.field-0.0 = search rules in
    let stopped =
    drawing_stopped g.B.AsBlock.block c.args.items.now _ _ _ _ _ _ c.loop-item-test.true c.item-item.is c.loop-item.invariant.0 (sym c.in_err-draw.was ∙ c.draw.ensures.answer) c.draw.ensures.after
    in
    record {
      answer = same ∙ stopped.0;
      after = stopped.1;
      whole = whole_from _ _ _ _ (same ∙ stopped.0) stopped.1;
      lenders = c.draw.ensures.lenders ∙ c.loop-item.invariant.1;
    }

pub returns : goal.returns
returns g c =
    let all = drawing_all g.B.AsBlock.block c.args.items.now _ _ _ c.loop-item-test.false c.loop-item.invariant.0 in
    record { answer = all.0; after = all.1; whole = whole_from _ _ _ _ all.0 all.1; lenders = c.loop-item.invariant.1 }

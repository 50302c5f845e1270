use Rattle.std.proofs.Common.{◌≡◌, ◌-◌, ◌<◌, Ok, Err, None, Break, Continue, sym, ap, ◌∙◌, subst, rules}
use Rattle.page_table.specs.declared.walk.Compared.{Compared}
use Rattle.page_table.specs.Search.{chain}
use Rattle.page_table.proofs.Turns.{one_turn, on_below}
use Rattle.page_table.proofs.chain.walk.Goals as goal

-- Said here: with `one_turn` and `on_below` named on the function the search leaves two goals open, and gives up on the
-- loop's. What a turn gives has to be put together from its cases before the lemmas fit.
pub returns-in_err-found : goal.returns-in_err-found
returns-in_err-found g c =
    let is : c.turn.result ≡ Err c.in_err-found.field-0.0 = c.in_err-found.was in
    let gives : c.from_residual.result ≡ Err c.in_err-found.field-0.0 = search rules in
    gives ∙ sym (one_turn _ _ c.args.asked.query _ _ _ _ _ c.follow.invariant.0 c.follow.invariant.1 (sym is ∙ c.turn.ensures.is))

pub returns-in-Break : goal.returns-in-Break
returns-in-Break g c =
    let is : c.turn.result ≡ Ok (Break c.in-Break.found) = c.in_ok-found.was ∙ ap Ok c.in-Break.is in
    sym (one_turn _ _ c.args.asked.query _ _ _ _ _ c.follow.invariant.0 c.follow.invariant.1 (sym is ∙ c.turn.ensures.is))

pub follow-preserved : goal.follow-preserved
follow-preserved g c =
    let q = c.args.asked.query in
    let turn = g.H.Hit.turned g.F.PageForm.sizes (g.S.ReadStorage.words c.args.storage.now) q in
    let is : c.turn.result ≡ Ok (Continue c.in-Continue.next) = c.in_ok-found.was ∙ ap Ok c.in-Continue.is in
    let P : Compared → Type 0 =
    λ x. (x.count < q.limit)
    × (chain g.H.Hit.reached turn q q.limit c.args.first 0 None
    ≡ chain g.H.Hit.reached turn q (q.limit - x.count) c.in-Continue.next x.count x.last)
    in
    subst P (sym c.with-compared.ensures) (
      on_below q _ _ _ c.turn.ensures.going c.follow.invariant.0 (sym is),
      one_turn _ _ q _ _ _ _ _ c.follow.invariant.0 c.follow.invariant.1 (sym is ∙ c.turn.ensures.is),
    )

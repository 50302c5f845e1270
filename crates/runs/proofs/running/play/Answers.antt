use Rattle.std.proofs.Common.{ap, ◌∙◌, rules}
use Rattle.paging.specs.Numbers.{numbers_of}
use Rattle.runs.proofs.Going.{going_more}
use Rattle.runs.proofs.running.play.Goals as goal

-- Said here: with `going_more` named on the function the search leaves the goal open, since the lemma asks about plans by
-- their numbers, and the calls speak of the plans.
pub loop-call-preserved : goal.loop-call-preserved
loop-call-preserved g c =
    let same = c.loop-call.invariant.2 in (
      search rules,
      search rules,
      c.carry_out-reply.ensures.plan ∙ same,
      c.carry_out-reply.ensures.lenders ∙ c.loop-call.invariant.3,
      going_more
          _
          _
          c.args.calls.now
          _
          _
          c.loop-call.call-index
          _
          _
          _
          _
          _
          _
          _
          _
          c.loop-call.invariant.4
          (ap numbers_of same)
          c.loop-call-test.true
          c.carry_out-reply.ensures.reply
          c.carry_out-reply.ensures.state
          c.carry_out-reply.ensures.words
          c.push_reserved.ensures.items,
    )

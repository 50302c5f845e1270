use Rattle.std.proofs.Common.{◌+◌, drop, sym, ap, ◌∙◌}
use Rattle.std.proofs.lemmas.List.{at_drop_more, at_drop_all}
use Rattle.unit_state.specs.declared.state.UnitState.{UnitState}
use Rattle.runs.specs.SetUp.{set_up}
use Rattle.runs.proofs.set_up.write_registers.Goals as goal

pub loop-write-preserved : goal.loop-write-preserved
unfolding set_up
loop-write-preserved g c = (
  ap (λ (s : UnitState). set_up s (drop (c.loop-write.write-index + 1) c.args.writes.now)) c.write_register.ensures.state
      ∙ sym (at_drop_more (set_up c.loop-write.unit.state) c.args.writes.now c.loop-write.write-index _ c.loop-write-test.true)
      ∙ c.loop-write.invariant.0,
  c.write_register.ensures.plan ∙ c.loop-write.invariant.1,
)

pub returns : goal.returns
unfolding set_up
returns g c =
    record {
      state = sym (at_drop_all (set_up c.loop-write.unit.state) c.args.writes.now c.loop-write.write-index c.loop-write-test.false) ∙ c.loop-write.invariant.0;
      plan = c.loop-write.invariant.1;
    }

use Rattle.std.proofs.Common.{rules, ◌≡◌, ◌*◌, length, subst, Decides}
use Rattle.paging.specs.Numbers.{PlanNumbers, numbers_of, drafted}
use Rattle.paging.specs.Plan.{storage_bytes}
use Rattle.unit_state.specs.declared.state.UnitState.{UnitState}
use Rattle.unit_state.specs.State.{powered_on}
use Rattle.unit_state.specs.Grants.{Closed}
use Rattle.runs.specs.SetUp.{set_up}
use Rattle.survey.specs.declared.call_check.TheConstants.{REGISTERS}
use Rattle.mapped_markers.proofs.both.table_closed.Goals as goal

pub returns : goal.returns
returns g c =
    let draft = c.args.draft in
    let ws = g.S.ReadStorage.words c.args.storage.now in
    let unit = c.write_registers.new.unit in
    let closed = c.table_is_closed-closed.result in
    let numbers : numbers_of unit.plan ≡ drafted g.F.PageForm.sizes draft = search rules in
    let sized : 4 * length ws ≡ storage_bytes draft.exponent = search rules in
    let back : c.end.result ≡ draft = search rules in
    let state : unit.state ≡ set_up powered_on REGISTERS =
    subst (λ (s : UnitState). unit.state ≡ set_up s REGISTERS) c.power_on-unit.ensures.state c.write_registers.ensures.state in
    let by_plan : Decides closed (Closed (drafted g.F.PageForm.sizes draft) ws unit.state) =
    subst (λ (p : PlanNumbers). Decides closed (Closed p ws unit.state)) numbers c.table_is_closed-closed.ensures in (
      sized,
      subst (λ (s : UnitState). Decides closed (Closed (drafted g.F.PageForm.sizes draft) ws s)) state by_plan,
      back,
    )

use Rattle.std.proofs.Common.{sym, ◌∙◌, rules}
use Rattle.paging.specs.Numbers.{numbers_of}
use Rattle.lanes.specs.Bytes.{StoredBytes}
use Rattle.protection.specs.declared.access_type.AccessType.TheVariants.{Store}
use Rattle.unit_state.proofs.Inverting.{at_place}
use Rattle.unit_state.proofs.state.UnitState.store_at.Goals as goal

pub returns-clause-bytes : goal.returns-clause-bytes
returns-clause-bytes g c =
    let form = g.met.F.PageForm in
    let ws = g.S.ReadStorage.words c.args.storage.now in
    let vs = g.S.ReadStorage.words c.store_unit.new.storage in
    at_place (numbers_of c.args.plan.now) ws c.args.self.now c.args.address.number Store _ (λ q. StoredBytes ws vs c.args.width q.address.number c.args.value) form.wide form.whole (sym c.translate.ensures.answer ∙ c.in_ok-place.was) (search rules)

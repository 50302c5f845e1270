use Rattle.std.proofs.Common.{◌≡◌, sym, subst, arith, rules}
use Rattle.paging.specs.Numbers.{numbers_of}
use Rattle.paging.proofs.Pages.{pages_bounded}
use Rattle.unit_state.specs.declared.state.UnitState.{UnitState}
use Rattle.unit_state.specs.Answers.{Answer}
use Rattle.unit_state.specs.Requests.{store_answer, after_store}
use Rattle.unit_state.specs.Laws.{StoreLaws}
use Rattle.unit_state.proofs.RequestLaws.{store_laws}
use Rattle.protection.specs.declared.access_type.AccessType.TheVariants.{Store}
use Rattle.unit_state.proofs.Locating.{sound_request}
use Rattle.mmu.proofs.unit.MemoryUnit.store.Goals as goal

-- Said here: with `store_laws` and `sound_request` named on the function the search closes neither goal. `store_laws` speaks
-- of the answer and the state by their definitions, and the goal of what equals them, which has to be put in both places.
pub returns-clause-laws : goal.returns-clause-laws
unfolding store_answer after_store
returns-clause-laws g c =
    let form = g.met.F.PageForm in
    let unit = c.args.self.now in
    let plan = numbers_of unit.plan in
    let s = unit.state in
    let w = c.args.width in
    let address = c.args.address in
    let value = c.args.value in
    let ws = g.S.ReadStorage.words c.args.storage.now in
    let vs = g.S.ReadStorage.words c.store_at-answer.new.storage in
    let pages = pages_bounded plan.form plan.exponent form.wide form.whole unit.plan.large unit.plan.small in
    let answer : c.store_at-answer.result ≡ store_answer plan ws s w address value = search rules in
    let state : c.note.new.self ≡ after_store plan ws s w address value = search rules in
    let P : Answer → Type 0 = λ r. StoreLaws plan ws vs s w address value r (after_store plan ws s w address value) in
    let Q : UnitState → Type 0 = λ after. StoreLaws plan ws vs s w address value c.store_at-answer.result after in
    λ agrees.
    subst Q (sym state) (subst P (sym answer) (store_laws plan ws vs s w address value (record { wide = form.wide; whole = form.whole; large = unit.plan.large }) (omega (arith, pages.0)) agrees))

pub invariant_of-self : goal.invariant_of-self
invariant_of-self g c =
    let form = g.met.F.PageForm in
    let unit = c.args.self.now in
    record {
      sound = sound_request (numbers_of unit.plan) _ _ _ Store _ _ _ _ _ _ form.wide form.whole unit.plan.large unit.plan.small unit.sound c.store_at-answer.ensures.state c.note.ensures;
    }

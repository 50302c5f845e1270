use Rattle.std.proofs.Common.{◌≡◌, sym, subst, rules}
use Rattle.paging.specs.Numbers.{numbers_of}
use Rattle.unit_state.specs.declared.state.UnitState.{UnitState}
use Rattle.unit_state.specs.Answers.{Answer}
use Rattle.unit_state.specs.Requests.{load_answer, after_load}
use Rattle.unit_state.specs.Laws.{LoadLaws}
use Rattle.protection.specs.declared.access_type.AccessType.TheVariants.{Load}
use Rattle.unit_state.proofs.Locating.{sound_request}
use Rattle.unit_state.proofs.RequestLaws.{load_laws}
use Rattle.mmu.proofs.unit.MemoryUnit.load.Goals as goal

-- Said here: with `load_laws` and `sound_request` named on the function the search closes neither goal. `load_laws` speaks of
-- the answer and the state by their definitions, and the goal of what equals them, which has to be put in both places.
pub returns-clause-laws : goal.returns-clause-laws
unfolding load_answer after_load
returns-clause-laws g c =
    let form = g.met.F.PageForm in
    let unit = c.args.self.now in
    let plan = numbers_of unit.plan in
    let s = unit.state in
    let w = c.args.width in
    let address = c.args.address in
    let ws = g.S.ReadStorage.words c.args.storage.now in
    let answer : c.load_at-answer.result ≡ load_answer plan ws s w address = search rules in
    let state : c.note.new.self ≡ after_load plan ws s w address = search rules in
    let P : Answer → Type 0 = λ r. LoadLaws plan ws s w address r (after_load plan ws s w address) in
    let Q : UnitState → Type 0 = λ after. LoadLaws plan ws s w address c.load_at-answer.result after in
    λ agrees.
    subst Q (sym state) (subst P (sym answer) (load_laws plan ws s w address (record { wide = form.wide; whole = form.whole; large = unit.plan.large }) agrees))

pub invariant_of-self : goal.invariant_of-self
invariant_of-self g c =
    let form = g.met.F.PageForm in
    let unit = c.args.self.now in
    record {
      sound = sound_request (numbers_of unit.plan) _ _ _ Load _ _ _ _ _ _ form.wide form.whole unit.plan.large unit.plan.small unit.sound c.load_at-answer.ensures.state c.note.ensures;
    }

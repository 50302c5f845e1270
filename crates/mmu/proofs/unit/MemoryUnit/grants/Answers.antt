use Rattle.std.proofs.Common.{◌≡◌, ◌*◌, ◌≤◌, true, false, eqb, length, Some, None, sym, ◌∙◌, inl, inr, arith}
use Rattle.std.proofs.lemmas.Bool.Decides.{Decides-at}
use Rattle.paging.specs.Numbers.{numbers_of}
use Rattle.paging.specs.Plan.{storage_bytes}
use Rattle.unit_state.proofs.Granted.{settled_plan, held_from, decided_inside, decided_outside}
use Rattle.mmu.proofs.unit.MemoryUnit.grants.Goals as goal
use Rattle.mmu.proofs.unit.MemoryUnit.grants.Goals.{then-not-has_size-via-then-not-has_size, then-not-has_size-via-else-not-has_size+then-word-count}

pub returns-then-not-has_size : goal.returns-then-not-has_size
returns-then-not-has_size g c =
    let form = g.met.F.PageForm in
    let unit = c.args.self.now in
    let ws = g.S.ReadStorage.words c.args.storage.now in
    decided_outside (numbers_of unit.plan) ws unit.state c.args.access c.args.word
    (settled_plan unit.plan form.wide form.whole form.lines form.bases)
    (elim c.then-not-has_size.branch [
      | then-not-has_size-via-then-not-has_size w ↦
          let unsized : eqb (4 * length ws) (storage_bytes unit.plan.exponent) ≡ false = sym c.has_size.ensures ∙ w.if-not-has_size.true in
          inl unsized
      | then-not-has_size-via-else-not-has_size+then-word-count w ↦ let past : length ws ≤ c.args.word = omega arith in inr past
    ])

pub some_opens-requires-clause-narrow : goal.some_opens-requires-clause-narrow
some_opens-requires-clause-narrow g c =
    (held_from (numbers_of c.args.self.now.plan) _ c.args.self.now.state _ c.in-Some.page (sym c.in-Some.ensures)).narrow

pub some_opens-requires-clause-short : goal.some_opens-requires-clause-short
some_opens-requires-clause-short g c =
    (held_from (numbers_of c.args.self.now.plan) _ c.args.self.now.state _ c.in-Some.page (sym c.in-Some.ensures)).short

pub returns-in-Some : goal.returns-in-Some
returns-in-Some g c =
    let form = g.met.F.PageForm in
    let unit = c.args.self.now in
    let ws = g.S.ReadStorage.words c.args.storage.now in
    let sized : eqb (4 * length ws) (storage_bytes unit.plan.exponent) ≡ true = sym c.has_size.ensures ∙ c.if-not-has_size.false in
    Decides-at _ _ c.some_opens.ensures
    (decided_inside (numbers_of unit.plan) ws unit.state c.args.access c.args.word c.geometry.result (Some c.in-Some.page)
    (settled_plan unit.plan form.wide form.whole form.lines form.bases)
    c.geometry.ensures
    sized
    (omega arith)
    c.in-Some.ensures)

pub returns-in-None : goal.returns-in-None
returns-in-None g c =
    let form = g.met.F.PageForm in
    let unit = c.args.self.now in
    let ws = g.S.ReadStorage.words c.args.storage.now in
    let sized : eqb (4 * length ws) (storage_bytes unit.plan.exponent) ≡ true = sym c.has_size.ensures ∙ c.if-not-has_size.false in
    decided_inside (numbers_of unit.plan) ws unit.state c.args.access c.args.word c.geometry.result None
    (settled_plan unit.plan form.wide form.whole form.lines form.bases)
    c.geometry.ensures
    sized
    (omega arith)
    c.in-None.ensures

use Rattle.std.proofs.Common.{◌≡◌, ℕ, ◌<◌, ◌≤◌, refl, subst, ⊎_elim, arith}
use Rattle.std.proofs.lemmas.Bool.{both_ways, cases_lt}
use Rattle.paging.specs.Numbers.{numbers_of}
use Rattle.protection.specs.declared.access_type.AccessType.TheVariants.{Store}
use Rattle.unit_state.specs.Grants.{Granted}
use Rattle.mmu.proofs.unit.MemoryUnit.table_is_closed.Goals as goal

pub loop-word-preserved : goal.loop-word-preserved
loop-word-preserved g c n low high granted =
    let unit = c.args.self.now in
    let P : ℕ → Type 0 = Granted (numbers_of unit.plan) (g.S.ReadStorage.words c.args.storage.now) unit.state Store in
    ⊎_elim
    (λ (before : n < c.loop-word.word). c.loop-word.invariant n low before granted)
    (λ (past : c.loop-word.word ≤ n).
    let here : n ≡ c.loop-word.word = omega arith in
    both_ways c.grants.result c.if-grants.false (c.grants.ensures.1 (subst P here granted)))
    (cases_lt n c.loop-word.word)

pub returns : goal.returns
returns g c = (
  λ closed n inside granted.
      c.loop-word.invariant n (omega (arith, c.table-table.ensures.start, inside.0)) (omega (arith, c.table-table.ensures.start, c.table-table.ensures.entries, inside.1)) granted,
  λ closed. refl,
)

use Rattle.std.proofs.Common.{ℕ, ◌<◌, ◌≤◌}
use Rattle.paging.specs.Numbers.{numbers_of}
use Rattle.protection.specs.declared.access_type.AccessType.TheVariants.{Store}
use Rattle.unit_state.specs.Grants.{Granted}
use Rattle.mmu.proofs.unit.MemoryUnit.table_is_closed.Given as goal

abbrev pub invariant-loop-word : goal.invariant-loop-word
invariant-loop-word g l =
    (n : ℕ) → l.start ≤ n → n < l.word → Granted (numbers_of l.self.plan) (g.S.ReadStorage.words l.storage) l.self.state Store n → ⊥

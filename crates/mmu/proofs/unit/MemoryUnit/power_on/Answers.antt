use Rattle.unit_state.proofs.Soundness.{powered_on_lem}
use Rattle.std.proofs.Common.{refl}
use Rattle.mmu.proofs.unit.MemoryUnit.power_on.Goals as goal

-- Said here: with `powered_on_lem` named on the function the search leaves the goal open. The state has four parts that four
-- calls make, two of them lists of equal items.
pub returns : goal.returns
returns g c =
    record {
      plan = refl;
      state = powered_on_lem _ _ _ _ c.absent_segments.ensures c.empty.ensures c.none.ensures c.unmarked_pages.ensures;
    }

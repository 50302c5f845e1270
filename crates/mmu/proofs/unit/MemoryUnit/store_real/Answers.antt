use Rattle.std.proofs.Common.{sym, subst}
use Rattle.unit_state.specs.Sound.{Sound}
use Rattle.unit_state.proofs.Soundness.{sound_used}
use Rattle.mmu.proofs.unit.MemoryUnit.store_real.Goals as goal

-- The lemma speaks of a used page, and the goal of the state that is equal to it: the search does not bring them together.
pub invariant_of-self : goal.invariant_of-self
invariant_of-self g c =
    record { sound = subst Sound (sym c.use_page.ensures) (sound_used _ _ _ c.args.self.now.sound) }

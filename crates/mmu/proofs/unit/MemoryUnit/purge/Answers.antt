use Rattle.std.proofs.Common.{sym, subst}
use Rattle.tlb.specs.declared.buffers.Buffers.{Buffers}
use Rattle.unit_state.specs.State.{with_buffers}
use Rattle.unit_state.specs.Sound.{Sound}
use Rattle.unit_state.proofs.Soundness.{sound_purged}
use Rattle.mmu.proofs.unit.MemoryUnit.purge.Goals as goal

pub invariant_of-self : goal.invariant_of-self
invariant_of-self g c =
    let s = c.args.self.now.state in
    let P : Buffers → Type 0 = λ b. Sound (with_buffers s b) in
    record { sound = subst P (sym c.purge.ensures.is) (sound_purged c.args.purge s c.args.self.now.sound) }

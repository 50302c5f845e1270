-- What the unit's type says of its state, and what keeps it.
use Rattle.std.proofs.Common.{◌≡◌, ℕ, ◌<◌, ◌≤◌, Bool, false, List, length, get_or, set, replicate, sym, ap, ◌∙◌, subst, ⊎_elim, arith, length-set}
use Rattle.std.proofs.lemmas.Bool.{cases_eq, cases_lt}
use Rattle.std.proofs.lemmas.List.{get_or-set_same, get_or-set_other, set_past}
use Rattle.protection.specs.declared.register.SegmentRegister.{SegmentRegister}
use Rattle.tlb.specs.declared.buffers.Buffers.{Buffers}
use Rattle.tlb.specs.declared.purging.Purge.{Purge}
use Rattle.tlb.specs.Lookup.{empty_buffers}
use Rattle.tlb.proofs.Purged.{each_purged, unique_purged}
use Rattle.exceptions.specs.declared.registers.Exceptions.{Exceptions}
use Rattle.exceptions.specs.Raising.{no_exceptions}
use Rattle.unit_state.specs.declared.state.PageMark.{PageMark}
use Rattle.unit_state.specs.declared.state.UnitState.{UnitState}
use Rattle.unit_state.specs.Registers.{absent, NarrowIds}
use Rattle.unit_state.specs.State.{no_mark, powered_on, with_segments}
use Rattle.unit_state.specs.Marks.{used_page}
use Rattle.unit_state.specs.Purges.{after_purge}
use Rattle.unit_state.specs.Sound.{Sound}

pub sound_used : (s : UnitState) (page : ℕ) (store : Bool) → Sound s → Sound (used_page s page store)
unfolding used_page
sound_used s page store sound =
    record { whole = simp length-set sound.whole; narrow = sound.narrow; unique = sound.unique; near = sound.near }

pub narrow_set :
    (segments : List SegmentRegister) (n : ℕ) (r : SegmentRegister) →
    r.segment ≤ 4095 →
    NarrowIds segments →
    NarrowIds (set segments n r)
narrow_set segments n r low narrow i =
    let P : SegmentRegister → Type 0 = λ x. x.segment < 4096 in
    ⊎_elim
    (λ same. ⊎_elim
    (λ inside. subst P (sym (ap (λ (k : ℕ). get_or (set segments n r) k absent) same ∙ get_or-set_same segments n r absent inside)) (omega arith))
    (λ past. subst P (sym (ap (λ (xs : List SegmentRegister). get_or xs i absent) (set_past segments n r past))) (narrow i))
    (cases_lt n (length segments)))
    (λ differs. subst P (sym (get_or-set_other segments n i r absent differs)) (narrow i))
    (cases_eq i n)

-- a write of a segment register keeps it
pub sound_written :
    (s : UnitState) (n : ℕ) (r : SegmentRegister) →
    r.segment ≤ 4095 →
    Sound s →
    Sound (with_segments s (set s.segments n r))
sound_written s n r low sound =
    record { whole = sound.whole; narrow = narrow_set s.segments n r low sound.narrow; unique = sound.unique; near = sound.near }

pub sound_purged : (p : Purge) (s : UnitState) → Sound s → Sound (after_purge p s)
sound_purged p s sound =
    record {
      whole = sound.whole;
      narrow = sound.narrow;
      unique = unique_purged p s.buffers sound.unique;
      near = each_purged (λ t. t.entry < 8192) p s.buffers sound.near;
    }

-- the state that power-on puts together
pub powered_on_lem :
    (segments : List SegmentRegister) (b : Buffers) (e : Exceptions) (marks : List PageMark) →
    segments ≡ replicate 16 absent →
    b ≡ empty_buffers →
    e ≡ no_exceptions →
    marks ≡ replicate 8192 no_mark →
    ◌≡◌ {A = UnitState}
    (record {
      segments = segments;
      transaction = 0;
      long_stop = false;
      buffers = b;
      exceptions = e;
      marks = marks;
    })
    powered_on
unfolding powered_on
powered_on_lem segments b e marks are-absent is-empty is_none are-unmarked = cc

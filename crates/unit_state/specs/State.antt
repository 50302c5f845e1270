-- The unit with one part of its state replaced.
use Rattle.std.specs.Prelude.{ℕ, Bool, false, List, replicate}
use Rattle.protection.specs.declared.register.SegmentRegister.{SegmentRegister}
use Rattle.tlb.specs.declared.buffers.Buffers.{Buffers}
use Rattle.tlb.specs.Lookup.{empty_buffers}
use Rattle.exceptions.specs.declared.registers.Exceptions.{Exceptions}
use Rattle.exceptions.specs.Raising.{no_exceptions}
use Rattle.unit_state.specs.declared.state.PageMark.{PageMark}
use Rattle.unit_state.specs.declared.state.UnitState.{UnitState}
use Rattle.unit_state.specs.Registers.{absent}

abbrev pub with_segments : UnitState → List SegmentRegister → UnitState
with_segments s x =
    record {
      segments = x;
      transaction = s.transaction;
      long_stop = s.long_stop;
      buffers = s.buffers;
      exceptions = s.exceptions;
      marks = s.marks;
    }

abbrev pub with_transaction : UnitState → ℕ → UnitState
with_transaction s x =
    record {
      segments = s.segments;
      transaction = x;
      long_stop = s.long_stop;
      buffers = s.buffers;
      exceptions = s.exceptions;
      marks = s.marks;
    }

abbrev pub with_long_search : UnitState → Bool → UnitState
with_long_search s x =
    record {
      segments = s.segments;
      transaction = s.transaction;
      long_stop = x;
      buffers = s.buffers;
      exceptions = s.exceptions;
      marks = s.marks;
    }

abbrev pub with_buffers : UnitState → Buffers → UnitState
with_buffers s x =
    record {
      segments = s.segments;
      transaction = s.transaction;
      long_stop = s.long_stop;
      buffers = x;
      exceptions = s.exceptions;
      marks = s.marks;
    }

abbrev pub with_exceptions : UnitState → Exceptions → UnitState
with_exceptions s x =
    record {
      segments = s.segments;
      transaction = s.transaction;
      long_stop = s.long_stop;
      buffers = s.buffers;
      exceptions = x;
      marks = s.marks;
    }

abbrev pub with_marks : UnitState → List PageMark → UnitState
with_marks s x =
    record {
      segments = s.segments;
      transaction = s.transaction;
      long_stop = s.long_stop;
      buffers = s.buffers;
      exceptions = s.exceptions;
      marks = x;
    }

abbrev pub no_mark : PageMark
no_mark = record { referenced = false; changed = false }

-- After power-on all segments are absent, all entries of the look-aside buffers invalid, no page is marked, and all else is
-- zero.
unfoldable pub powered_on : UnitState
powered_on =
    record {
      segments = replicate 16 absent;
      transaction = 0;
      long_stop = false;
      buffers = empty_buffers;
      exceptions = no_exceptions;
      marks = replicate 8192 no_mark;
    }

-- What holds of the state of every unit.
use Rattle.std.specs.Prelude.{◌≡◌, length}
use Rattle.tlb.specs.Lookup.{EachUnique, EachNear}
use Rattle.unit_state.specs.declared.state.UnitState.{UnitState}
use Rattle.unit_state.specs.Registers.{NarrowIds}

-- There are 8,192 marks. Segment IDs have 12 bits. No two valid entries of a class of the look-aside buffers hold one virtual
-- page, and each valid entry names one of 8,192 real pages.
pub record Sound (s : UnitState) : Type 0 where
  pub whole : length s.marks ≡ 8192
  pub narrow : NarrowIds s.segments
  pub unique : EachUnique s.buffers
  pub near : EachNear s.buffers

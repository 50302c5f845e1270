-- Purges: which entries of the look-aside buffers each makes invalid, and what it leaves.
use Rattle.std.specs.Prelude.{ℕ, slice_index_or}
use Rattle.paging.specs.declared.geometry.PageGeometry.{PageGeometry}
use Rattle.tlb.specs.declared.purging.Purge.{Purge}
use Rattle.tlb.specs.declared.purging.Purge.TheVariants.{Segment, Page}
use Rattle.tlb.specs.Purging.{purged}
use Rattle.unit_state.specs.declared.state.UnitState.{UnitState}
use Rattle.unit_state.specs.Registers.{absent}
use Rattle.unit_state.specs.State.{with_buffers}
use Rattle.unit_state.specs.Translation.{segment_at, tag_at}

abbrev pub after_purge : Purge → UnitState → UnitState
after_purge p s = with_buffers s (purged p s.buffers)

-- the entries with the segment ID that a register holds, present or not
abbrev pub segment_purge : UnitState → ℕ → Purge
segment_purge s number = Segment (slice_index_or s.segments number absent).segment

-- the entries of the virtual page that an effective address names, its segment present or not
abbrev pub page_purge : PageGeometry → UnitState → ℕ → Purge
page_purge f s address = Page (tag_at f (segment_at s address) address)

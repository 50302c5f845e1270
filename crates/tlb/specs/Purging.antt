-- Purges of the look-aside buffers.
use Rattle.std.specs.Prelude.{Bool, true, cond, map, Some, None, Option, ◌==◌}
use Rattle.page_table.specs.declared.entry.Tag.{Tag}
use Rattle.page_table.specs.Search.{same_tag}
use Rattle.tlb.specs.declared.buffers.Translation.{Translation}
use Rattle.tlb.specs.declared.buffers.Class.{Class}
use Rattle.tlb.specs.declared.buffers.Buffers.{Buffers}
use Rattle.tlb.specs.declared.purging.Purge.{Purge}
use Rattle.tlb.specs.declared.purging.Purge.TheVariants.{All, Segment, Page}

-- whether a purge makes an entry of that virtual page invalid
abbrev pub takes : Purge → Tag → Bool
takes All tag = true
takes (Segment segment) tag = tag.segment == segment
takes (Page page) tag = same_tag tag page

abbrev pub left_by : Purge → Option Translation → Option Translation
left_by p None = None
left_by p (Some t) = cond (takes p t.page.tag) None (Some t)

-- The used-last mark stays, whatever entries are taken.
abbrev pub purged_class : Purge → Class → Class
purged_class p c = record { ways = map (left_by p) c.ways; used_last = c.used_last }

abbrev pub purged : Purge → Buffers → Buffers
purged p b = record { classes = map (purged_class p) b.classes }

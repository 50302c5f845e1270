-- From an effective address to a real one.
use Rattle.std.specs.Prelude.{ℕ, ◌+◌, ◌*◌, cond, List, length, Some, None, Ok, Err, Option, Result, ◌==◌, slice_index_or}
use Rattle.refusals.specs.declared.refusal.Refusal.{Refusal}
use Rattle.refusals.specs.declared.refusal.Refusal.TheVariants.{SizeDiffers, SegmentAbsent, SegmentBarred, ProtectionRefused, LockRefused}
use Rattle.paging.specs.declared.geometry.PageGeometry.{PageGeometry}
use Rattle.paging.specs.Numbers.{PlanNumbers}
use Rattle.paging.specs.declared.address.VirtualAddress.{VirtualAddress}
use Rattle.paging.specs.Address.{register_of, offset_of, page_of, place_in_page}
use Rattle.paging.specs.Plan.{storage_bytes}
use Rattle.page_table.specs.declared.entry.Tag.{Tag}
use Rattle.page_table.specs.declared.walk.Found.{Found}
use Rattle.page_table.specs.declared.walk.Fault.{Fault}
use Rattle.page_table.specs.Search.{Outcome, uncompared, query_of, found_in}
use Rattle.protection.specs.declared.register.SegmentRegister.{SegmentRegister}
use Rattle.protection.specs.declared.access_type.AccessType.{AccessType}
use Rattle.protection.specs.Permission.{permitted}
use Rattle.tlb.specs.declared.buffers.Translation.{Translation}
use Rattle.tlb.specs.declared.buffers.Buffers.{Buffers}
use Rattle.tlb.specs.Lookup.{hit_of, looked_up, loaded_with}
use Rattle.unit_state.specs.declared.state.UnitState.{UnitState}
use Rattle.unit_state.specs.declared.translation.Located.{Located}
use Rattle.unit_state.specs.declared.translation.Place.{Place}
use Rattle.unit_state.specs.Answers.{unless}
use Rattle.unit_state.specs.Registers.{absent}
use Rattle.unit_state.specs.State.{with_buffers}

-- the segment register that an effective address names
abbrev pub segment_at : UnitState → ℕ → SegmentRegister
segment_at s address = slice_index_or s.segments (register_of address) absent

-- the virtual page that an address lies in
abbrev pub page_tag : PageGeometry → VirtualAddress → Tag
page_tag f a = record { segment = a.segment; page = page_of f a.offset }

-- the virtual page that an effective address names, through a register
abbrev pub tag_at : PageGeometry → SegmentRegister → ℕ → Tag
tag_at f r address = record { segment = r.segment; page = page_of f (offset_of address) }

-- A segment that is not present is refused, and then one that is barred.
abbrev pub segment_refusal : SegmentRegister → Option Refusal
segment_refusal r = cond r.present (cond r.barred (Some SegmentBarred) None) (Some SegmentAbsent)

-- Before that, the storage has to have the plan's size.
abbrev pub entry_refusal : ℕ → List ℕ → SegmentRegister → Option Refusal
entry_refusal k ws r = cond (4 * length ws == storage_bytes k) (segment_refusal r) (Some SizeDiffers)

-- what the buffers keep of a match
abbrev pub kept_of : Found → Translation
kept_of x = record { entry = x.entry; page = x.page }

-- A hit compares no table entry. What a walk found comes with its count, and the match as the last entry; a walk that found
-- nothing is refused as it is.
abbrev pub located_by : Option Translation → Outcome → Result Located Fault
located_by (Some t) r = Ok (record { translation = t; compared = record { count = 0; last = None } })
located_by None (Ok x) = Ok (record { translation = kept_of x; compared = record { count = x.compared; last = Some x.entry } })
located_by None (Err e) = Err e

-- A successful walk is kept.
abbrev pub kept_by : Buffers → Option Translation → Outcome → Buffers
kept_by b (Some t) r = b
kept_by b None (Ok x) = loaded_with b (kept_of x)
kept_by b None (Err e) = b

abbrev pub found_for : PlanNumbers → List ℕ → UnitState → Tag → Outcome
found_for plan ws s tag = found_in plan.form ws (query_of plan s.long_stop tag)

-- where the look-aside buffers, or else a walk, find a virtual page
unfoldable pub located : PlanNumbers → List ℕ → UnitState → Tag → Result Located Fault
located plan ws s tag = located_by (hit_of s.buffers tag) (found_for plan ws s tag)

-- the look-aside buffers after that
unfoldable pub buffers_after : PlanNumbers → List ℕ → UnitState → Tag → Buffers
buffers_after plan ws s tag =
    kept_by (looked_up s.buffers tag) (hit_of s.buffers tag) (found_for plan ws s tag)

-- Protection refuses a request by 13 in an ordinary segment, by 14 in a special one.
abbrev pub protection_refusal : SegmentRegister → Refusal
protection_refusal r = cond r.special LockRefused ProtectionRefused

-- The real address is at the same place of the real page.
abbrev pub place_at : PageGeometry → ℕ → Located → Place
place_at f offset l =
    record {
      address = record { number = l.translation.entry * f.page + place_in_page f offset };
      page = l.translation.entry;
      compared = l.compared;
    }

abbrev pub judged :
    PageGeometry → SegmentRegister → ℕ → ℕ → AccessType → Result Located Fault → Result Place Fault
judged f r transaction offset t (Ok l) =
    cond
    (permitted f r l.translation.page transaction offset t)
    (Ok (place_at f offset l))
    (Err (record { refusal = protection_refusal r; compared = l.compared }))
judged f r transaction offset t (Err e) = Err e

abbrev pub refused_or : {X : Type 0} → Option Refusal → Result X Fault → Result X Fault
refused_or None r = r
refused_or (Some e) r = Err (uncompared e)

-- the real address of a request, or why it has none
unfoldable pub translated : PlanNumbers → List ℕ → UnitState → ℕ → AccessType → Result Place Fault
translated plan ws s address t =
    refused_or
    (entry_refusal plan.exponent ws (segment_at s address))
    (judged
    plan.form
    (segment_at s address)
    s.transaction
    (offset_of address)
    t
    (located plan ws s (tag_at plan.form (segment_at s address) address)))

-- the unit after the translation: only the look-aside buffers were altered, whatever protection says
unfoldable pub translated_state : PlanNumbers → List ℕ → UnitState → ℕ → UnitState
translated_state plan ws s address =
    unless
    (entry_refusal plan.exponent ws (segment_at s address))
    s
    (with_buffers s (buffers_after plan ws s (tag_at plan.form (segment_at s address) address)))

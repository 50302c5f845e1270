-- How it is decided what is granted: from a word back to the virtual page that leads to it, and to the registers that open it.
use Rattle.std.specs.Prelude.{ℕ, ◌+◌, ◌*◌, ◌/◌, ◌%◌, Bool, false, not, cond, ◌&&◌, List, length, Some, None, Ok, Err, Option, ◌==◌, nat_lt}
use Rattle.std.specs.List.{list_any}
use Rattle.storage.specs.Words.{read_of}
use Rattle.paging.specs.declared.geometry.PageGeometry.{PageGeometry}
use Rattle.paging.specs.Numbers.{PlanNumbers}
use Rattle.paging.specs.Plan.{storage_bytes, table_start}
use Rattle.page_table.specs.declared.entry.Tag.{Tag}
use Rattle.page_table.specs.declared.entry.PageEntry.{PageEntry}
use Rattle.page_table.specs.Entry.{tag_of}
use Rattle.page_table.specs.Search.{Outcome, read_then}
use Rattle.protection.specs.declared.register.SegmentRegister.{SegmentRegister}
use Rattle.protection.specs.declared.access_type.AccessType.{AccessType}
use Rattle.protection.specs.Permission.{permitted}
use Rattle.unit_state.specs.declared.state.UnitState.{UnitState}
use Rattle.unit_state.specs.Translation.{found_for}

-- what a search found, where that is entry i
abbrev pub page_if : ℕ → Outcome → Option PageEntry
page_if i (Ok x) = cond (x.entry == i) (Some x.page) None
page_if i (Err e) = None

-- What entry i says of real page i, where the search for its own tag finds it. An entry that no search finds says nothing.
abbrev pub held_page : PlanNumbers → List ℕ → UnitState → ℕ → Option PageEntry
held_page plan ws s i =
    read_then
    (read_of ws (table_start plan.form plan.exponent plan.base / 4 + 4 * i))
    (λ r. None)
    (λ w. page_if i (found_for plan ws s (tag_of plan.form w)))

-- the offset, in its segment, of a place in a virtual page
abbrev pub offset_in : PageGeometry → Tag → ℕ → ℕ
offset_in f tag place = tag.page * f.page + place

-- whether a register lets a request pass to a page, at an offset
abbrev pub opens : PageGeometry → PageEntry → ℕ → ℕ → AccessType → SegmentRegister → Bool
opens f page transaction offset t r =
    r.present && (not r.barred && (r.segment == page.tag.segment && permitted f r page transaction offset t))

-- whether some register does, at word n of the storage, which lies in the page
abbrev pub some_opens : PageGeometry → UnitState → AccessType → ℕ → Option PageEntry → Bool
some_opens f s t n None = false
some_opens f s t n (Some page) =
    list_any (opens f page s.transaction (offset_in f page.tag (4 * n % f.page)) t) s.segments

-- whether word n is granted: the storage has the plan's size and the word, and some register opens the page that it lies in
abbrev pub grants : PlanNumbers → List ℕ → UnitState → AccessType → ℕ → Bool
grants plan ws s t n =
    4 * length ws == storage_bytes plan.exponent
    && (nat_lt n (length ws) && some_opens plan.form s t n (held_page plan ws s (4 * n / plan.form.page)))

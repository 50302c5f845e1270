-- What one call of a run answers, and what it leaves in the unit and in the storage.
use Rattle.std.specs.Prelude.{ℕ, List, Ok}
use Rattle.paging.specs.Numbers.{PlanNumbers}
use Rattle.tlb.specs.declared.purging.Purge.TheVariants.{All}
use Rattle.exceptions.specs.Raising.{cleared}
use Rattle.unit_state.specs.declared.state.UnitState.{UnitState}
use Rattle.unit_state.specs.Answers.{passed, unless}
use Rattle.unit_state.specs.Registers.{number_refusal}
use Rattle.unit_state.specs.State.{with_exceptions}
use Rattle.unit_state.specs.Marks.{mark_of, cleared_page, mark_refusal}
use Rattle.unit_state.specs.Purges.{after_purge, segment_purge, page_purge}
use Rattle.unit_state.specs.Requests.{load_answer, after_load, store_answer, after_store, store_words}
use Rattle.runs.specs.declared.call.Call.{Call}
use Rattle.runs.specs.declared.call.Call.TheVariants.{Load, Store, ReadExceptions, ClearExceptions, ReadMark, ClearMark, PurgeAll, PurgeSegment, PurgePage}
use Rattle.runs.specs.declared.call.Reply.{Reply}
use Rattle.runs.specs.declared.call.Reply.TheVariants.{Request, Exceptions, Mark, Cleared}

abbrev pub reply_of : PlanNumbers → List ℕ → UnitState → Call → Reply
reply_of plan ws s (Load address w) = Request (load_answer plan ws s w address)
reply_of plan ws s (Store address w value) = Request (store_answer plan ws s w address value)
reply_of plan ws s ReadExceptions = Exceptions s.exceptions
reply_of plan ws s ClearExceptions = Cleared (Ok tt)
reply_of plan ws s (ReadMark page) = Mark (passed (mark_refusal plan page) (mark_of s page))
reply_of plan ws s (ClearMark page) = Cleared (passed (mark_refusal plan page) tt)
reply_of plan ws s PurgeAll = Cleared (Ok tt)
reply_of plan ws s (PurgeSegment number) = Cleared (passed (number_refusal number) tt)
reply_of plan ws s (PurgePage address) = Cleared (Ok tt)

abbrev pub state_after : PlanNumbers → List ℕ → UnitState → Call → UnitState
state_after plan ws s (Load address w) = after_load plan ws s w address
state_after plan ws s (Store address w value) = after_store plan ws s w address value
state_after plan ws s ReadExceptions = s
state_after plan ws s ClearExceptions = with_exceptions s (cleared s.exceptions)
state_after plan ws s (ReadMark page) = s
state_after plan ws s (ClearMark page) = unless (mark_refusal plan page) s (cleared_page s page)
state_after plan ws s PurgeAll = after_purge All s
state_after plan ws s (PurgeSegment number) = unless (number_refusal number) s (after_purge (segment_purge s number) s)
state_after plan ws s (PurgePage address) = after_purge (page_purge plan.form s address.number) s

abbrev pub words_after : PlanNumbers → List ℕ → UnitState → Call → List ℕ
words_after plan ws s (Load address w) = ws
words_after plan ws s (Store address w value) = store_words plan ws s w address value
words_after plan ws s ReadExceptions = ws
words_after plan ws s ClearExceptions = ws
words_after plan ws s (ReadMark page) = ws
words_after plan ws s (ClearMark page) = ws
words_after plan ws s PurgeAll = ws
words_after plan ws s (PurgeSegment number) = ws
words_after plan ws s (PurgePage address) = ws

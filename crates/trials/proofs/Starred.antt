-- The checker computes the starred trials.
use Rattle.std.proofs.Common.{refl}
use Rattle.storage.specs.Words.{tabulated}
use Rattle.page_table.specs.Search.{chain}
use Rattle.unit_state.specs.State.{powered_on}
use Rattle.unit_state.specs.Marks.{used_page}
use Rattle.unit_state.specs.Translation.{located, buffers_after, translated, translated_state}
use Rattle.unit_state.specs.Requests.{load_answer, after_load, store_answer, after_store, store_words}
use Rattle.trials.specs.Table.{StarredStand}

pub starred_stand : StarredStand
unfolding tabulated chain powered_on used_page located buffers_after translated translated_state load_answer after_load store_answer after_store store_words
starred_stand = refl

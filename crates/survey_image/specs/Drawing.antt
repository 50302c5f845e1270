-- Blocks written into a storage.
use Rattle.std.specs.Prelude.{ℕ, zero, suc, ◌+◌, Bool, cond, ◌&&◌, List, [], ◌∷◌, length, set, Ok, Err, Result, ◌==◌, nat_lt, slice_index, slice_set}
use Rattle.refusals.specs.declared.refusal.Refusal.{Refusal}
use Rattle.refusals.specs.declared.refusal.Refusal.TheVariants.{WordOutside, SizeDiffers}
use Rattle.paging.specs.declared.geometry.PageGeometry.{PageGeometry}
use Rattle.paging.specs.Numbers.{PlanNumbers}
use Rattle.paging.specs.Plan.{storage_bytes, page_count}
use Rattle.survey_image.specs.declared.block.Block.{Block}
use Rattle.survey_image.specs.Layout.{table_block}

-- all four words of a block are there
abbrev pub has_room : List ℕ → Block → Bool
has_room ws b = nat_lt (b.word + 3) (length ws)

abbrev pub with_block : List ℕ → Block → List ℕ
with_block ws b =
    set
    (slice_set (slice_set (slice_set ws b.word (slice_index b.words 0)) (b.word + 1) (slice_index b.words 1)) (b.word + 2) (slice_index b.words 2))
    (b.word + 3)
    (slice_index b.words 3)

abbrev pub draw_answer : List ℕ → Block → Result (Unit {0}) Refusal
draw_answer ws b = cond (has_room ws b) (Ok tt) (Err WordOutside)

-- A block is written whole or not at all.
abbrev pub drawn : List ℕ → Block → List ℕ
drawn ws b = cond (has_room ws b) (with_block ws b) ws

-- Blocks are written in their order, up to the first that has no room.
unfoldable pub draw_all_answer : List ℕ → List Block → Result (Unit {0}) Refusal
draw_all_answer ws [] = Ok tt
draw_all_answer ws (b ∷ rest) = cond (has_room ws b) (draw_all_answer (with_block ws b) rest) (Err WordOutside)

unfoldable pub drawn_all : List ℕ → List Block → List ℕ
drawn_all ws [] = ws
drawn_all ws (b ∷ rest) = cond (has_room ws b) (drawn_all (with_block ws b) rest) ws

-- the words after the first n entries of the table were written
unfoldable pub table_drawn : PageGeometry → ℕ → List ℕ → ℕ → List ℕ
table_drawn f b ws zero = ws
table_drawn f b ws (suc n) = drawn (table_drawn f b ws n) (table_block f b n)

-- A plan and a storage of 64 KiB are wanted.
abbrev pub has_image_size : ℕ → List ℕ → Bool
has_image_size k ws = storage_bytes k == 65536 && length ws == 16384

abbrev pub table_answer : ℕ → List ℕ → Result (Unit {0}) Refusal
table_answer k ws = cond (has_image_size k ws) (Ok tt) (Err SizeDiffers)

abbrev pub table_after : PlanNumbers → List ℕ → List ℕ
table_after plan ws = cond (has_image_size plan.exponent ws) (table_drawn plan.form plan.base ws (page_count plan.form 16)) ws

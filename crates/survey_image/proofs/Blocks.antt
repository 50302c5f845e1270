-- The steps of the loops that draw.
use Rattle.std.proofs.Common.{◌≡◌, ℕ, ◌+◌, ◌*◌, ◌/◌, ◌^◌, ◌<◌, ◌≤◌, Bool, true, false, cond, List, [], ◌∷◌, length, map, get_or, drop, Ok, Err, Result, MatchResult, sym, refl, ap, subst, ◌∙◌, add-one}
use Rattle.std.specs.List.{fold}
use Rattle.std.proofs.lemmas.List.{drop_more, at_drop_all}
use Rattle.std.proofs.lemmas.Bool.{cond-true, cond-false}
use Rattle.refusals.specs.declared.refusal.Refusal.{Refusal}
use Rattle.refusals.specs.declared.refusal.Refusal.TheVariants.{WordOutside}
use Rattle.survey_image.specs.declared.block.Block.{Block}
use Rattle.paging.specs.declared.geometry.PageGeometry.{PageGeometry}
use Rattle.paging.specs.Plan.{table_start}
use Rattle.survey_image.specs.Layout.{tag_word, chain_word, table_block}
use Rattle.survey_image.specs.Drawing.{has_room, with_block, draw_answer, drawn, draw_all_answer, drawn_all, table_drawn}

-- what is left to draw makes up the whole
pub record Drawing {X : Type 0} (block : X → Block) (items : List X) (start : List ℕ) (i : ℕ) (ws : List ℕ) : Type 0 where
  pub answer : draw_all_answer ws (map block (drop i items)) ≡ draw_all_answer start (map block items)
  pub words : drawn_all ws (map block (drop i items)) ≡ drawn_all start (map block items)

room_from : (ws : List ℕ) (b : Block) (u : Unit {0}) → Ok u ≡ draw_answer ws b → has_room ws b ≡ true
room_from ws b u e =
    let P : Bool → Type 0 = λ r. Ok u ≡ cond {A = Result (Unit {0}) Refusal} r (Ok tt) (Err WordOutside) → r ≡ true in
    elim (has_room ws b) as P [ true ↦ λ _. refl | false ↦ λ is. absurd cc ] e

no_room_from : (ws : List ℕ) (b : Block) (r : Refusal) → Err r ≡ draw_answer ws b → has_room ws b ≡ false
no_room_from ws b r e =
    let P : Bool → Type 0 = λ h. Err r ≡ cond {A = Result (Unit {0}) Refusal} h (Ok tt) (Err WordOutside) → h ≡ false in
    elim (has_room ws b) as P [ true ↦ λ is. absurd cc | false ↦ λ _. refl ] e

from_here :
    {X : Type 0} (items : List X) (i : ℕ) (x : X) → i < length items → x ≡ get_or items i x → drop i items ≡ x ∷ drop (i + 1) items
from_here items i x inside at = drop_more items i x inside ∙ ap (λ y. y ∷ drop (i + 1) items) (sym at)

pub drawing_more :
    {X : Type 0} (block : X → Block) (items : List X) (start : List ℕ) (i : ℕ) (ws vs : List ℕ) (x : X) (u : Unit {0}) →
    i < length items →
    x ≡ get_or items i x →
    Drawing block items start i ws →
    Ok u ≡ draw_answer ws (block x) →
    vs ≡ drawn ws (block x) →
    Drawing block items start (i + 1) vs
unfolding draw_all_answer drawn_all
drawing_more block items start i ws vs x u inside at going ok is =
    let b = block x in
    let room = room_from ws b u ok in
    let here : vs ≡ with_block ws b = is ∙ cond-true (has_room ws b) _ _ room in
    let left = from_here items i x inside at in
    record {
      answer =
          ap (λ (xs : List ℕ). draw_all_answer xs (map block (drop (i + 1) items))) here
          ∙ sym (cond-true (has_room ws b) _ _ room)
          ∙ sym (ap (λ xs. draw_all_answer ws (map block xs)) left)
          ∙ going.answer;
      words =
          ap (λ (xs : List ℕ). drawn_all xs (map block (drop (i + 1) items))) here
          ∙ sym (cond-true (has_room ws b) _ _ room)
          ∙ sym (ap (λ xs. drawn_all ws (map block xs)) left)
          ∙ going.words;
    }

-- a block that has no room ends it
pub drawing_stopped :
    {X : Type 0} (block : X → Block) (items : List X) (start : List ℕ) (i : ℕ) (ws vs : List ℕ) (x : X) (e : Refusal) →
    i < length items →
    x ≡ get_or items i x →
    Drawing block items start i ws →
    Err e ≡ draw_answer ws (block x) →
    vs ≡ drawn ws (block x) →
    (Err e ≡ draw_all_answer start (map block items)) × (vs ≡ drawn_all start (map block items))
unfolding draw_all_answer drawn_all
drawing_stopped block items start i ws vs x e inside at going err is =
    let b = block x in
    let none = no_room_from ws b e err in
    let left = from_here items i x inside at in (
      err
          ∙ cond-false (has_room ws b) _ _ none
          ∙ sym (cond-false (has_room ws b) _ _ none)
          ∙ sym (ap (λ xs. draw_all_answer ws (map block xs)) left)
          ∙ going.answer,
      is
          ∙ cond-false (has_room ws b) _ _ none
          ∙ sym (cond-false (has_room ws b) _ _ none)
          ∙ sym (ap (λ xs. drawn_all ws (map block xs)) left)
          ∙ going.words,
    )

pub drawing_all :
    {X : Type 0} (block : X → Block) (items : List X) (start : List ℕ) (i : ℕ) (ws : List ℕ) →
    length items ≤ i →
    Drawing block items start i ws →
    (Ok tt ≡ draw_all_answer start (map block items)) × (ws ≡ drawn_all start (map block items))
unfolding draw_all_answer drawn_all
drawing_all block items start i ws past going = (
  sym (at_drop_all (λ xs. draw_all_answer ws (map block xs)) items i past) ∙ going.answer,
  sym (at_drop_all (λ xs. drawn_all ws (map block xs)) items i past) ∙ going.words,
)

-- where all blocks have room, each is drawn
each_drawn :
    (blocks : List Block) (ws : List ℕ) →
    MatchResult (draw_all_answer ws blocks) (λ _. drawn_all ws blocks ≡ fold drawn ws blocks) (λ e. e ≡ WordOutside)
unfolding draw_all_answer drawn_all
each_drawn [] ws = refl
each_drawn (b ∷ rest) ws =
    let P : Bool → Type 0 =
    λ r.
    MatchResult
    (cond r (draw_all_answer (with_block ws b) rest) (Err WordOutside))
    (λ _. cond r (drawn_all (with_block ws b) rest) ws ≡ fold drawn (cond r (with_block ws b) ws) rest)
    (λ e. e ≡ WordOutside)
    in
    elim (has_room ws b) as P [ true ↦ each_drawn rest (with_block ws b) | false ↦ refl ]

pub whole_from :
    (blocks : List Block) (start vs : List ℕ) (r : Result (Unit {0}) Refusal) →
    r ≡ draw_all_answer start blocks →
    vs ≡ drawn_all start blocks →
    MatchResult r (λ _. vs ≡ fold drawn start blocks) (λ e. e ≡ WordOutside)
whole_from blocks start vs r answer words =
    let P : Result (Unit {0}) Refusal → List ℕ → Type 0 = λ a xs. MatchResult a (λ _. xs ≡ fold drawn start blocks) (λ e. e ≡ WordOutside) in
    subst (λ a. P a vs) (sym answer) (subst (P (draw_all_answer start blocks)) (sym words) (each_drawn blocks start))

-- one entry of the table more
pub table_more :
    (f : PageGeometry) (b k : ℕ) (first ws vs : List ℕ) (n start : ℕ) (block : Block) →
    2 ^ k ≡ 65536 →
    start ≡ table_start f k b →
    ws ≡ table_drawn f b first n →
    block ≡ record { word = start / 4 + 4 * n; words = tag_word f n ∷ chain_word f n ∷ 0 ∷ 0 ∷ [] } →
    vs ≡ drawn ws block →
    vs ≡ table_drawn f b first (n + 1)
unfolding table_drawn
table_more f b k first ws vs n start block size at so_far is after =
    let place : start ≡ table_start f 16 b = at ∙ ap (λ (x : ℕ). b * 16 * (x / f.page)) size in
    let same : block ≡ table_block f b n =
    is ∙ ap (λ (x : ℕ). record { word = x / 4 + 4 * n; words = tag_word f n ∷ chain_word f n ∷ 0 ∷ 0 ∷ [] }) place
    in
    after
    ∙ ap (λ (x : Block). drawn ws x) same
    ∙ ap (λ (x : List ℕ). drawn x (table_block f b n)) so_far
    ∙ ap (table_drawn f b first) (sym (add-one n))

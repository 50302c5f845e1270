-- What the look-aside buffers hold, and what is found, stays sound.
use Rattle.std.proofs.Common.{◌≡◌, ℕ, ◌<◌, ◌≤◌, Bool, true, false, List, Some, None, Ok, Err, Option, Result, sym, refl, ap, ◌∙◌, subst, arith}
use Rattle.refusals.specs.declared.refusal.Refusal.{Refusal}
use Rattle.paging.specs.Numbers.{PlanNumbers}
use Rattle.paging.specs.Plan.{page_count}
use Rattle.paging.proofs.Pages.{Wide, Whole, pages_bounded}
use Rattle.page_table.specs.declared.entry.Tag.{Tag}
use Rattle.page_table.specs.declared.walk.Found.{Found}
use Rattle.page_table.specs.Search.{Outcome, query_of, found_in}
use Rattle.page_table.specs.Laws.{Well, FoundWell}
use Rattle.page_table.proofs.Walks.{searched_well}
use Rattle.paging.specs.declared.address.EffectiveAddress.{EffectiveAddress}
use Rattle.lanes.specs.declared.width.Width.{Width}
use Rattle.protection.specs.declared.access_type.AccessType.{AccessType}
use Rattle.tlb.specs.declared.buffers.Translation.{Translation}
use Rattle.tlb.specs.Lookup.{hit_of, looked_up, EachUnique, Each, EachNear}
use Rattle.tlb.proofs.Entries.{each_looked, each_loaded, hit_each, unique_looked, unique_loaded, miss_looked}
use Rattle.page_table.specs.declared.walk.Fault.{Fault}
use Rattle.unit_state.specs.declared.state.UnitState.{UnitState}
use Rattle.unit_state.specs.declared.translation.Located.{Located}
use Rattle.unit_state.specs.Answers.{Answer, unless}
use Rattle.unit_state.specs.State.{with_buffers}
use Rattle.unit_state.specs.Translation.{
  segment_at,
  tag_at,
  entry_refusal,
  kept_of,
  located_by,
  kept_by,
  found_for,
  located,
  buffers_after,
  translated_state,
}
use Rattle.unit_state.specs.declared.translation.Place.{Place}
use Rattle.unit_state.specs.Requests.{load_at, store_at, used_at, noted_in, load_place, used_by_load, store_place, used_by_store}
use Rattle.unit_state.specs.Sound.{Sound}
use Rattle.unit_state.proofs.Soundness.{sound_used}

-- what a search finds has the tag that it looks for, and says what its entry says
pub found_well :
    (plan : PlanNumbers) (ws : List ℕ) (s : UnitState) (tag : Tag) (x : Found) →
    found_for plan ws s tag ≡ Ok x →
    FoundWell plan.form ws (query_of plan s.long_stop tag) x
found_well plan ws s tag x e =
    let q = query_of plan s.long_stop tag in
    let P : Outcome → Type 0 = λ r. Well plan.form ws q r in
    subst P e (searched_well plan.form ws q)

-- What holds of the entries of the buffers and of all that a search finds holds of what is found.
pub located-holds :
    (P : Translation → Type 0) (plan : PlanNumbers) (ws : List ℕ) (s : UnitState) (tag : Tag) (l : Located) →
    Each P s.buffers →
    ((x : Found) → found_for plan ws s tag ≡ Ok x → P (kept_of x)) →
    located plan ws s tag ≡ Ok l →
    P l.translation
unfolding located
located-holds P plan ws s tag l each found e = ways (hit_of s.buffers tag) refl (found_for plan ws s tag) refl e
  where
    ways :
        (h : Option Translation) →
        hit_of s.buffers tag ≡ h →
        (r : Outcome) →
        found_for plan ws s tag ≡ r →
        located_by h r ≡ Ok l →
        P l.translation
    ways (Some t) hit r _ is =
        let same : t ≡ l.translation = cc in subst P same (hit_each P s.buffers tag t each hit).0
    ways None _ (Ok x) found_in is = let same : kept_of x ≡ l.translation = cc in subst P same (found x found_in)
    ways None _ (Err fault) _ is = let z : ◌≡◌ {A = ℕ} 0 1 = cc in absurd (omega arith)

-- It holds of the buffers after that too.
pub buffers_hold :
    (P : Translation → Type 0) (plan : PlanNumbers) (ws : List ℕ) (s : UnitState) (tag : Tag) →
    Each P s.buffers →
    ((x : Found) → found_for plan ws s tag ≡ Ok x → P (kept_of x)) →
    Each P (buffers_after plan ws s tag)
unfolding buffers_after
buffers_hold P plan ws s tag each found =
    ways (hit_of s.buffers tag) (found_for plan ws s tag) refl
  where
    looked : Each P (looked_up s.buffers tag)
    looked = each_looked P s.buffers tag each

    ways :
        (h : Option Translation) (r : Outcome) →
        found_for plan ws s tag ≡ r →
        Each P (kept_by (looked_up s.buffers tag) h r)
    ways (Some t) r _ = looked
    ways None (Ok x) found_in = each_loaded P (looked_up s.buffers tag) (kept_of x) looked (found x found_in)
    ways None (Err e) _ = looked

pub buffers_unique :
    (plan : PlanNumbers) (ws : List ℕ) (s : UnitState) (tag : Tag) →
    EachUnique s.buffers →
    EachUnique (buffers_after plan ws s tag)
unfolding buffers_after
buffers_unique plan ws s tag unique =
    ways (hit_of s.buffers tag) refl (found_for plan ws s tag) refl
  where
    looked : EachUnique (looked_up s.buffers tag)
    looked = unique_looked s.buffers tag unique

    ways :
        (h : Option Translation) →
        hit_of s.buffers tag ≡ h →
        (r : Outcome) →
        found_for plan ws s tag ≡ r →
        EachUnique (kept_by (looked_up s.buffers tag) h r)
    ways (Some t) _ r _ = looked
    ways None miss (Ok x) found_in =
        let tagged = (found_well plan ws s tag x found_in).tagged in
        unique_loaded (looked_up s.buffers tag) (kept_of x) looked (ap (hit_of (looked_up s.buffers tag)) tagged ∙ miss_looked s.buffers tag miss)
    ways None _ (Err e) _ = looked

-- every entry that a search finds is one of 8,192
found_near :
    (plan : PlanNumbers) (ws : List ℕ) (s : UnitState) (tag : Tag) →
    page_count plan.form plan.exponent ≤ 8192 →
    (x : Found) →
    found_for plan ws s tag ≡ Ok x →
    (kept_of x).entry < 8192
found_near plan ws s tag few x e = let inside = (found_well plan ws s tag x e).inside in omega arith

pub located_near :
    (plan : PlanNumbers) (ws : List ℕ) (s : UnitState) (tag : Tag) (l : Located) →
    page_count plan.form plan.exponent ≤ 8192 →
    EachNear s.buffers →
    located plan ws s tag ≡ Ok l →
    l.translation.entry < 8192
located_near plan ws s tag l few near e =
    located-holds (λ t. t.entry < 8192) plan ws s tag l near (found_near plan ws s tag few) e

pub sound_translated :
    (plan : PlanNumbers) (ws : List ℕ) (s : UnitState) (address : ℕ) →
    page_count plan.form plan.exponent ≤ 8192 →
    Sound s →
    Sound (translated_state plan ws s address)
unfolding translated_state
sound_translated plan ws s address few sound = ways (entry_refusal plan.exponent ws (segment_at s address))
  where
    tag : Tag
    tag = tag_at plan.form (segment_at s address) address

    ways : (r : Option Refusal) → Sound (unless r s (with_buffers s (buffers_after plan ws s tag)))
    ways (Some r) = sound
    ways None =
        record {
          whole = sound.whole;
          narrow = sound.narrow;
          unique = buffers_unique plan ws s tag sound.unique;
          near = buffers_hold (λ t. t.entry < 8192) plan ws s tag sound.near (found_near plan ws s tag few);
        }

pub sound_used_at :
    (s : UnitState) (r : Result Place Fault) (answer : Answer) (store : Bool) → Sound s → Sound (used_at s r answer store)
sound_used_at s (Ok p) (Ok a) store sound = sound_used s p.page store sound
sound_used_at s (Ok p) (Err e) store sound = sound
sound_used_at s (Err x) (Ok a) store sound = sound
sound_used_at s (Err x) (Err e) store sound = sound

pub sound_noted :
    (s : UnitState) (answer : Answer) (address : EffectiveAddress) (t : AccessType) →
    Sound s →
    Sound (noted_in s answer address t)
sound_noted s (Ok a) address t sound = sound
sound_noted s (Err e) address t sound =
    record { whole = sound.whole; narrow = sound.narrow; unique = sound.unique; near = sound.near }

-- the unit after a load or a store is sound, where there are no more than 8,192 pages
pub sound_loaded :
    (plan : PlanNumbers) (ws : List ℕ) (s : UnitState) (w : Width) (address : EffectiveAddress) →
    page_count plan.form plan.exponent ≤ 8192 →
    Sound s →
    Sound (used_by_load plan ws s w address)
sound_loaded plan ws s w address few sound =
    let place = load_place plan ws s address in
    sound_used_at _ place (load_at ws w place) false (sound_translated plan ws s address.number few sound)

pub sound_stored :
    (plan : PlanNumbers) (ws : List ℕ) (s : UnitState) (w : Width) (address : EffectiveAddress) (value : ℕ) →
    page_count plan.form plan.exponent ≤ 8192 →
    Sound s →
    Sound (used_by_store plan ws s w address value)
sound_stored plan ws s w address value few sound =
    let place = store_place plan ws s address in
    sound_used_at _ place (store_at ws w value place) true (sound_translated plan ws s address.number few sound)

-- the unit after a request is sound, under every settled plan: the page that it used is marked, and a refusal noted
pub sound_request :
    (plan : PlanNumbers) (ws : List ℕ) (s : UnitState) (address : EffectiveAddress) (t : AccessType) →
    (place : Result Place Fault) (used noted : Answer) (store : Bool) (after end : UnitState) →
    Wide plan.form →
    Whole plan.form →
    16 ≤ plan.exponent →
    plan.exponent ≤ 24 →
    Sound s →
    after ≡ used_at (translated_state plan ws s address.number) place used store →
    end ≡ noted_in after noted address t →
    Sound end
sound_request plan ws s address t place used noted store after end wide whole large small sound is ends =
    let few = (pages_bounded plan.form plan.exponent wide whole large small).1 in
    let translated = sound_translated plan ws s address.number few sound in
    let marked = subst Sound (sym is) (sound_used_at (translated_state plan ws s address.number) place used store translated) in
    subst Sound (sym ends) (sound_noted after noted address t marked)

-- What holds of the valid entries of the look-aside buffers stays so.
use Rattle.std.proofs.Common.{◌≡◌, ℕ, zero, suc, Bool, true, false, cond, ◌⊎◌, List, length, get_or, set, replicate, Some, None, Option, sym, refl, ap, ◌∙◌, subst, inl, inr, ⊎_elim, arith}
use Rattle.std.proofs.lemmas.Bool.{cond_both, cases_eq, cases_lt, cases_Bool, both_ways}
use Rattle.std.proofs.lemmas.List.{get_or-set_same, get_or-set_other, set_past, get_or-replicate, get_or_past}
use Rattle.std.proofs.lemmas.Option.{none-some, same_Some}
use Rattle.page_table.specs.declared.entry.Tag.{Tag}
use Rattle.page_table.specs.Search.{same_tag}
use Rattle.page_table.proofs.Tags.{same_tag_lem, tag_same}
use Rattle.tlb.specs.declared.buffers.Translation.{Translation}
use Rattle.tlb.specs.declared.buffers.Way.{Way}
use Rattle.tlb.specs.declared.buffers.Way.TheVariants.{First, Second}
use Rattle.tlb.specs.declared.buffers.Class.{Class}
use Rattle.tlb.specs.declared.buffers.Buffers.{Buffers}
use Rattle.tlb.specs.Lookup.{
  holds,
  clashing,
  first_in,
  second_in,
  hit_in,
  after_hit,
  place_of,
  other,
  replaced_in,
  class_of,
  no_class,
  class_at,
  hit_of,
  looked_up,
  loaded_with,
  empty_class,
  empty_buffers,
  Unique,
  EachUnique,
  Each,
}

-- what is read after a write is what was written, or what was there
set_or :
    {X : Type 0} (xs : List X) (i j : ℕ) (a d : X) → (get_or (set xs i a) j d ≡ a) ⊎ (get_or (set xs i a) j d ≡ get_or xs j d)
set_or xs i j a d =
    ⊎_elim
    (λ same. ⊎_elim
    (λ inside. inl (ap (λ (k : ℕ). get_or (set xs i a) k d) same ∙ get_or-set_same xs i a d inside))
    (λ past. inr (ap (λ (ys : List _). get_or ys j d) (set_past xs i a past)))
    (cases_lt i (length xs)))
    (λ differs. inr (get_or-set_other xs i j a d differs))
    (cases_eq j i)

abbrev with_class : Buffers → ℕ → Class → Buffers
with_class b k c = record { classes = set b.classes k c }

-- what holds of each class of the buffers and of a new one holds of each class then
class_set :
    (P : Class → Type 0) (b : Buffers) (k : ℕ) (c : Class) →
    ((i : ℕ) → P (class_at b i)) →
    P c →
    (i : ℕ) →
    P (class_at (with_class b k c) i)
class_set P b k c old new i =
    ⊎_elim (λ e. subst P (sym e) new) (λ e. subst P (sym e) (old i)) (set_or b.classes k i c no_class)

abbrev EachIn : (Translation → Type 0) → Class → Type 0
EachIn P c = (j : ℕ) (t : Translation) → get_or c.ways j None ≡ Some t → P t

after_hit_ways : (c : Class) (tag : Tag) → (after_hit c tag).ways ≡ c.ways
after_hit_ways c tag =
    let P : Class → Type 0 = λ d. d.ways ≡ c.ways in
    cond_both (holds (first_in c) tag) _ _ P (λ _. refl) (λ _. cond_both (holds (second_in c) tag) _ _ P (λ _. refl) (λ _. refl))

pub each_looked :
    (P : Translation → Type 0) (b : Buffers) (tag : Tag) → Each P b → Each P (looked_up b tag)
each_looked P b tag each =
    class_set (EachIn P) b (class_of tag) (after_hit (class_at b (class_of tag)) tag) each (λ j t e.
    each (class_of tag) j t (ap (λ (ways : List (Option Translation)). get_or ways j None) (sym (after_hit_ways (class_at b (class_of tag)) tag)) ∙ e))

pub each_loaded :
    (P : Translation → Type 0) (b : Buffers) (t : Translation) → Each P b → P t → Each P (loaded_with b t)
each_loaded P b t each here =
    let k = class_of t.page.tag in
    class_set (EachIn P) b k (replaced_in (class_at b k) t) each (λ j s e.
    ⊎_elim
    (λ new. subst P (same_Some t s (sym new ∙ e)) here)
    (λ old. each k j s (sym old ∙ e))
    (set_or (class_at b k).ways _ j (Some t) None))

none_at : (j : ℕ) → get_or empty_class.ways j None ≡ None
none_at zero = refl
none_at (suc zero) = refl
none_at (suc (suc j)) = refl

pub each_empty : (P : Translation → Type 0) → Each P empty_buffers
each_empty P i j t e =
    let read : Class → Option Translation = λ c. get_or c.ways j None in
    absurd (
    ⊎_elim
    (λ inside. none-some t (sym (none_at j) ∙ ap read (sym (get_or-replicate 16 i empty_class no_class inside)) ∙ e))
    (λ past. none-some t (ap read (sym (get_or_past (replicate 16 empty_class) i no_class past)) ∙ e))
    (cases_lt i 16))

-- an entry that holds a virtual page has its tag
holds_tag :
    (o : Option Translation) (t : Translation) (tag : Tag) → holds o tag ≡ true → o ≡ Some t → t.page.tag ≡ tag
holds_tag o t tag h e = same_tag_lem t.page.tag tag (sym (ap (λ (x : Option Translation). holds x tag) e) ∙ h)

-- the entry that is hit is a valid one of its class, and has the tag
hit_in_lem :
    (c : Class) (tag : Tag) (t : Translation) →
    hit_in c tag ≡ Some t →
    ((j : ℕ) × (get_or c.ways j None ≡ Some t)) × (t.page.tag ≡ tag)
hit_in_lem c tag t e = first (holds (first_in c) tag) refl e
  where
    Goal : Type 0
    Goal = ((j : ℕ) × (get_or c.ways j None ≡ Some t)) × (t.page.tag ≡ tag)

    second : (b : Bool) → holds (second_in c) tag ≡ b → cond b (second_in c) None ≡ Some t → Goal
    second true h is = ((1, is), holds_tag (second_in c) t tag h is)
    second false h is = absurd (none-some t is)

    first :
        (b : Bool) →
        holds (first_in c) tag ≡ b →
        cond b (first_in c) (cond (holds (second_in c) tag) (second_in c) None) ≡ Some t →
        Goal
    first true h is = ((0, is), holds_tag (first_in c) t tag h is)
    first false h is = second (holds (second_in c) tag) refl is

-- What holds of each valid entry holds of one that is hit, and that one has the tag asked for.
pub hit_each :
    (P : Translation → Type 0) (b : Buffers) (tag : Tag) (t : Translation) →
    Each P b →
    hit_of b tag ≡ Some t →
    P t × (t.page.tag ≡ tag)
hit_each P b tag t each e =
    let at = hit_in_lem (class_at b (class_of tag)) tag t e in (each (class_of tag) at.0.0 t at.0.1, at.1)

miss_one :
    (o rest : Option Translation) (tag : Tag) → cond (holds o tag) o rest ≡ None → (holds o tag ≡ false) × (rest ≡ None)
miss_one None rest tag e = (refl, e)
miss_one (Some t) rest tag e = ways (same_tag t.page.tag tag) refl e
  where
    ways :
        (b : Bool) → same_tag t.page.tag tag ≡ b → cond b (Some t) rest ≡ None → (same_tag t.page.tag tag ≡ false) × (rest ≡ None)
    ways true h is = absurd (none-some t (sym is))
    ways false h is = (h, is)

-- an entry that does not hold the virtual page of another clashes with it neither way
apart : (o : Option Translation) (t : Translation) → holds o t.page.tag ≡ false → clashing (Some t) o ≡ false
apart None t h = refl
apart (Some s) t h =
    ⊎_elim
    (λ same. absurd (both_ways (same_tag s.page.tag t.page.tag) h (tag_same _ _ (sym (same_tag_lem t.page.tag s.page.tag same)))))
    (λ differs. differs)
    (cases_Bool (same_tag t.page.tag s.page.tag))

abbrev UniqueIn : List (Option Translation) → Type 0
UniqueIn ways = clashing (get_or ways 0 None) (get_or ways 1 None) ≡ false

pub unique_looked : (b : Buffers) (tag : Tag) → EachUnique b → EachUnique (looked_up b tag)
unique_looked b tag each =
    let c = class_at b (class_of tag) in
    class_set Unique b (class_of tag) (after_hit c tag) each (subst UniqueIn (sym (after_hit_ways c tag)) (each (class_of tag)))

unique_replaced :
    (c : Class) (t : Translation) → Unique c → hit_in c t.page.tag ≡ None → Unique (replaced_in c t)
unique_replaced c t unique miss = ways c.used_last
  where
    tag : Tag
    tag = t.page.tag

    free : (holds (first_in c) tag ≡ false) × (cond (holds (second_in c) tag) (second_in c) None ≡ None)
    free = miss_one (first_in c) _ tag miss

    ways : (w : Way) → UniqueIn (set c.ways (place_of (other w)) (Some t))
    ways First =
        let kept : get_or (set c.ways 1 (Some t)) 0 None ≡ first_in c = get_or-set_other c.ways 1 0 (Some t) None (λ e. omega arith) in
        ap (λ (o : Option Translation). clashing o (get_or (set c.ways 1 (Some t)) 1 None)) kept
        ∙ ⊎_elim
        (λ new. ap (clashing (first_in c)) new ∙ free.0)
        (λ old. ap (clashing (first_in c)) old ∙ unique)
        (set_or c.ways 1 1 (Some t) None)
    ways Second =
        let kept : get_or (set c.ways 0 (Some t)) 1 None ≡ second_in c = get_or-set_other c.ways 0 1 (Some t) None (λ e. omega arith) in
        ap (λ (o : Option Translation). clashing (get_or (set c.ways 0 (Some t)) 0 None) o) kept
        ∙ ⊎_elim
        (λ new. ap (λ (o : Option Translation). clashing o (second_in c)) new ∙ apart (second_in c) t (miss_one (second_in c) None tag free.1).0)
        (λ old. ap (λ (o : Option Translation). clashing o (second_in c)) old ∙ unique)
        (set_or c.ways 0 0 (Some t) None)

-- Keeping what a search found for a virtual page that was not hit leaves no two entries that hold one virtual page.
pub unique_loaded :
    (b : Buffers) (t : Translation) → EachUnique b → hit_of b t.page.tag ≡ None → EachUnique (loaded_with b t)
unique_loaded b t each miss =
    let k = class_of t.page.tag in
    class_set Unique b k (replaced_in (class_at b k) t) each (unique_replaced (class_at b k) t (each k) miss)

-- a look-up that misses goes on missing
pub miss_looked : (b : Buffers) (tag : Tag) → hit_of b tag ≡ None → hit_of (looked_up b tag) tag ≡ None
miss_looked b tag miss =
    let c = class_at b (class_of tag) in
    let hit : List (Option Translation) → Option Translation =
    λ ways. cond (holds (get_or ways 0 None) tag) (get_or ways 0 None) (cond (holds (get_or ways 1 None) tag) (get_or ways 1 None) None)
    in
    let P : Class → Type 0 = λ d. hit d.ways ≡ None in
    ⊎_elim
    (λ e. subst P (sym e) (ap hit (after_hit_ways c tag) ∙ miss))
    (λ e. subst P (sym e) miss)
    (set_or b.classes (class_of tag) (class_of tag) (after_hit c tag) no_class)

-- What holds of the look-aside buffers holds of them after a purge, and which entries are hit then.
use Rattle.std.proofs.Common.{◌≡◌, ℕ, zero, suc, ◌+◌, ◌<◌, ◌≤◌, Bool, true, false, cond, List, [], ◌∷◌, ◌++◌, length, get_or, set, take, drop, map, Some, None, Option, sym, refl, ap, ◌∙◌, subst, arith}
use Rattle.std.proofs.lemmas.List.{append-nil, length-append, length-map, length-take, length-drop, get_or_default, take_all, drop_all}
use Rattle.std.proofs.lemmas.List.Edits.{map_over_more}
use Rattle.page_table.specs.declared.entry.Tag.{Tag}
use Rattle.page_table.specs.Search.{same_tag}
use Rattle.page_table.proofs.Tags.{same_tag_lem}
use Rattle.tlb.specs.declared.buffers.Translation.{Translation}
use Rattle.tlb.specs.declared.buffers.Class.{Class}
use Rattle.tlb.specs.declared.buffers.Buffers.{Buffers}
use Rattle.tlb.specs.declared.purging.Purge.{Purge}
use Rattle.tlb.specs.Lookup.{holds, clashing, first_in, second_in, hit_in, class_of, no_class, class_at, hit_of, Unique, EachUnique, Each}
use Rattle.tlb.specs.Purging.{takes, left_by, purged_class, purged}

-- a read of a mapped list, of a function that keeps what a read past the end gives
mapped_at : {X : Type 0} (f : X → X) (xs : List X) (i : ℕ) (d : X) → f d ≡ d → get_or (map f xs) i d ≡ f (get_or xs i d)
mapped_at f [] i d e = sym e
mapped_at f (x ∷ xs) zero d e = refl
mapped_at f (x ∷ xs) (suc i) d e = mapped_at f xs i d e

class_purged : (p : Purge) (b : Buffers) (i : ℕ) → class_at (purged p b) i ≡ purged_class p (class_at b i)
class_purged p b i = mapped_at (purged_class p) b.classes i no_class refl

way_purged : (p : Purge) (c : Class) (j : ℕ) → get_or (purged_class p c).ways j None ≡ left_by p (get_or c.ways j None)
way_purged p c j = mapped_at (left_by p) c.ways j None refl

-- a valid entry that is left was there
left_was : (p : Purge) (o : Option Translation) (t : Translation) → left_by p o ≡ Some t → o ≡ Some t
left_was p None t e = e
left_was p (Some s) t e = ways (takes p s.page.tag) e
  where
    ways : (b : Bool) → cond b None (Some s) ≡ Some t → Some s ≡ Some t
    ways true is = cc
    ways false is = is

pub each_purged : (P : Translation → Type 0) (p : Purge) (b : Buffers) → Each P b → Each P (purged p b)
each_purged P p b each i j t e =
    let read : Class → Option Translation = λ c. get_or c.ways j None in
    each i j t (left_was p (read (class_at b i)) t (sym (way_purged p (class_at b i) j) ∙ sym (ap read (class_purged p b i)) ∙ e))

left_misses : (p : Purge) (o : Option Translation) (tag : Tag) → holds o tag ≡ false → holds (left_by p o) tag ≡ false
left_misses p None tag h = refl
left_misses p (Some t) tag h = ways (takes p t.page.tag)
  where
    ways : (b : Bool) → holds (cond b None (Some t)) tag ≡ false
    ways true = refl
    ways false = h

left_apart : (p : Purge) (o q : Option Translation) → clashing o q ≡ false → clashing (left_by p o) (left_by p q) ≡ false
left_apart p o None h = refl
left_apart p o (Some t) h = ways (takes p t.page.tag)
  where
    ways : (b : Bool) → clashing (left_by p o) (cond b None (Some t)) ≡ false
    ways true = refl
    ways false = left_misses p o t.page.tag h

pub unique_purged : (p : Purge) (b : Buffers) → EachUnique b → EachUnique (purged p b)
unique_purged p b each i =
    let c = class_at b i in
    subst Unique (sym (class_purged p b i)) (
    ap (λ (o : Option Translation). clashing o (second_in (purged_class p c))) (way_purged p c 0)
    ∙ ap (clashing (left_by p (first_in c))) (way_purged p c 1)
    ∙ left_apart p (first_in c) (second_in c) (each i))

-- If what a look-up goes on to is hit as the purge lets it, so is an entry that it tries before.
way_hit :
    (p : Purge) (tag : Tag) (o rest left : Option Translation) →
    left ≡ cond (takes p tag) None rest →
    cond (holds (left_by p o) tag) (left_by p o) left ≡ cond (takes p tag) None (cond (holds o tag) o rest)
way_hit p tag None rest left e = e
way_hit p tag (Some t) rest left e = ways (same_tag t.page.tag tag) refl
  where
    Goal : Bool → Bool → Bool → Type 0
    Goal same one all =
        cond (holds (cond one None (Some t)) tag) (cond one None (Some t)) left ≡ cond all None (cond same (Some t) rest)

    alike : (b : Bool) → same_tag t.page.tag tag ≡ true → left ≡ cond b None rest → Goal true b b
    alike true h is = is
    alike false h is = ap (λ (same : Bool). cond same (Some t) left) h

    apart : (b : Bool) → same_tag t.page.tag tag ≡ false → Goal false b (takes p tag)
    apart true h = e
    apart false h = ap (λ (same : Bool). cond same (Some t) left) h ∙ e

    ways : (b : Bool) → same_tag t.page.tag tag ≡ b → Goal b (takes p t.page.tag) (takes p tag)
    ways true h =
        subst (λ (a : Tag). Goal true (takes p a) (takes p tag)) (sym (same_tag_lem t.page.tag tag h)) (alike (takes p tag) h e)
    ways false h = apart (takes p t.page.tag) h

none_either : (b : Bool) → ◌≡◌ {A = Option Translation} None (cond b None None)
none_either true = refl
none_either false = refl

class_hit : (p : Purge) (tag : Tag) (c : Class) → hit_in (purged_class p c) tag ≡ cond (takes p tag) None (hit_in c tag)
class_hit p tag c =
    let hit : Option Translation → Option Translation → Option Translation =
    λ o q. cond (holds o tag) o (cond (holds q tag) q None)
    in
    ap (λ (o : Option Translation). hit o (second_in (purged_class p c))) (way_purged p c 0)
    ∙ ap (hit (left_by p (first_in c))) (way_purged p c 1)
    ∙ way_hit p tag (first_in c) _ _ (way_hit p tag (second_in c) None None (none_either (takes p tag)))

-- An entry that a look-up hits is hit after a purge that does not take its virtual page; of one that does, no entry is.
purged_hit : (p : Purge) (b : Buffers) (tag : Tag) → hit_of (purged p b) tag ≡ cond (takes p tag) None (hit_of b tag)
purged_hit p b tag =
    ap (λ (c : Class). hit_in c tag) (class_purged p b (class_of tag)) ∙ class_hit p tag (class_at b (class_of tag))

-- one more class, in a loop over them
pub purged_more :
    (p : Purge) (xs ys : List Class) (i : ℕ) (c : Class) →
    i < length xs →
    ys ≡ map (purged_class p) (take i xs) ++ drop i xs →
    c ≡ purged_class p (get_or ys i no_class) →
    set ys i c ≡ map (purged_class p) (take (i + 1) xs) ++ drop (i + 1) xs
purged_more p xs ys i c inside is new =
    let long : length ys ≡ length xs = simp (is, length-append, length-map, length-take, length-drop) (omega arith) in
    let within : i < length ys = omega arith in
    ap (set ys i) new
    ∙ map_over_more (purged_class p) xs ys i (get_or ys i no_class) inside is (get_or_default ys i no_class _ within)

-- all classes
pub purged_all :
    (p : Purge) (b : Buffers) (ys : List Class) (i : ℕ) →
    length b.classes ≤ i →
    ys ≡ map (purged_class p) (take i b.classes) ++ drop i b.classes →
    ◌≡◌ {A = Buffers} (record { classes = ys }) (purged p b)
purged_all p b ys i past is =
    let all : ys ≡ map (purged_class p) b.classes =
    is ∙ ap (λ (xs : List Class). map (purged_class p) xs ++ drop i b.classes) (take_all i b.classes past)
    ∙ ap (λ (xs : List Class). map (purged_class p) b.classes ++ xs) (drop_all i b.classes past)
    ∙ append-nil (map (purged_class p) b.classes)
    in cc

pub purged_hits :
    (p : Purge) (b : Buffers) (ys : List Class) (i : ℕ) (tag : Tag) →
    length b.classes ≤ i →
    ys ≡ map (purged_class p) (take i b.classes) ++ drop i b.classes →
    hit_of (record { classes = ys }) tag ≡ cond (takes p tag) None (hit_of b tag)
purged_hits p b ys i tag past is = ap (λ (c : Buffers). hit_of c tag) (purged_all p b ys i past is) ∙ purged_hit p b tag

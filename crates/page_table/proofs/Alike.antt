-- A search depends on the words of the table alone.
use Rattle.std.proofs.Common.{◌≡◌, ℕ, zero, suc, ◌+◌, ◌<◌, Bool, true, false, cond, ltb, List, length, get_or, Some, None, Ok, Err, Option, Result, Continue, Break, refl, ap, ◌∙◌, arith}
use Rattle.std.proofs.lemmas.Bool.{ltb-true}
use Rattle.std.proofs.lemmas.Bool.Decides.{nat_tests}
use Rattle.std.proofs.lemmas.Nat.{mod_below}
use Rattle.refusals.specs.declared.refusal.Refusal.{Refusal}
use Rattle.refusals.specs.declared.refusal.Refusal.TheVariants.{PageFault, PointerOutside}
use Rattle.storage.specs.Words.{read_of}
use Rattle.paging.specs.declared.geometry.PageGeometry.{PageGeometry}
use Rattle.page_table.specs.declared.entry.Anchor.{Anchor}
use Rattle.page_table.specs.declared.walk.Query.{Query}
use Rattle.page_table.specs.declared.walk.Found.{Found}
use Rattle.page_table.specs.declared.walk.Linked.{Linked}
use Rattle.page_table.specs.declared.walk.Fault.{Fault}
use Rattle.page_table.specs.Entry.{tag_of, link_of, anchor_of, entry_of}
use Rattle.page_table.specs.Search.{
  Turn,
  fails,
  read_then,
  same_tag,
  followed,
  and_then,
  place_of,
  turned,
  turned_ahead,
  before,
  itself,
  gone_on,
  chain,
  anchored,
  hash_of,
  found_by,
  found_in,
  searched,
  Going,
}
use Rattle.page_table.specs.Laws.{AlikeTables}
use Rattle.page_table.proofs.Ways.{turned_going, ahead_going}

gone_on_alike :
    {E : Type 0} (q : Query) (n : ℕ) (t : Turn E) (on other : ℕ → Result E Fault) →
    Going q n t →
    ((next : ℕ) → next < q.entries → on next ≡ other next) →
    gone_on t on ≡ gone_on t other
gone_on_alike q n (Ok (Break x)) on other going h = refl
gone_on_alike q n (Ok (Continue next)) on other going h = h next going.1
gone_on_alike q n (Err e) on other going h = refl

-- a word that is the same in storages of one length is read alike
pub read_same : (ws vs : List ℕ) (n : ℕ) → length ws ≡ length vs → get_or ws n 0 ≡ get_or vs n 0 → read_of ws n ≡ read_of vs n
read_same ws vs n long same = grind (arith, nat_tests)

-- what is made of the words of an entry, as they are read
entry_alike :
    {X : Type 0} (gives : Result ℕ Refusal → Result ℕ Refusal → Result ℕ Refusal → X) (ws vs : List ℕ) (q : Query) (i : ℕ) →
    AlikeTables q ws vs →
    i < q.entries →
    gives (read_of ws (place_of q i)) (read_of ws (place_of q i + 1)) (read_of ws (place_of q i + 2))
    ≡ gives (read_of vs (place_of q i)) (read_of vs (place_of q i + 1)) (read_of vs (place_of q i + 2))
entry_alike gives ws vs q i alike h =
    let a = alike (place_of q i) (omega arith) (omega arith) in
    let b = alike (place_of q i + 1) (omega arith) (omega arith) in
    let c = alike (place_of q i + 2) (omega arith) (omega arith) in
    ap (λ r. gives r (read_of ws (place_of q i + 1)) (read_of ws (place_of q i + 2))) a
    ∙ ap (λ r. gives (read_of vs (place_of q i)) r (read_of ws (place_of q i + 2))) b
    ∙ ap (λ r. gives (read_of vs (place_of q i)) (read_of vs (place_of q i + 1)) r) c

abbrev word : ℕ → Option ℕ → Result ℕ Refusal → Result ℕ Fault
word n last r = read_then r (λ e. fails e n last) (λ w. Ok w)

turned_alike :
    (f : PageGeometry) (ws vs : List ℕ) (q : Query) (i n : ℕ) (last : Option ℕ) →
    AlikeTables q ws vs →
    i < q.entries →
    turned f ws q i n last ≡ turned f vs q i n last
turned_alike f ws vs q i n last alike h =
    let gives : Result ℕ Refusal → Result ℕ Refusal → Result ℕ Refusal → Turn Found =
    λ r0 r1 r2.
    and_then (word n last r0) (λ w0.
    cond
    (same_tag (tag_of f w0) q.tag)
    (and_then (word (n + 1) (Some i) r2) (λ w2. Ok (Break (record { entry = i; page = entry_of f w0 w2; compared = n + 1 }))))
    (and_then (word (n + 1) (Some i) r1) (λ w1. followed q i (n + 1) (link_of w1))))
    in
    entry_alike gives ws vs q i alike h

ahead_alike :
    (f : PageGeometry) (ws vs : List ℕ) (q : Query) (i n : ℕ) (last : Option ℕ) →
    AlikeTables q ws vs →
    i < q.entries →
    turned_ahead f ws q i n last ≡ turned_ahead f vs q i n last
ahead_alike f ws vs q i n last alike h =
    let gives : Result ℕ Refusal → Result ℕ Refusal → Result ℕ Refusal → Turn Linked =
    λ r0 r1 r2.
    and_then (word n (Some i) r0) (λ w0.
    and_then (word n (Some i) r1) (λ w1.
    cond
    (same_tag (tag_of f w0) q.tag)
    (and_then (word n (Some i) r2) (λ w2.
    Ok (Break (record { found = record { entry = i; page = entry_of f w0 w2; compared = n + 1 }; link = link_of w1 }))))
    (followed q i (n + 1) (link_of w1))))
    in
    entry_alike gives ws vs q i alike h

-- walks by turns that are alike at each entry of the table
pub chain_alike :
    {E : Type 0} (reached : ℕ → Option ℕ → Option ℕ) (turn other : ℕ → ℕ → Option ℕ → Turn E) (q : Query) →
    ((i n : ℕ) (last : Option ℕ) → i < q.entries → turn i n last ≡ other i n last) →
    ((i n : ℕ) (last : Option ℕ) → Going q (n + 1) (other i n last)) →
    (fuel i n : ℕ) (last : Option ℕ) →
    i < q.entries →
    chain reached turn q fuel i n last ≡ chain reached other q fuel i n last
unfolding chain
chain_alike reached turn other q same going zero i n last h = refl
chain_alike reached turn other q same going (suc fuel) i n last h =
    ap (λ t. gone_on t (λ next. chain reached turn q fuel next (n + 1) (Some i))) (same i n last h)
    ∙ gone_on_alike q (n + 1) (other i n last) _ _ (going i n last) (λ next low. chain_alike reached turn other q same going fuel next (n + 1) (Some i) low)

-- walks in two tables that are alike
pub walked_alike :
    (f : PageGeometry) (ws vs : List ℕ) (q : Query) (fuel i n : ℕ) (last : Option ℕ) →
    AlikeTables q ws vs →
    i < q.entries →
    chain before (turned f ws q) q fuel i n last ≡ chain before (turned f vs q) q fuel i n last
walked_alike f ws vs q fuel i n last alike h =
    chain_alike before (turned f ws q) (turned f vs q) q (λ i n last h. turned_alike f ws vs q i n last alike h) (turned_going f vs q) fuel i n last h

cond_alike : {X : Type 0} (b : Bool) (x y z : X) → (b ≡ true → x ≡ y) → cond b x z ≡ cond b y z
cond_alike true x y z h = h refl
cond_alike false x y z h = refl

anchored_alike :
    {E : Type 0} (reached : ℕ → Option ℕ → Option ℕ) (turn other : ℕ → ℕ → Option ℕ → Turn E) (q : Query) (a : Anchor) →
    ((i n : ℕ) (last : Option ℕ) → i < q.entries → turn i n last ≡ other i n last) →
    ((i n : ℕ) (last : Option ℕ) → Going q (n + 1) (other i n last)) →
    anchored reached turn q a ≡ anchored reached other q a
anchored_alike {E} reached turn other q a same going =
    ap
    (λ (r : Result E Fault). cond a.empty (fails PageFault 0 None) r)
    (cond_alike (ltb a.first q.entries) _ _ (fails PointerOutside 0 None) (λ e. chain_alike reached turn other q same going q.limit a.first 0 None (ltb-true _ _ e)))

read_then_alike :
    {X : Type 0} (r : Result ℕ Refusal) (refused : Refusal → X) (next other : ℕ → X) →
    ((w : ℕ) → next w ≡ other w) →
    read_then r refused next ≡ read_then r refused other
read_then_alike (Ok w) refused next other h = h w
read_then_alike (Err e) refused next other h = refl

found_alike :
    {E : Type 0} (reached : ℕ → Option ℕ → Option ℕ) (turn other : ℕ → ℕ → Option ℕ → Turn E) (ws vs : List ℕ) (q : Query) →
    0 < q.entries →
    AlikeTables q ws vs →
    ((i n : ℕ) (last : Option ℕ) → i < q.entries → turn i n last ≡ other i n last) →
    ((i n : ℕ) (last : Option ℕ) → Going q (n + 1) (other i n last)) →
    found_by reached turn ws q ≡ found_by reached other vs q
found_alike reached turn other ws vs q some alike same going =
    let low : hash_of q < q.entries = mod_below _ q.entries some in
    let read = alike (place_of q (hash_of q) + 1) (omega arith) (omega arith) in
    ap (λ (r : Result ℕ Refusal). read_then r (λ e. fails e 0 None) (λ w. anchored reached turn q (anchor_of w))) read
    ∙ read_then_alike (read_of vs (place_of q (hash_of q) + 1)) _ _ _ (λ w. anchored_alike reached turn other q (anchor_of w) same going)

pub searched_alike :
    (f : PageGeometry) (ws vs : List ℕ) (q : Query) → 0 < q.entries → AlikeTables q ws vs → found_in f ws q ≡ found_in f vs q
searched_alike f ws vs q some alike =
    found_alike before (turned f ws q) (turned f vs q) ws vs q some alike (λ i n last h. turned_alike f ws vs q i n last alike h) (turned_going f vs q)

pub linked_alike :
    (f : PageGeometry) (ws vs : List ℕ) (q : Query) → 0 < q.entries → AlikeTables q ws vs → searched f ws q ≡ searched f vs q
linked_alike f ws vs q some alike =
    found_alike itself (turned_ahead f ws q) (turned_ahead f vs q) ws vs q some alike (λ i n last h. ahead_alike f ws vs q i n last alike h) (ahead_going f vs q)

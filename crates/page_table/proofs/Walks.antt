-- What a search finds, and which entries it compares.
use Rattle.std.proofs.Common.{◌≡◌, ℕ, zero, suc, ◌+◌, ◌<◌, ◌≤◌, true, false, ltb, ◌⊎◌, List, get_or, Some, None, Ok, Err, Option, Result, Continue, Break, refl, inl, inr, arith}
use Rattle.std.proofs.lemmas.Bool.{cond_both, ltb-true, both_ways}
use Rattle.refusals.specs.declared.refusal.Refusal.{Refusal}
use Rattle.refusals.specs.declared.refusal.Refusal.TheVariants.{WordOutside}
use Rattle.paging.specs.declared.geometry.PageGeometry.{PageGeometry}
use Rattle.page_table.specs.declared.walk.Query.{Query}
use Rattle.page_table.specs.declared.walk.Found.{Found}
use Rattle.page_table.specs.declared.walk.Fault.{Fault}
use Rattle.page_table.specs.Entry.{anchor_of}
use Rattle.page_table.specs.Search.{Outcome, Turn, fails, read_then, place_of, turned, turned_ahead, before, itself, gone_on, chain, anchored, hash_of, found_by, found_in, searched}
use Rattle.page_table.specs.Laws.{link_at, equal_at, along, first_of, Well, LinkedWell, Passed, Walked}
use Rattle.page_table.proofs.Tags.{same_tag_lem}
use Rattle.page_table.proofs.Ways.{read_ways, turned_ways, ahead_ways}

-- a turn ends a walk well, or goes on to an entry of the table
abbrev Ends : {E : Type 0} → Query → (Result E Fault → Type 0) → Turn E → Type 0
Ends q P (Ok (Break x)) = P (Ok x)
Ends q P (Ok (Continue next)) = next < q.entries
Ends q P (Err e) = P (Err e)

gone_ends :
    {E : Type 0} (q : Query) (P : Result E Fault → Type 0) (t : Turn E) (on : ℕ → Result E Fault) →
    Ends q P t →
    ((next : ℕ) → next < q.entries → P (on next)) →
    P (gone_on t on)
gone_ends q P (Ok (Break x)) on ends rest = ends
gone_ends q P (Ok (Continue next)) on ends rest = rest next ends
gone_ends q P (Err e) on ends rest = ends

-- what holds of each refusal within the limit, and where a turn ends a walk, holds of the walk
chain_ends :
    {E : Type 0} (reached : ℕ → Option ℕ → Option ℕ) (turn : ℕ → ℕ → Option ℕ → Turn E) (q : Query)
    (P : Result E Fault → Type 0) →
    ((r : Refusal) (n : ℕ) (last : Option ℕ) → n ≤ q.limit → P (fails r n last)) →
    ((i n : ℕ) (last : Option ℕ) → i < q.entries → n < q.limit → Ends q P (turn i n last)) →
    (fuel i n : ℕ) (last : Option ℕ) →
    i < q.entries →
    n + fuel ≤ q.limit →
    P (chain reached turn q fuel i n last)
unfolding chain
chain_ends reached turn q P refused ends zero i n last inside room = refused q.stop n (reached i last) (omega arith)
chain_ends reached turn q P refused ends (suc fuel) i n last inside room =
    gone_ends q P (turn i n last) _ (ends i n last inside (omega arith)) (λ next low.
    chain_ends reached turn q P refused ends fuel next (n + 1) (Some i) low (omega arith))

-- what holds of a refusal before any comparison, and of the chain behind the anchor, holds of the search
searched_ways :
    {E : Type 0} (reached : ℕ → Option ℕ → Option ℕ) (turn : ℕ → ℕ → Option ℕ → Turn E) (ws : List ℕ) (q : Query)
    (P : Result E Fault → Type 0) →
    ((e : Refusal) → P (fails e 0 None)) →
    (first_of ws q < q.entries → P (chain reached turn q q.limit (first_of ws q) 0 None)) →
    P (found_by reached turn ws q)
searched_ways reached turn ws q P refused walk =
    read_ways
    ws
    (place_of q (hash_of q) + 1)
    (λ r. P (read_then r (λ e. fails e 0 None) (λ w. anchored reached turn q (anchor_of w))))
    (λ _. cond_both (anchor_of (get_or ws (place_of q (hash_of q) + 1) 0)).empty _ _ P (λ _. refused _) (λ _.
    cond_both (ltb (first_of ws q) q.entries) _ _ P (λ e. walk (ltb-true _ _ e)) (λ _. refused _)))
    (refused WordOutside)

searched_ends :
    {E : Type 0} (reached : ℕ → Option ℕ → Option ℕ) (turn : ℕ → ℕ → Option ℕ → Turn E) (ws : List ℕ) (q : Query)
    (P : Result E Fault → Type 0) →
    ((r : Refusal) (n : ℕ) (last : Option ℕ) → n ≤ q.limit → P (fails r n last)) →
    ((i n : ℕ) (last : Option ℕ) → i < q.entries → n < q.limit → Ends q P (turn i n last)) →
    P (found_by reached turn ws q)
searched_ends reached turn ws q P refused ends =
    searched_ways reached turn ws q P (λ e. refused e 0 None (omega arith)) (λ inside.
    chain_ends reached turn q P refused ends q.limit (first_of ws q) 0 None inside (omega arith))

pub searched_well : (f : PageGeometry) (ws : List ℕ) (q : Query) → Well f ws q (found_in f ws q)
searched_well f ws q =
    searched_ends before (turned f ws q) ws q (Well f ws q) (λ _ _ _ few. few) (λ i n last inside room.
    turned_ways f ws q i n last (Ends q (Well f ws q))
    (omega arith)
    (λ _. omega arith)
    (λ e. record { inside = inside; says = refl; tagged = same_tag_lem _ _ e; some = omega arith; few = omega arith })
    (λ _ _. omega arith)
    (λ _ _ _ next. next))

pub linked_well : (f : PageGeometry) (ws : List ℕ) (q : Query) → LinkedWell f ws q (searched f ws q)
linked_well f ws q =
    searched_ends itself (turned_ahead f ws q) ws q (LinkedWell f ws q) (λ _ _ _ few. few) (λ i n last inside room.
    ahead_ways f ws q i n last (Ends q (LinkedWell f ws q))
    (omega arith)
    (λ e. (record { inside = inside; says = refl; tagged = same_tag_lem _ _ e; some = omega arith; few = omega arith }, refl))
    (λ _. omega arith)
    (λ _ _ next. next))

-- the walk from entry i on, after n comparisons of which the last was that of `last`
abbrev WalkedFrom : PageGeometry → List ℕ → Query → ℕ → ℕ → Option ℕ → Outcome → Type 0
WalkedFrom f ws q i n last (Ok x) =
    (m : ℕ) × (x.compared ≡ n + (m + 1)) × (x.entry ≡ along ws q i m) × Passed f ws q i m
WalkedFrom f ws q i n last (Err e) =
    ((e.compared.count ≡ n) × (e.compared.last ≡ last))
    ⊎ ((m : ℕ)
    × (e.compared.count ≡ n + (m + 1))
    × (e.compared.last ≡ Some (along ws q i m))
    × Passed f ws q i m
    × (equal_at f ws q (along ws q i m) ≡ true → e.refusal ≡ WordOutside))

none_passed : (f : PageGeometry) (ws : List ℕ) (q : Query) (i : ℕ) → Passed f ws q i 0
none_passed f ws q i j h = absurd (omega arith)

passed_more :
    (f : PageGeometry) (ws : List ℕ) (q : Query) (i m : ℕ) →
    equal_at f ws q i ≡ false →
    (link_at ws q i).last ≡ false →
    Passed f ws q (link_at ws q i).next m →
    Passed f ws q i (suc m)
passed_more f ws q i m differs unlast rest zero h = (differs, unlast)
passed_more f ws q i m differs unlast rest (suc j) h = rest j (omega arith)

walked_more :
    (f : PageGeometry) (ws : List ℕ) (q : Query) (i n : ℕ) (last : Option ℕ) (r : Outcome) →
    equal_at f ws q i ≡ false →
    (link_at ws q i).last ≡ false →
    WalkedFrom f ws q (link_at ws q i).next (n + 1) (Some i) r →
    WalkedFrom f ws q i n last r
walked_more f ws q i n last (Ok x) differs unlast h =
    (suc h.0, omega (arith, h.1), h.2, passed_more f ws q i h.0 differs unlast h.3)
walked_more f ws q i n last (Err e) differs unlast (inl h) =
    inr (0, omega (arith, h.0), h.1, none_passed f ws q i, λ same. absurd (both_ways _ differs same))
walked_more f ws q i n last (Err e) differs unlast (inr h) =
    inr (suc h.0, omega (arith, h.1), h.2, passed_more f ws q i h.0 differs unlast h.3, h.4)

chain_walked :
    (f : PageGeometry) (ws : List ℕ) (q : Query) (fuel i n : ℕ) (last : Option ℕ) →
    WalkedFrom f ws q i n last (chain before (turned f ws q) q fuel i n last)
unfolding chain
chain_walked f ws q zero i n last = inl (refl, refl)
chain_walked f ws q (suc fuel) i n last =
    let P : Turn Found → Type 0 =
    λ t. WalkedFrom f ws q i n last (gone_on t (λ next. chain before (turned f ws q) q fuel next (n + 1) (Some i)))
    in
    turned_ways f ws q i n last P
    (inl (refl, refl))
    (λ _. inr (0, omega arith, refl, none_passed f ws q i, λ _. refl))
    (λ _. (0, omega arith, refl, none_passed f ws q i))
    (λ differs _. inr (0, omega arith, refl, none_passed f ws q i, λ same. absurd (both_ways _ differs same)))
    (λ differs unlast _ _. walked_more f ws q i n last _ differs unlast (chain_walked f ws q fuel (link_at ws q i).next (n + 1) (Some i)))

-- the walk from the first entry on is the whole walk
walked_all :
    (f : PageGeometry) (ws : List ℕ) (q : Query) (r : Outcome) →
    WalkedFrom f ws q (first_of ws q) 0 None r →
    Walked f ws q r
walked_all f ws q (Ok x) h = (h.0, record { count = omega (arith, h.1); is = h.2; passed = h.3 })
walked_all f ws q (Err e) (inl h) = inl h
walked_all f ws q (Err e) (inr h) =
    inr (h.0, record { count = omega (arith, h.1); last = h.2; passed = h.3; differs = h.4 })

pub searched_walked : (f : PageGeometry) (ws : List ℕ) (q : Query) → Walked f ws q (found_in f ws q)
searched_walked f ws q =
    searched_ways before (turned f ws q) ws q (Walked f ws q) (λ _. inl (refl, refl)) (λ _. walked_all f ws q _ (chain_walked f ws q q.limit (first_of ws q) 0 None))

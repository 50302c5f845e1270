-- The entries that a chain's successors give.
use Rattle.std.proofs.Common.{◌≡◌, ℕ, zero, suc, ◌+◌, ◌<◌, ◌≤◌, List, length, slice_index_or, Option, Some, None, IfSome, IsSomeAnd, option_map, refl, sym, ◌∙◌, arith}
use Rattle.std.specs.Fn.{iterate}
use Rattle.page_table.specs.declared.walk.Query.{Query}
use Rattle.page_table.specs.Laws.{link_at, along, first_of, Listed}

along_iterate : (ws : List ℕ) (q : Query) (k i : ℕ) → iterate (λ (e : ℕ). (link_at ws q e).next) k i ≡ along ws q i k
along_iterate ws q zero i = refl
along_iterate ws q (suc k) i = along_iterate ws q k (link_at ws q i).next

some_is : (r : Option ℕ) (x y : ℕ) → option_map (λ (z : ℕ). z) r ≡ Some x → IfSome r (λ z. z ≡ y) → x ≡ y
some_is r x y is h = grind arith

pub listed_run :
    (ws : List ℕ) (q : Query) (n len : ℕ) (xs : List ℕ) (at : ℕ → Option ℕ) →
    len ≡ length xs →
    len ≤ n →
    (len < n → ⊥) →
    ((k d : ℕ) → k < len → option_map (λ (y : ℕ). y) (at k) ≡ Some (slice_index_or xs k d)) →
    ((k : ℕ) → IfSome (at k) (λ y. y ≡ iterate (λ (e : ℕ). (link_at ws q e).next) k (first_of ws q))) →
    Listed ws q n xs
listed_run ws q n len xs at long few all reads gives =
    let is : len ≡ n = omega (arith, few, all) in (
      sym long ∙ is,
      λ j h. some_is (at j) _ _ (reads j 0 (omega (arith, is, h))) (gives j) ∙ along_iterate ws q j (first_of ws q),
    )

no_item : (r : Option ℕ) (Q : ℕ → Type 0) → IsSomeAnd r Q → ((x : ℕ) → Q x → ⊥) → ⊥
no_item (Some x) Q h never = never x h
no_item None Q h never = h

-- a run that ends has a last item, or none
pub endless :
    (len : ℕ) (at : ℕ → Option ℕ) (Q : ℕ → Type 0) →
    (len ≡ 0 → ⊥) →
    ((k : ℕ) → len ≡ k + 1 → IsSomeAnd (at k) Q) →
    ((x : ℕ) → Q x → ⊥) →
    ⊥
endless zero at Q some last never = some refl
endless (suc k) at Q some last never = no_item (at k) Q (last k (omega arith)) never

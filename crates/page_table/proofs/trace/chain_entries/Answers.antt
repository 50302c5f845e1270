use Rattle.std.proofs.Common.{rules, ◌≡◌, ℕ, List, length, Option, Some, IfSome, slice_index_or, true, of_calls, ◌∙◌, sym, ap, subst, arith}
use Rattle.std.specs.Fn.{iterate}
use Rattle.std.proofs.lemmas.Result.{IfOk-weaker}
use Rattle.page_table.specs.Laws.{link_at, first_of}
use Rattle.page_table.proofs.Listing.{listed_run, endless}
use Rattle.page_table.proofs.trace.chain_entries.Goals as goal

-- Said here: with `listed_run` and `endless` named on the function the search gives up. They take what each iterator says of
-- every index, as functions that it would have to make up.
pub returns : goal.returns
returns g c =
    let ws = g.S.ReadStorage.words c.args.storage.now in
    let q = c.args.asked.query in
    IfOk-weaker c.collect.result _ _ (λ v h.
    let p = h tt in
    let t = c.take.ensures.runs p.0 p.0.seen p.1 in
    let s = c.successors.ensures.runs t.1.0 t.1.0.seen t.1.1 in
    let items : v.items ≡ p.0.items = search rules in
    let kept = s.2 (λ a r f e. search (rules, of_calls)) in
    let P : Option ℕ → ℕ → Type 0 = λ r k. IfSome r (λ y. y ≡ iterate (λ (e : ℕ). (link_at ws q e).next) k (first_of ws q)) in
    let first : c.anchor_of-anchor.result.first ≡ first_of ws q = search rules in
    listed_run ws q c.args.count p.0.len v.items p.0.at
    (p.0.long ∙ ap (λ (ys : List ℕ). length ys) (sym items))
    (omega (arith, t.0, c.from.ensures))
    (λ below.
    let whole : t.1.0.whole ≡ true = t.1.2.1 p.2 (omega (arith, below, c.from.ensures)) in
    endless t.1.0.len t.1.0.at _ (λ none. let e = s.1 whole none in search rules) (λ k e. kept.1 k whole e) (λ x called. search (rules, of_calls)))
    (λ k d low. p.0.reads k d low ∙ ap (λ (ys : List ℕ). Some (slice_index_or ys k d)) (sym items))
    (λ k. subst (λ r. P r k) (t.1.2.0.2 k) (kept.2 (λ (e : ℕ). (link_at ws q e).next) (first_of ws q) k (ap (λ (x : ℕ). Some x) first) (λ x y called. search (rules, of_calls))))) c.collect.ensures.runs

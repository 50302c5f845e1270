-- The steps of the loop that follows a chain.
use Rattle.std.proofs.Common.{◌≡◌, ℕ, suc, ◌+◌, ◌-◌, ◌<◌, Some, Ok, Option, Result, Continue, sym, ap, ◌∙◌, subst, arith}
use Rattle.page_table.specs.declared.walk.Query.{Query}
use Rattle.page_table.specs.declared.walk.Fault.{Fault}
use Rattle.page_table.specs.Search.{Turn, gone_on, chain, Going}

-- What a walk comes to, where that is what it comes to from entry i on, is what one more turn makes of it.
pub one_turn :
    {E : Type 0} (reached : ℕ → Option ℕ → Option ℕ) (turn : ℕ → ℕ → Option ℕ → Turn E) (q : Query)
    (i n : ℕ) (last : Option ℕ) (whole : Result E Fault) (t : Turn E) →
    n < q.limit →
    whole ≡ chain reached turn q (q.limit - n) i n last →
    t ≡ turn i n last →
    whole ≡ gone_on t (λ next. chain reached turn q (q.limit - (n + 1)) next (n + 1) (Some i))
unfolding chain
one_turn reached turn q i n last whole t h from e =
    let less : q.limit - n ≡ suc (q.limit - (n + 1)) = omega (arith, h) in
    from
    ∙ ap (λ v. chain reached turn q v i n last) less
    ∙ ap (λ t. gone_on t (λ next. chain reached turn q (q.limit - (n + 1)) next (n + 1) (Some i))) (sym e)

-- where a walk goes on after n + 1 comparisons, that is not the limit
pub on_below :
    {E : Type 0} (q : Query) (n next : ℕ) (t : Turn E) →
    Going q (n + 1) t →
    n < q.limit →
    Ok (Continue next) ≡ t →
    n + 1 < q.limit
on_below {E} q n next t going h e =
    let P : Turn E → Type 0 = λ t. Going {E = E} q (n + 1) t in
    let there : Going {E = E} q (n + 1) (Ok (Continue next)) = subst P (sym e) going in
    omega (arith, there.0)

-- The same calls on two copies of an image.
use Rattle.std.proofs.Common.{◌≡◌, ℕ, ◌*◌, Bool, true, List, length, refl, subst, Decides}
use Rattle.paging.specs.Numbers.{PlanNumbers}
use Rattle.paging.specs.Plan.{storage_bytes}
use Rattle.unit_state.specs.declared.state.UnitState.{UnitState}
use Rattle.unit_state.specs.Grants.{Closed}
use Rattle.runs.specs.declared.call.Call.{Call}
use Rattle.runs.specs.declared.call.Reply.{Reply}
use Rattle.runs.specs.Law.{Twice}

-- Two copies are alike, so that they are answered alike where the table is closed.
pub copies_alike :
    (plan of_runs : PlanNumbers) (s : UnitState) (calls : List Call) (image start end start' end' : List ℕ) (replies replies' : List Reply) (closed : Bool) →
    Twice of_runs s calls start end replies start' end' replies' →
    of_runs ≡ plan →
    start ≡ image →
    start' ≡ image →
    4 * length image ≡ storage_bytes plan.exponent →
    Decides closed (Closed plan image s) →
    closed ≡ true →
    replies ≡ replies'
copies_alike plan of_runs s calls image start end start' end' replies replies' closed law settled one two sized decides holds =
    let first : Twice plan s calls start end replies start' end' replies' =
    subst (λ (p : PlanNumbers). Twice p s calls start end replies start' end' replies') settled law in
    let second : Twice plan s calls image end replies start' end' replies' =
    subst (λ (ws : List ℕ). Twice plan s calls ws end replies start' end' replies') one first in
    let both : Twice plan s calls image end replies image end' replies' =
    subst (λ (ws : List ℕ). Twice plan s calls image end replies ws end' replies') two second in
    both.isolated (decides.0 holds) (record { sized = sized; sized' = sized; table = λ n table. refl; granted = λ n granted. refl })

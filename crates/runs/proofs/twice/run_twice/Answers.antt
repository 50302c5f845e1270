use Rattle.std.proofs.Common.{◌≡◌, ◌<◌, ◌≤◌, ap, ◌∙◌, subst, rules, arith}
use Rattle.paging.specs.Numbers.{PlanNumbers, numbers_of, drafted}
use Rattle.paging.specs.Plan.{page_count}
use Rattle.paging.proofs.Pages.{pages_bounded}
use Rattle.unit_state.specs.State.{powered_on}
use Rattle.runs.specs.Fold.{replies_from, words_from}
use Rattle.runs.specs.SetUp.{set_up}
use Rattle.runs.proofs.Doubling.{twice}
use Rattle.runs.proofs.twice.run_twice.Goals as goal

pub returns : goal.returns
returns g c =
    let form = g.met.F.PageForm in
    let draft = c.args.draft in
    let numbers = drafted g.F.PageForm.sizes draft in
    let calls = c.args.calls.now in
    let first = set_up powered_on c.args.writes.now in
    let one : numbers_of c.in_ok-plan.plan ≡ numbers = search rules in
    let two : numbers_of c.in_ok-plan-2.plan ≡ numbers = search rules in
    let ws = g.A.ReadStorage.words c.args.first.now in
    let vs = g.B.ReadStorage.words c.args.second.now in
    let plan = c.in_ok-plan.plan in
    let pages = pages_bounded g.F.PageForm.sizes plan.exponent form.wide form.whole plan.large plan.small in
    let replies = c.run_alone-draft.ensures.replies ∙ ap (λ (p : PlanNumbers). replies_from p ws first calls) one in
    let words = c.run_alone-draft.ensures.words ∙ ap (λ (p : PlanNumbers). words_from p ws first calls) one in
    let replies' = c.run_alone-draft-2.ensures.replies ∙ ap (λ (p : PlanNumbers). replies_from p vs first calls) two in
    let words' = c.run_alone-draft-2.ensures.words ∙ ap (λ (p : PlanNumbers). words_from p vs first calls) two in
    let law =
    twice
    numbers
    c.args.writes.now
    calls
    ws
    _
    _
    vs
    _
    _
    (record { wide = form.wide; whole = form.whole; large = subst (λ (p : PlanNumbers). 16 ≤ p.exponent) one plan.large })
    (subst (λ (p : PlanNumbers). 0 < page_count p.form p.exponent) one (omega (arith, pages.0)))
    replies
    words
    replies'
    words'
    in
    record {
      law = (law, search rules);
      first_run = record { replies-are = replies; words_are = words };
      second_run = record { replies-are = replies'; words_are = words' };
      first_lenders = c.run_alone-draft.ensures.lenders;
      second_lenders = c.run_alone-draft-2.ensures.lenders;
    }

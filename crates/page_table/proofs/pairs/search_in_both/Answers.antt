use Rattle.std.proofs.Common.{sym, ◌∙◌, arith}
use Rattle.paging.specs.Numbers.{numbers_of}
use Rattle.page_table.specs.Search.{query_of}
use Rattle.paging.proofs.Pages.{pages_bounded}
use Rattle.page_table.proofs.Alike.{linked_alike}
use Rattle.page_table.proofs.pairs.search_in_both.Goals as goal

-- Said here: with the lemmas named on the function the search leaves the goal open. `linked_alike` asks that the table has
-- entries, which is a part of what `pages_bounded` says of the plan.
pub returns-clause-alike : goal.returns-clause-alike
returns-clause-alike g c =
    let form = g.met.F.PageForm in
    let plan = c.args.plan.now in
    let pages = pages_bounded g.F.PageForm.sizes plan.exponent form.wide form.whole plan.large plan.small in
    λ same. c.search.ensures.is ∙ linked_alike g.F.PageForm.sizes (g.S.ReadStorage.words c.args.first.now) (g.T.ReadStorage.words c.args.second.now) (query_of (numbers_of plan) c.args.long_search c.args.tag) (omega (arith, pages.0)) same ∙ sym c.search-2.ensures.is

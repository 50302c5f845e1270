use Rattle.std.proofs.Common.{◌≡◌, ◌-◌, ◌<◌, None}
use Rattle.page_table.specs.Search.{chain}
use Rattle.page_table.proofs.chain.walk.Given as goal

abbrev pub invariant-follow : goal.invariant-follow
invariant-follow g l =
    let turn = g.H.Hit.turned g.F.PageForm.sizes (g.S.ReadStorage.words l.storage) l.asked.query in
    (l.compared.count < l.asked.query.limit)
    × (chain g.H.Hit.reached turn l.asked.query l.asked.query.limit l.first 0 None
    ≡ chain g.H.Hit.reached turn l.asked.query (l.asked.query.limit - l.compared.count) l.at l.compared.count l.compared.last)

abbrev pub decreases-follow : goal.decreases-follow
decreases-follow g l = l.asked.query.limit - l.compared.count

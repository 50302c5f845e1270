use Rattle.std.proofs.Common.{◌≡◌, take, drop, vec_items}
use Rattle.paging.specs.Numbers.{numbers_of}
use Rattle.survey.specs.Markers.{AllRead, sites_used}
use Rattle.survey.proofs.real_loads.read_markers.Given as goal

abbrev pub invariant-loop-site : goal.invariant-loop-site
invariant-loop-site g l =
    AllRead (numbers_of l.initial.unit.plan) (g.S.ReadStorage.words l.storage) (take l.site-index l.sites) (vec_items l.markers)
    × (l.unit.plan ≡ l.initial.unit.plan)
    × (sites_used (numbers_of l.initial.unit.plan) (g.S.ReadStorage.words l.storage) l.unit.state (drop l.site-index l.sites)
    ≡ sites_used (numbers_of l.initial.unit.plan) (g.S.ReadStorage.words l.storage) l.initial.unit.state l.sites)

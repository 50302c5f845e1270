use Rattle.std.proofs.Common.{◌≡◌, [], ◌∷◌, ◌++◌, get_or, vec_items, ap, ◌∙◌, rules}
use Rattle.paging.specs.Numbers.{numbers_of}
use Rattle.survey.specs.Markers.{marker_read, marker_used}
use Rattle.survey.proofs.Steps.{read_more, used_more}
use Rattle.survey.specs.Calls.{no_site}
use Rattle.survey.proofs.real_loads.read_markers.Goals as goal

-- Said here: with the lemmas named on the function the search leaves the goal open, since they ask what a call answered of the
-- plan's numbers, under a function of them.
pub loop-site-preserved : goal.loop-site-preserved
loop-site-preserved g c =
    let ws = g.S.ReadStorage.words c.args.storage.now in
    let start = numbers_of c.args.unit.now.plan in
    let sites = c.args.sites.now in
    let address = (get_or sites c.loop-site.site-index no_site).address in
    let before = vec_items c.loop-site.markers in
    let pushed : vec_items c.push.new.self ≡ before ++ c.in_ok-marker.marker ∷ [] = search rules in
    let plan = c.loop-site.invariant.1 in (
      read_more start ws sites _ no_site _ _ _ c.loop-site-test.true c.loop-site.invariant.0 (c.in_ok-marker.ensures.answer ∙ ap (λ p. marker_read (numbers_of p) ws address) plan) pushed,
      search rules,
      used_more start ws _ _ _ sites _ no_site c.loop-site-test.true c.loop-site.invariant.2 (c.read_marker.ensures.state ∙ ap (λ p. marker_used (numbers_of p) ws address c.loop-site.unit.state) plan),
    )

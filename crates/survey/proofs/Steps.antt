-- The steps of the loop that reads markers.
use Rattle.std.proofs.Common.{◌≡◌, ℕ, ◌+◌, ◌<◌, ◌≤◌, List, [], ◌∷◌, ◌++◌, map, length, get_or, take, drop, Ok, sym, ap, ◌∙◌}
use Rattle.std.proofs.lemmas.List.{map_more, map_push, at_drop_more, at_drop_all}
use Rattle.paging.specs.Numbers.{PlanNumbers}
use Rattle.unit_state.specs.declared.state.UnitState.{UnitState}
use Rattle.survey_image.specs.declared.marker.Marker.{Marker}
use Rattle.survey_image.specs.declared.marker.Site.{Site}
use Rattle.survey.specs.Markers.{marker_read, marker_used, sites_used, AllRead}

pub read_more :
    (plan : PlanNumbers) (ws : List ℕ) (sites : List Site) (i : ℕ) (d : Site) (before after : List Marker) (m : Marker) →
    i < length sites →
    AllRead plan ws (take i sites) before →
    Ok m ≡ marker_read plan ws (get_or sites i d).address →
    after ≡ before ++ m ∷ [] →
    AllRead plan ws (take (i + 1) sites) after
read_more plan ws sites i d before after m h read here pushed =
    map_more (λ s. marker_read plan ws s.address) sites i d h
    ∙ ap (λ r. r ++ marker_read plan ws (get_or sites i d).address ∷ []) read
    ∙ ap (λ r. map (λ m. Ok m) before ++ r ∷ []) (sym here)
    ∙ sym (map_push (λ m. Ok m) before m)
    ∙ ap (map (λ m. Ok m)) (sym pushed)

-- One turn more, and the last: what is left to read gives the marks that the whole gives.
pub used_more :
    (plan : PlanNumbers) (ws : List ℕ) (start s t : UnitState) (sites : List Site) (i : ℕ) (d : Site) →
    i < length sites →
    sites_used plan ws s (drop i sites) ≡ sites_used plan ws start sites →
    t ≡ marker_used plan ws (get_or sites i d).address s →
    sites_used plan ws t (drop (i + 1) sites) ≡ sites_used plan ws start sites
unfolding sites_used
used_more plan ws start s t sites i d h so_far here =
    ap (λ (x : UnitState). sites_used plan ws x (drop (i + 1) sites)) here
    ∙ sym (at_drop_more (sites_used plan ws s) sites i d h)
    ∙ so_far

pub used_all :
    (plan : PlanNumbers) (ws : List ℕ) (start s : UnitState) (sites : List Site) (i : ℕ) →
    length sites ≤ i →
    sites_used plan ws s (drop i sites) ≡ sites_used plan ws start sites →
    s ≡ sites_used plan ws start sites
unfolding sites_used
used_all plan ws start s sites i h so_far = sym (at_drop_all (sites_used plan ws s) sites i h) ∙ so_far

-- When two markers are the same.
use Rattle.std.specs.Cmp.Lexicographic.{pointwise}
use Rattle.std.proofs.Common.{◌≡◌, ℕ, eqb, ◌&&◌, List, Decides, ap, ◌∙◌}
use Rattle.std.proofs.lemmas.Bool.Decides.{Decides-and, Decides-eqb, Decides-like}
use Rattle.std.proofs.lemmas.Slice.Eq.{bytes_eq-Decides, slice_eq-Decides}
use Rattle.survey_image.specs.declared.marker.Marker.{Marker}

-- `==` compares each part in turn, and so says whether two markers are the same
pub marker-Decides :
    (a b : Marker) →
    Decides (pointwise eqb a.name b.name && (eqb a.easting b.easting && eqb a.northing b.northing)) (a ≡ b)
marker-Decides a b =
    let made : List ℕ → ℕ → ℕ → Marker = λ n e m. record { name = n; easting = e; northing = m } in
    let P : Type 0 = (a.name ≡ b.name) × ((a.easting ≡ b.easting) × (a.northing ≡ b.northing)) in
    Decides-like
    {P = P}
    _
    (λ same.
    ap (λ n. made n a.easting a.northing) same.0
    ∙ ap (λ e. made b.name e a.northing) same.1.0
    ∙ ap (made b.name b.easting) same.1.1)
    (λ same. (ap (λ m. m.name) same, (ap (λ m. m.easting) same, ap (λ m. m.northing) same)))
    (Decides-and
    _
    _
    (bytes_eq-Decides a.name b.name)
    (Decides-and _ _ (Decides-eqb a.easting b.easting) (Decides-eqb a.northing b.northing)))

-- two lists of markers are equal where the comparison says so
pub ruleset sameness = (slice_eq-Decides, marker-Decides)

-- Markers read by real loads: four words each, two for the name of eight characters, then easting and northing.
use Rattle.std.specs.Prelude.{◌≡◌, ℕ, ◌+◌, ◌/◌, ◌%◌, List, [], ◌∷◌, map, Ok, Err, Result}
use Rattle.page_table.specs.declared.walk.Fault.{Fault}
use Rattle.lanes.specs.declared.width.Width.TheVariants.{Word}
use Rattle.unit_state.specs.Answers.{Answer}
use Rattle.unit_state.specs.declared.state.UnitState.{UnitState}
use Rattle.mmu.specs.Real.{real_load, after_real_load}
use Rattle.paging.specs.Numbers.{PlanNumbers}
use Rattle.survey_image.specs.declared.marker.Marker.{Marker}
use Rattle.survey_image.specs.declared.marker.Site.{Site}

-- the marker that four words spell; the first byte of a word is its highest
abbrev pub marker_of : ℕ → ℕ → ℕ → ℕ → Marker
marker_of first second easting northing =
    record {
      name =
          first / 16777216 % 256
          ∷ first / 65536 % 256
          ∷ first / 256 % 256
          ∷ first % 256
          ∷ second / 16777216 % 256
          ∷ second / 65536 % 256
          ∷ second / 256 % 256
          ∷ second % 256
          ∷ [];
      easting = easting;
      northing = northing;
    }

-- what comes of an answer, where it is accepted
abbrev pub accepting : {X : Type 0} → Answer → (ℕ → Result X Fault) → Result X Fault
accepting (Ok a) next = next a.value
accepting (Err e) next = Err e

-- the marker at a real address, read by four loads, or the first refusal
abbrev pub marker_read : PlanNumbers → List ℕ → ℕ → Result Marker Fault
marker_read plan ws address =
    accepting (real_load plan ws Word address) (λ first.
    accepting (real_load plan ws Word (address + 4)) (λ second.
    accepting (real_load plan ws Word (address + 8)) (λ easting.
    accepting (real_load plan ws Word (address + 12)) (λ northing.
    Ok (marker_of first second easting northing)))))

-- the unit after those loads: each one that is accepted marks its page
abbrev pub marker_used : PlanNumbers → List ℕ → ℕ → UnitState → UnitState
marker_used plan ws address s =
    after_real_load plan ws (address + 12) (after_real_load plan ws (address + 8) (after_real_load plan ws (address + 4) (after_real_load plan ws address s)))

-- the unit after the markers at all sites were read
unfoldable pub sites_used : PlanNumbers → List ℕ → UnitState → List Site → UnitState
sites_used plan ws s [] = s
sites_used plan ws s (site ∷ rest) = sites_used plan ws (marker_used plan ws site.address s) rest

-- the markers at all sites, each of them read by accepted loads
abbrev pub AllRead : PlanNumbers → List ℕ → List Site → List Marker → Type 0
AllRead plan ws sites markers = map (λ s. marker_read plan ws s.address) sites ≡ map (λ m. Ok m) markers

-- The twenty trials, and what comes of the starred ones.
use Rattle.std.specs.Prelude.{◌≡◌, ℕ, Bool, true, false, List, [], ◌∷◌, map, Some, None, Ok, Err, Option, slice_index_or}
use Rattle.refusals.specs.declared.refusal.Refusal.{Refusal}
use Rattle.refusals.specs.declared.refusal.Refusal.TheVariants.{PageFault, LongSearch, EndlessChain, ProtectionRefused, LockRefused}
use Rattle.paging.specs.declared.geometry.PageGeometry.{PageGeometry}
use Rattle.protection.specs.declared.register.SegmentRegister.{SegmentRegister}
use Rattle.protection.specs.declared.access_type.AccessType.TheVariants.{Load, Store}
use Rattle.lanes.specs.declared.width.Width.TheVariants.{Byte, Word}
use Rattle.trials.specs.declared.bench.Target.{Target}
use Rattle.trials.specs.declared.bench.Target.TheVariants.{Nine, Four, Outside}
use Rattle.trials.specs.declared.bench.BenchEntry.{BenchEntry}
use Rattle.trials.specs.declared.bench.Spot.TheVariants.{First, Fifth, EndOfLine, NextLine}
use Rattle.trials.specs.declared.bench.BenchRequest.{BenchRequest}
use Rattle.trials.specs.declared.bench.Trial.{Trial}
use Rattle.trials.specs.declared.bench.TrialOutcome.{TrialOutcome}
use Rattle.trials.specs.Running.{outcome_of}

-- register 1: barred, special, key bit
abbrev register : Bool → Bool → Bool → SegmentRegister
register barred special key = record { present = true; barred = barred; segment = 5; special = special; key = key }

abbrev plain : SegmentRegister
plain = register false false false

abbrev keyed : SegmentRegister
keyed = register false false true

abbrev special : SegmentRegister
special = register false true false

-- entry 9 with the tag of page 6, the last of its chain: key, write bit, transaction ID, lock bits
abbrev entry : ℕ → Bool → ℕ → ℕ → BenchEntry
entry key write transaction locks =
    record { key = key; page = 6; last = true; write = write; transaction = transaction; locks = locks }

abbrev usual : BenchEntry
usual = entry 1 false 0 0

-- entry 9 with the tag of page 38, pointing to itself
abbrev looping : BenchEntry
looping = record { key = 1; page = 38; last = false; write = false; transaction = 0; locks = 0 }

abbrev load_of : ℕ → BenchRequest
load_of page = record { page = page; spot = Fifth; width = Word; access = Load }

abbrev store : BenchRequest
store = record { page = 6; spot = Fifth; width = Word; access = Store }

abbrev trial : SegmentRegister → BenchEntry → BenchRequest → Trial
trial r e q = record { register = r; long_stop = false; target = Nine; entry = e; request = q; again = false }

abbrev chained : Target → BenchEntry → Bool → Trial
chained target e long =
    record { register = plain; long_stop = long; target = target; entry = e; request = load_of 6; again = false }

abbrev pub trials : List Trial
trials =
    trial plain usual (load_of 6)
    ∷ record { register = plain; long_stop = false; target = Nine; entry = usual; request = load_of 6; again = true }
    ∷ trial keyed usual store
    ∷ trial keyed usual (load_of 6)
    ∷ trial keyed (entry 0 false 0 0) (load_of 6)
    ∷ trial plain (entry 3 false 0 0) store
    ∷ trial keyed (entry 2 false 0 0) store
    ∷ trial plain usual (record { page = 7; spot = First; width = Word; access = Load })
    ∷ trial plain usual (load_of 38)
    ∷ trial special (entry 1 true 0 32768) store
    ∷ trial special (entry 1 true 0 0) store
    ∷ trial special (entry 1 false 0 32768) (load_of 6)
    ∷ trial special (entry 1 true 1 32768) (load_of 6)
    ∷ chained Four usual false
    ∷ chained Nine looping true
    ∷ chained Nine looping false
    ∷ chained Outside usual false
    ∷ trial (register true false false) usual (load_of 6)
    ∷ trial special (entry 1 true 0 16384) (record { page = 6; spot = EndOfLine; width = Byte; access = Store })
    ∷ trial special (entry 1 true 0 16384) (record { page = 6; spot = NextLine; width = Byte; access = Store })
    ∷ []

abbrev accepted : ℕ → ℕ → Option ℕ → TrialOutcome
accepted value compared last =
    record { answer = Ok (record { value = value; compared = record { count = compared; last = last } }); exceptions = 0 }

abbrev refused : Refusal → ℕ → Option ℕ → ℕ → TrialOutcome
refused r compared last exceptions =
    record { answer = Err (record { refusal = r; compared = record { count = compared; last = last } }); exceptions = exceptions }

abbrev pub numbers2k : PageGeometry
numbers2k = record { page = 2048; line = 128; width = 17; highest = 127 }

-- the place in the list of trials of each starred trial, and what comes of it: the refusal, the value, the count, the last
-- entry, and the exception register
abbrev pub starred : List (ℕ × TrialOutcome)
starred =
    (0, accepted 287454020 1 (Some 9))
    ∷ (1, accepted 287454020 0 None)
    ∷ (2, refused ProtectionRefused 1 (Some 9) 2)
    ∷ (4, refused ProtectionRefused 1 (Some 9) 4098)
    ∷ (5, refused ProtectionRefused 1 (Some 9) 2)
    ∷ (7, refused PageFault 0 None 4104)
    ∷ (8, refused PageFault 1 (Some 9) 4104)
    ∷ (10, refused LockRefused 1 (Some 9) 1)
    ∷ (12, refused LockRefused 1 (Some 9) 4097)
    ∷ (13, accepted 287454020 2 (Some 9))
    ∷ (14, refused LongSearch 127 (Some 9) 4160)
    ∷ (15, refused EndlessChain 32 (Some 9) 0)
    ∷ []

-- The starred trials come out as the table says.
abbrev pub StarredStand : Type 0
StarredStand =
    map (λ (s : ℕ × TrialOutcome). outcome_of numbers2k (slice_index_or trials s.0 (trial plain usual store))) starred
    ≡ map (λ (s : ℕ × TrialOutcome). s.1) starred

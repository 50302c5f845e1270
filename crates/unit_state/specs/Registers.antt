-- Segment registers.
use Rattle.std.specs.Prelude.{ℕ, ◌<◌, false, cond, List, Some, None, Option, nat_lt, slice_index_or}
use Rattle.refusals.specs.declared.refusal.Refusal.{Refusal}
use Rattle.refusals.specs.declared.refusal.Refusal.TheVariants.{RegisterOutside}
use Rattle.protection.specs.declared.register.SegmentRegister.{SegmentRegister}

-- what a register holds after power-on: an absent segment, and zeros
abbrev pub absent : SegmentRegister
absent = record { present = false; barred = false; segment = 0; special = false; key = false }

-- a segment ID has 12 bits
abbrev pub NarrowIds : List SegmentRegister → Type 0
NarrowIds segments = (i : ℕ) → (slice_index_or segments i absent).segment < 4096

-- There is no register above 15.
abbrev pub number_refusal : ℕ → Option Refusal
number_refusal number = cond (nat_lt 15 number) (Some RegisterOutside) None

-- A segment ID above 4,095 is refused too.
abbrev pub register_refusal : ℕ → SegmentRegister → Option Refusal
register_refusal number r =
    cond (nat_lt 15 number) (Some RegisterOutside) (cond (nat_lt 4095 r.segment) (Some RegisterOutside) None)

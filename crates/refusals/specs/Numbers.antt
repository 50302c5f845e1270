-- The number of each reason to refuse.
use Rattle.std.specs.Prelude.{ℕ}
use Rattle.refusals.specs.declared.refusal.Refusal.{Refusal}
use Rattle.refusals.specs.declared.refusal.Refusal.TheVariants.{
  ExponentOutside,
  BaseTooHigh,
  RegisterOutside,
  SizeDiffers,
  ValueTooWide,
  SegmentAbsent,
  RealAddressOutside,
  SegmentBarred,
  PageFault,
  LongSearch,
  PointerOutside,
  EndlessChain,
  ProtectionRefused,
  LockRefused,
  PageMarkOutside,
  WordOutside,
  MaskTooWide,
  NotADirectory,
}

abbrev pub number_of : Refusal → ℕ
number_of ExponentOutside = 1
number_of BaseTooHigh = 2
number_of RegisterOutside = 3
number_of SizeDiffers = 4
number_of ValueTooWide = 5
number_of SegmentAbsent = 6
number_of RealAddressOutside = 7
number_of SegmentBarred = 8
number_of PageFault = 9
number_of LongSearch = 10
number_of PointerOutside = 11
number_of EndlessChain = 12
number_of ProtectionRefused = 13
number_of LockRefused = 14
number_of PageMarkOutside = 15
number_of WordOutside = 16
number_of MaskTooWide = 17
number_of NotADirectory = 18

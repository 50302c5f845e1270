-- What an exception leaves in the exception registers.
use Rattle.std.specs.Prelude.{ℕ, ◌+◌, Bool, true, false, cond, ◌||◌, Some, None, Option}
use Rattle.refusals.specs.declared.refusal.Refusal.{Refusal}
use Rattle.refusals.specs.declared.refusal.Refusal.TheVariants.{
  ExponentOutside,
  BaseTooHigh,
  RegisterOutside,
  SizeDiffers,
  ValueTooWide,
  SegmentAbsent,
  RealAddressOutside,
  SegmentBarred as BarredRefusal,
  PageFault as PageFaultRefusal,
  LongSearch as LongSearchRefusal,
  PointerOutside,
  EndlessChain,
  ProtectionRefused,
  LockRefused,
  PageMarkOutside,
  WordOutside,
  MaskTooWide,
  NotADirectory,
}
use Rattle.paging.specs.declared.address.EffectiveAddress.{EffectiveAddress}
use Rattle.protection.specs.declared.access_type.AccessType.{AccessType}
use Rattle.protection.specs.Permission.{is_load}
use Rattle.exceptions.specs.declared.registers.Exception.{Exception}
use Rattle.exceptions.specs.declared.registers.Exception.TheVariants.{SegmentBarred, PageFault, LongSearch, Protection, Lock}
use Rattle.exceptions.specs.declared.registers.Causes.{Causes}
use Rattle.exceptions.specs.declared.registers.Exceptions.{Exceptions}

-- The refusals 8, 9, 10, 13 and 14 raise an exception, and no other.
abbrev pub exception_of : Refusal → Option Exception
exception_of ExponentOutside = None
exception_of BaseTooHigh = None
exception_of RegisterOutside = None
exception_of SizeDiffers = None
exception_of ValueTooWide = None
exception_of SegmentAbsent = None
exception_of RealAddressOutside = None
exception_of BarredRefusal = Some SegmentBarred
exception_of PageFaultRefusal = Some PageFault
exception_of LongSearchRefusal = Some LongSearch
exception_of PointerOutside = None
exception_of EndlessChain = None
exception_of ProtectionRefused = Some Protection
exception_of LockRefused = Some Lock
exception_of PageMarkOutside = None
exception_of WordOutside = None
exception_of MaskTooWide = None
exception_of NotADirectory = None

abbrev pub no_causes : Causes
no_causes =
    record {
      segment_barred = false;
      page_fault = false;
      long_stop = false;
      protection = false;
      lock = false;
    }

-- No exception was raised, and the address register is unlocked and zero.
abbrev pub no_exceptions : Exceptions
no_exceptions =
    record { causes = no_causes; multiple = false; load = false; address = record { number = 0 }; locked = false }

abbrev pub any_cause : Causes → Bool
any_cause c = c.segment_barred || (c.page_fault || (c.long_stop || (c.protection || c.lock)))

-- The bit of an exception comes on, and those that are on stay on.
abbrev pub with_cause : Causes → Exception → Causes
with_cause c SegmentBarred =
    record { segment_barred = true; page_fault = c.page_fault; long_stop = c.long_stop; protection = c.protection; lock = c.lock }
with_cause c PageFault =
    record { segment_barred = c.segment_barred; page_fault = true; long_stop = c.long_stop; protection = c.protection; lock = c.lock }
with_cause c LongSearch =
    record { segment_barred = c.segment_barred; page_fault = c.page_fault; long_stop = true; protection = c.protection; lock = c.lock }
with_cause c Protection =
    record { segment_barred = c.segment_barred; page_fault = c.page_fault; long_stop = c.long_stop; protection = true; lock = c.lock }
with_cause c Lock =
    record { segment_barred = c.segment_barred; page_fault = c.page_fault; long_stop = c.long_stop; protection = c.protection; lock = true }

-- If one of the five was on before, the bit for more than one comes on. An address register that is unlocked takes the
-- effective address as it is given, and is locked, and the load bit says whether it was a load; one that is locked stays, and
-- the load bit with it.
abbrev pub raised : Exceptions → Exception → EffectiveAddress → AccessType → Exceptions
raised e x address t =
    record {
      causes = with_cause e.causes x;
      multiple = e.multiple || any_cause e.causes;
      load = cond e.locked e.load (is_load t);
      address = cond e.locked e.address address;
      locked = true;
    }

abbrev pub raised_if : Exceptions → Option Exception → EffectiveAddress → AccessType → Exceptions
raised_if e None address t = e
raised_if e (Some x) address t = raised e x address t

-- what a refusal leaves in the exception registers
abbrev pub noted : Exceptions → Refusal → EffectiveAddress → AccessType → Exceptions
noted e r address t = raised_if e (exception_of r) address t

-- Clearing zeroes the exception register and unlocks the address register, whose address stays.
abbrev pub cleared : Exceptions → Exceptions
cleared e = record { causes = no_causes; multiple = false; load = false; address = e.address; locked = false }

abbrev pub bit : Bool → ℕ → ℕ
bit on value = cond on value 0

-- The exception register as a word. Bit 0 is its highest: V is bit 14, L 19, I 25, M 27, F 28, P 30 and D 31.
abbrev pub word_of : Exceptions → ℕ
word_of e =
    bit e.causes.segment_barred 131072
    + bit e.load 4096
    + bit e.causes.long_stop 64
    + bit e.multiple 16
    + bit e.causes.page_fault 8
    + bit e.causes.protection 2
    + bit e.causes.lock 1

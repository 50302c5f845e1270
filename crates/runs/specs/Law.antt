-- The law over whole runs: what holds of every list of calls, its replies, and the words of the storage at the start and at the
-- end. It speaks of what was called and replied, of the registers, of the page table at the start, and of bytes.
use Rattle.std.specs.Prelude.{◌≡◌, ℕ, zero, suc, ◌+◌, ◌*◌, ◌/◌, ◌%◌, ◌<◌, ◌≤◌, cond, ◌⊎◌, List, [], ◌∷◌, length, Some, None, Ok, Err, Option, nat_lt, slice_index, take}
use Rattle.refusals.specs.declared.refusal.Refusal.{Refusal}
use Rattle.refusals.specs.declared.refusal.Refusal.TheVariants.{ValueTooWide}
use Rattle.paging.specs.declared.address.EffectiveAddress.{EffectiveAddress}
use Rattle.paging.specs.Numbers.{PlanNumbers}
use Rattle.paging.specs.Address.{offset_of}
use Rattle.paging.specs.Plan.{storage_bytes}
use Rattle.page_table.specs.declared.walk.Found.{Found}
use Rattle.lanes.specs.declared.width.Width.{Width}
use Rattle.lanes.specs.Lanes.{bytes_of, value_limit, aligned}
use Rattle.lanes.specs.Bytes.{byte_at, byte_of}
use Rattle.protection.specs.declared.access_type.AccessType.TheVariants
use Rattle.unit_state.specs.declared.answer.Access.{Access}
use Rattle.unit_state.specs.declared.state.UnitState.{UnitState}
use Rattle.unit_state.specs.Answers.{Answer}
use Rattle.unit_state.specs.Translation.{segment_at, tag_at, found_for}
use Rattle.unit_state.specs.Grants.{TableWord, Granted, Closed, real_in, broken_rule}
use Rattle.runs.specs.declared.call.Call.{Call}
use Rattle.runs.specs.declared.call.Call.TheVariants.{Load, Store}
use Rattle.runs.specs.declared.call.Reply.{Reply}
use Rattle.runs.specs.declared.call.Reply.TheVariants.{Request}

-- item k of a list, if there is one
unfoldable pub item : {X : Type 0} → List X → ℕ → Option X
item [] k = None
item (x ∷ xs) zero = Some x
item (x ∷ xs) (suc k) = item xs k

-- call k was a load, or a store, and was accepted
pub record LoadedBy (calls : List Call) (replies : List Reply) (k : ℕ) (address : EffectiveAddress) (w : Width) (value : ℕ) : Type 0 where
  pub called : item calls k ≡ Some (Load address w)
  pub access : Access
  pub accepted : item replies k ≡ Some (Request (Ok access))
  pub value-is : value ≡ access.value

pub record StoredBy (calls : List Call) (replies : List Reply) (k : ℕ) (address : EffectiveAddress) (w : Width) (value : ℕ) : Type 0 where
  pub called : item calls k ≡ Some (Store address w value)
  pub access : Access
  pub accepted : item replies k ≡ Some (Request (Ok access))

-- the virtual address of a byte: a segment ID and an offset of 28 bits
pub record VirtualByte : Type 0 where
  pub segment : ℕ
  pub offset : ℕ

-- that of byte j of a request, 0 the highest
abbrev pub virtual_byte : UnitState → EffectiveAddress → Width → ℕ → VirtualByte
virtual_byte s address w j =
    record { segment = (segment_at s address.number).segment; offset = aligned w (offset_of address.number) + j }

-- Byte j of a request is the byte at a virtual address.
abbrev pub AtVirtual : UnitState → VirtualByte → EffectiveAddress → Width → ℕ → Type 0
AtVirtual s v address w j = virtual_byte s address w j ≡ v

-- Byte j of a request is the byte at a real address: the tables name a page for it, and it lies at its place there.
abbrev pub AtReal : PlanNumbers → List ℕ → UnitState → ℕ → EffectiveAddress → Width → ℕ → Type 0
AtReal plan start s m address w j =
    (x : Found)
    × (found_for plan start s (tag_at plan.form (segment_at s address.number) address.number) ≡ Ok x)
    × (aligned w (real_in plan x address.number) + j ≡ m)

-- Call k was an accepted store that put a byte at some place.
pub record Put (At : EffectiveAddress → Width → ℕ → Type 0) (calls : List Call) (replies : List Reply) (k b : ℕ) : Type 0 where
  pub address : EffectiveAddress
  pub width : Width
  pub value : ℕ
  pub stored : StoredBy calls replies k address width value
  pub j : ℕ
  pub inside : j < bytes_of width
  pub here : At address width j
  pub byte : b ≡ byte_of width value j

-- A byte is the one that was put there last before call k, or nothing was put there and it is as it was at the start.
abbrev pub Last : (ℕ → ℕ → Type 0) → ℕ → ℕ → Type 0 → Type 0
Last Puts k b AtStart =
    ((i : ℕ) × (i < k) × Puts i b × ((h c : ℕ) → i < h → h < k → Puts h c → ⊥))
    ⊎ (((h c : ℕ) → h < k → Puts h c → ⊥) × AtStart)

-- the byte that stood at the start at a virtual address: at the same offset of the page that the tables name
abbrev pub StartByte : PlanNumbers → List ℕ → UnitState → VirtualByte → ℕ → Type 0
StartByte plan start s v b =
    (x : Found)
    × (found_for plan start s (record { segment = v.segment; page = v.offset / plan.form.page }) ≡ Ok x)
    × (b ≡ byte_at start (x.entry * plan.form.page + v.offset % plan.form.page))

-- Each byte of an accepted load is the one that an accepted store earlier in the run last put at its virtual address or,
-- without one, the byte that stood there at the start. There is nothing above its bytes.
abbrev pub LastStored : PlanNumbers → UnitState → List Call → List ℕ → List Reply → Type 0
LastStored plan s calls start replies =
    (k : ℕ) (address : EffectiveAddress) (w : Width) (value : ℕ) →
    LoadedBy calls replies k address w value →
    (value < value_limit w)
    × ((j : ℕ) →
    j < bytes_of w →
    Last
    (Put (AtVirtual s (virtual_byte s address w j)) calls replies)
    k
    (byte_of w value j)
    (StartByte plan start s (virtual_byte s address w j) (byte_of w value j)))

-- Each byte of the storage at the end is the one that the last accepted store which reaches it put there or, without one, the
-- byte at the start.
abbrev pub Ended : PlanNumbers → UnitState → List Call → List ℕ → List ℕ → List Reply → Type 0
Ended plan s calls start end replies =
    (m : ℕ) →
    m < 4 * length start →
    Last (Put (AtReal plan start s m) calls replies) (length calls) (byte_at end m) (byte_at end m ≡ byte_at start m)

-- Every word that is not granted for storing holds at the end what it held at the start.
abbrev pub Untouched : PlanNumbers → UnitState → List ℕ → List ℕ → Type 0
Untouched plan s start end =
    (length end ≡ length start)
    × ((n : ℕ) → (Granted plan start s TheVariants.Store n → ⊥) → slice_index end n ≡ slice_index start n)

-- the refusal of what is refused
abbrev pub refusal_in : Answer → Option Refusal
refusal_in (Ok a) = None
refusal_in (Err e) = Some e.refusal

-- Each request is accepted exactly where it breaks no rule by the tables at the start, and refused by the first that it breaks.
pub record Judged (plan : PlanNumbers) (s : UnitState) (calls : List Call) (start : List ℕ) (replies : List Reply) : Type 0 where
  pub replied : length replies ≡ length calls
  pub loads :
      (k : ℕ) (address : EffectiveAddress) (w : Width) →
      item calls k ≡ Some (Load address w) →
      (r : Answer)
      × (item replies k ≡ Some (Request r))
      × (refusal_in r ≡ broken_rule plan start s address.number TheVariants.Load)
  pub stores :
      (k : ℕ) (address : EffectiveAddress) (w : Width) (value : ℕ) →
      item calls k ≡ Some (Store address w value) →
      (r : Answer)
      × (item replies k ≡ Some (Request r))
      × (refusal_in r
      ≡ cond (nat_lt value (value_limit w)) (broken_rule plan start s address.number TheVariants.Store) (Some ValueTooWide))

-- one storage
pub record Lawful (plan : PlanNumbers) (s : UnitState) (calls : List Call) (start end : List ℕ) (replies : List Reply) : Type 0 where
  pub untouched : Untouched plan s start end
  pub last-stored : LastStored plan s calls start replies
  pub judged : Judged plan s calls start replies
  pub ended : Ended plan s calls start end replies

-- It holds after every call: of the first k calls, their replies and the words that they leave, which `ended` says.
abbrev pub Throughout : PlanNumbers → UnitState → List Call → List ℕ → List ℕ → List Reply → Type 0
Throughout plan s calls start end replies =
    Lawful plan s calls start end replies
    × ((k : ℕ) → k ≤ length calls → (between : List ℕ) × Lawful plan s (take k calls) start between (take k replies))

-- two storages of the plan's size, alike in the words of the table and in those that are granted for loading
pub record Alike (plan : PlanNumbers) (s : UnitState) (start start' : List ℕ) : Type 0 where
  pub sized : 4 * length start ≡ storage_bytes plan.exponent
  pub sized' : 4 * length start' ≡ storage_bytes plan.exponent
  pub table : (n : ℕ) → TableWord plan n → slice_index start n ≡ slice_index start' n
  pub granted : (n : ℕ) → Granted plan start s TheVariants.Load n → slice_index start n ≡ slice_index start' n

-- the same calls on two storages, each of a unit that begins with the same registers, where no table word is granted for storing
pub record Twice (plan : PlanNumbers) (s : UnitState) (calls : List Call) (start end : List ℕ) (replies : List Reply) (start' end' : List ℕ) (replies' : List Reply) : Type 0 where
  pub one : Closed plan start s → Throughout plan s calls start end replies
  pub two : Closed plan start' s → Throughout plan s calls start' end' replies'
  pub isolated : Closed plan start s → Alike plan s start start' → replies ≡ replies'

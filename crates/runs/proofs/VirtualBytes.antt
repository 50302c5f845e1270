-- Virtual and real addresses of the bytes of requests: each virtual byte that the tables name lies at one real address, and no
-- two lie at one.
use Rattle.std.proofs.Common.{◌≡◌, ℕ, ◌+◌, ◌*◌, ◌/◌, ◌%◌, ◌<◌, List, Ok, sym, ap, ◌∙◌, subst, ⊎_elim, arith}
use native.Mathlib.Nat.{div-add-mod}
use Rattle.paging.specs.declared.geometry.PageGeometry.{PageGeometry}
use Rattle.paging.specs.declared.address.EffectiveAddress.{EffectiveAddress}
use Rattle.paging.specs.Numbers.{PlanNumbers}
use Rattle.paging.specs.Address.{offset_of, place_in_page}
use Rattle.paging.proofs.Pages.{Wide, Whole, page_length}
use Rattle.page_table.specs.declared.entry.Tag.{Tag}
use Rattle.page_table.specs.declared.walk.Found.{Found}
use Rattle.page_table.specs.Search.{Outcome, query_of}
use Rattle.page_table.specs.Laws.{entry_at}
use Rattle.lanes.specs.declared.width.Width.{Width}
use Rattle.lanes.specs.declared.width.Width.TheVariants.{Byte, Halfword, Word}
use Rattle.lanes.specs.Lanes.{bytes_of, aligned}
use Rattle.unit_state.specs.declared.state.UnitState.{UnitState}
use Rattle.unit_state.specs.Translation.{segment_at, tag_at, found_for}
use Rattle.unit_state.proofs.Locating.{found_well}
use Rattle.runs.specs.Law.{VirtualByte, virtual_byte, AtReal}

-- what holds of both page lengths holds of every form's
lengths :
    (f : PageGeometry) (P : ℕ → Type 0) → Wide f → Whole f → P 2048 → P 4096 → P f.page
lengths f P wide whole short long =
    ⊎_elim (λ p. subst P (sym p) short) (λ p. subst P (sym p) long) (page_length f wide whole)

-- An aligned unit lies whole in one page, and at one place of the virtual and of the real one.
aligned_page :
    (f : PageGeometry) (w : Width) (offset j : ℕ) → Wide f → Whole f → j < bytes_of w → (aligned w offset + j) / f.page ≡ offset / f.page
aligned_page f Byte offset j wide whole h =
    lengths f (λ p. (offset / 1 * 1 + j) / p ≡ offset / p) wide whole (omega arith) (omega arith)
aligned_page f Halfword offset j wide whole h =
    lengths f (λ p. (offset / 2 * 2 + j) / p ≡ offset / p) wide whole (omega arith) (omega arith)
aligned_page f Word offset j wide whole h =
    lengths f (λ p. (offset / 4 * 4 + j) / p ≡ offset / p) wide whole (omega arith) (omega arith)

aligned_place :
    (f : PageGeometry) (w : Width) (entry offset j : ℕ) →
    Wide f →
    Whole f →
    j < bytes_of w →
    aligned w (entry * f.page + place_in_page f offset) + j ≡ entry * f.page + (aligned w offset + j) % f.page
aligned_place f Byte entry offset j wide whole h =
    lengths f (λ p. (entry * p + offset % p) / 1 * 1 + j ≡ entry * p + (offset / 1 * 1 + j) % p) wide whole (omega arith) (omega arith)
aligned_place f Halfword entry offset j wide whole h =
    lengths f (λ p. (entry * p + offset % p) / 2 * 2 + j ≡ entry * p + (offset / 2 * 2 + j) % p) wide whole (omega arith) (omega arith)
aligned_place f Word entry offset j wide whole h =
    lengths f (λ p. (entry * p + offset % p) / 4 * 4 + j ≡ entry * p + (offset / 4 * 4 + j) % p) wide whole (omega arith) (omega arith)

abbrev pub tag_of_byte : PageGeometry → VirtualByte → Tag
tag_of_byte f v = record { segment = v.segment; page = v.offset / f.page }

-- The tables name a page for a virtual byte, and it lies at a real address in it.
pub record RealOf (plan : PlanNumbers) (start : List ℕ) (s : UnitState) (v : VirtualByte) (m : ℕ) : Type 0 where
  pub found : Found
  pub named : found_for plan start s (tag_of_byte plan.form v) ≡ Ok found
  pub place : found.entry * plan.form.page + v.offset % plan.form.page ≡ m

-- the tag of a byte of a request is that of the request
byte_tag :
    (f : PageGeometry) (s : UnitState) (address : EffectiveAddress) (w : Width) (j : ℕ) →
    Wide f →
    Whole f →
    j < bytes_of w →
    tag_of_byte f (virtual_byte s address w j) ≡ tag_at f (segment_at s address.number) address.number
byte_tag f s address w j wide whole h =
    ap
    (λ (page : ℕ). record { segment = (segment_at s address.number).segment; page = page })
    (aligned_page f w (offset_of address.number) j wide whole h)

pub real_from :
    (plan : PlanNumbers) (start : List ℕ) (s : UnitState) (m : ℕ) (address : EffectiveAddress) (w : Width) (j : ℕ) →
    Wide plan.form →
    Whole plan.form →
    j < bytes_of w →
    AtReal plan start s m address w j →
    RealOf plan start s (virtual_byte s address w j) m
real_from plan start s m address w j wide whole h at =
    record {
      found = at.0;
      named = ap (found_for plan start s) (byte_tag plan.form s address w j wide whole h) ∙ at.1;
      place = sym (aligned_place plan.form w at.0.entry (offset_of address.number) j wide whole h) ∙ at.2;
    }

pub real_to :
    (plan : PlanNumbers) (start : List ℕ) (s : UnitState) (m : ℕ) (address : EffectiveAddress) (w : Width) (j : ℕ) →
    Wide plan.form →
    Whole plan.form →
    j < bytes_of w →
    RealOf plan start s (virtual_byte s address w j) m →
    AtReal plan start s m address w j
real_to plan start s m address w j wide whole h real = (
  real.found,
  ap (found_for plan start s) (sym (byte_tag plan.form s address w j wide whole h)) ∙ real.named,
  aligned_place plan.form w real.found.entry (offset_of address.number) j wide whole h ∙ real.place,
)

found_once : (r : Outcome) (x y : Found) → r ≡ Ok x → r ≡ Ok y → x ≡ y
found_once r x y one other = let both : Ok x ≡ Ok y = sym one ∙ other in cc

-- a virtual byte lies at one real address
pub real_once :
    (plan : PlanNumbers) (start : List ℕ) (s : UnitState) (v : VirtualByte) (m n : ℕ) →
    RealOf plan start s v m →
    RealOf plan start s v n →
    m ≡ n
real_once plan start s v m n one other =
    let same = found_once (found_for plan start s (tag_of_byte plan.form v)) one.found other.found one.named other.named in
    sym one.place ∙ ap (λ (x : Found). x.entry * plan.form.page + v.offset % plan.form.page) same ∙ other.place

-- an entry and a place in its page are those of their real address
parted :
    (f : PageGeometry) (e d o p : ℕ) →
    Wide f →
    Whole f →
    e * f.page + o % f.page ≡ d * f.page + p % f.page →
    (e ≡ d) × (o % f.page ≡ p % f.page)
parted f e d o p wide whole =
    lengths
    f
    (λ l. e * l + o % l ≡ d * l + p % l → (e ≡ d) × (o % l ≡ p % l))
    wide
    whole
    (λ h. (omega arith, omega arith))
    (λ h. (omega arith, omega arith))

-- an offset is that of its page and of its place there
joined : (f : PageGeometry) (o p : ℕ) → o / f.page ≡ p / f.page → o % f.page ≡ p % f.page → o ≡ p
joined f o p pages places =
    sym (div-add-mod o f.page) ∙ ap (λ (x : ℕ). f.page * x + o % f.page) pages ∙ ap (λ (x : ℕ). f.page * (p / f.page) + x) places ∙ div-add-mod p f.page

-- no two virtual bytes lie at one real address
pub virtual_once :
    (plan : PlanNumbers) (start : List ℕ) (s : UnitState) (v u : VirtualByte) (m : ℕ) →
    Wide plan.form →
    Whole plan.form →
    RealOf plan start s v m →
    RealOf plan start s u m →
    v ≡ u
virtual_once plan start s v u m wide whole one other =
    let f = plan.form in
    let q : Tag → _ = query_of plan s.long_stop in
    let parts = parted f one.found.entry other.found.entry v.offset u.offset wide whole (one.place ∙ sym other.place) in
    let a = found_well plan start s (tag_of_byte f v) one.found one.named in
    let b = found_well plan start s (tag_of_byte f u) other.found other.named in
    let tags : tag_of_byte f v ≡ tag_of_byte f u =
    sym a.tagged
    ∙ ap (λ (x : _). x.tag) (a.says ∙ ap (entry_at f start (q (tag_of_byte f v))) parts.0 ∙ sym b.says)
    ∙ b.tagged
    in
    let offset = joined f v.offset u.offset (ap (λ (t : Tag). t.page) tags) parts.1 in
    ap (λ (n : ℕ). record { segment = n; offset = v.offset }) (ap (λ (t : Tag). t.segment) tags)
    ∙ ap (λ (n : ℕ). record { segment = u.segment; offset = n }) offset

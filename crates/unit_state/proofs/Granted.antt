-- What is decided of a word is what is granted.
use Rattle.std.proofs.Common.{◌≡◌, ℕ, suc, ◌+◌, ◌*◌, ◌/◌, ◌%◌, ◌^◌, ◌<◌, ◌≤◌, Bool, true, false, not, cond, ◌&&◌, ◌⊎◌, eqb, ltb, List, [], ◌∷◌, length, get_or, Some, None, Ok, Err, Option, Result, Decides, sym, refl, ap, ◌∙◌, subst, inl, inr, ⊎_elim, arith, pow_pos}
use Rattle.std.specs.List.{list_any}
use Rattle.std.proofs.lemmas.Bool.{and_parts, and_from, or_cases, and_left, and_right, both_ways, not-true, not_from_false, cond-true, eqb-true, eq-eqb, lt-ltb, le-ltb, cases_lt}
use Rattle.std.proofs.lemmas.Bool.Decides.{Decides-at}
use Rattle.std.proofs.lemmas.Nat.{mod_below}
use Rattle.std.proofs.lemmas.List.{get_or_past}
use Rattle.std.proofs.lemmas.List.Folds.{list_any_at}
use Rattle.std.proofs.lemmas.Option.{none-some}
use Rattle.refusals.specs.declared.refusal.Refusal.{Refusal}
use Rattle.refusals.specs.declared.refusal.Refusal.TheVariants.{WordOutside}
use Rattle.paging.specs.declared.geometry.PageGeometry.{PageGeometry}
use Rattle.paging.specs.declared.form.PageForm.{Ghosts}
use Rattle.paging.specs.declared.plan.SettledPlan.{SettledPlan}
use Rattle.paging.specs.Numbers.{PlanNumbers, numbers_of}
use Rattle.paging.specs.Address.{register_of, offset_of, line_of}
use Rattle.paging.specs.Plan.{page_count, storage_bytes, table_start}
use Rattle.paging.proofs.Pages.{Wide, Whole, Bases, page_length, table_inside}
use Rattle.page_table.specs.declared.entry.Tag.{Tag}
use Rattle.page_table.specs.declared.entry.PageEntry.{PageEntry}
use Rattle.page_table.specs.declared.walk.Found.{Found}
use Rattle.page_table.specs.Entry.{tag_of}
use Rattle.page_table.specs.Search.{Outcome, read_then}
use Rattle.protection.specs.declared.register.SegmentRegister.{SegmentRegister}
use Rattle.protection.specs.declared.access_type.AccessType.{AccessType}
use Rattle.protection.specs.Permission.{key_permits, lock_bit, locks_permit, permitted}
use Rattle.unit_state.specs.declared.state.UnitState.{UnitState}
use Rattle.unit_state.specs.Registers.{absent}
use Rattle.unit_state.specs.Translation.{segment_at, tag_at, found_for}
use Rattle.unit_state.specs.Grants.{Granted}
use Rattle.unit_state.specs.Deciding.{page_if, held_page, offset_in, opens, some_opens, grants}
use Rattle.unit_state.proofs.Locating.{found_well}
use Rattle.unit_state.proofs.Passing.{Planned, place_inside, found_inside}

-- the rules of a settled plan, and of its form
pub record Settled (plan : PlanNumbers) : Type 0 where
  pub planned : Planned plan.form plan.exponent
  pub lines : plan.form.page ≡ 16 * plan.form.line
  pub bases : Bases plan.form
  pub low : plan.base ≤ plan.form.highest

-- every plan of a form has them
pub settled_plan :
    {F : Type 0} {g : Ghosts F} (plan : SettledPlan F g) →
    Wide g.sizes →
    Whole g.sizes →
    g.sizes.page ≡ 16 * g.sizes.line →
    Bases g.sizes →
    Settled (numbers_of plan)
settled_plan plan wide whole lines bases =
    record { planned = record { wide = wide; whole = whole; large = plan.large }; lines = lines; bases = bases; low = plan.base.low }

-- what holds of both page and line lengths holds of every form's
lengths :
    (f : PageGeometry) (P : ℕ → ℕ → Type 0) →
    Wide f →
    Whole f →
    f.page ≡ 16 * f.line →
    P 2048 128 →
    P 4096 256 →
    P f.page f.line
lengths f P wide whole lines short long =
    ⊎_elim
    (λ (p : f.page ≡ 2048). let l : f.line ≡ 128 = omega arith in subst (λ x. P x f.line) (sym p) (subst (P 2048) (sym l) short))
    (λ (p : f.page ≡ 4096). let l : f.line ≡ 256 = omega arith in subst (λ x. P x f.line) (sym p) (subst (P 4096) (sym l) long))
    (page_length f wide whole)

-- A page number and a place in the page make up an offset of 28 bits.
offset_short :
    (f : PageGeometry) (page place : ℕ) → Wide f → Whole f → page < 2 ^ f.width → place < f.page → page * f.page + place < 2 ^ 28
offset_short f page place (inl w) whole narrow inside =
    let length : f.page * 65536 ≡ 268435456 = subst (λ (x : ℕ). f.page * 2 ^ x ≡ 2 ^ 28) w whole in
    let long : f.page ≡ 4096 = omega arith in
    let low : page < 65536 = subst (λ (x : ℕ). page < 2 ^ x) w narrow in
    subst (λ (x : ℕ). place < x → page * x + place < 2 ^ 28) (sym long) (λ near. omega arith) inside
offset_short f page place (inr w) whole narrow inside =
    let length : f.page * 131072 ≡ 268435456 = subst (λ (x : ℕ). f.page * 2 ^ x ≡ 2 ^ 28) w whole in
    let long : f.page ≡ 2048 = omega arith in
    let low : page < 131072 = subst (λ (x : ℕ). page < 2 ^ x) w narrow in
    subst (λ (x : ℕ). place < x → page * x + place < 2 ^ 28) (sym long) (λ near. omega arith) inside

-- A page number has the width of its form, and a segment ID 12 bits.
tag_narrow : (f : PageGeometry) (w : ℕ) → ((tag_of f w).segment < 2 ^ 12) × ((tag_of f w).page < 2 ^ f.width)
tag_narrow f w = (mod_below _ (2 ^ 12) (omega arith), mod_below _ (2 ^ f.width) (pow_pos f.width))

-- What a page holds is what the search for its tag finds.
pub record Held (plan : PlanNumbers) (ws : List ℕ) (s : UnitState) (i : ℕ) (page : PageEntry) : Type 0 where
  pub found : Found
  pub named : found_for plan ws s page.tag ≡ Ok found
  pub entry : found.entry ≡ i
  pub says : found.page ≡ page
  pub narrow : page.tag.segment < 2 ^ 12
  pub short : page.tag.page < 2 ^ plan.form.width

pub held_from :
    (plan : PlanNumbers) (ws : List ℕ) (s : UnitState) (i : ℕ) (page : PageEntry) →
    held_page plan ws s i ≡ Some page →
    Held plan ws s i page
held_from plan ws s i page e = reads (ltb place (length ws)) e
  where
    place : ℕ
    place = table_start plan.form plan.exponent plan.base / 4 + 4 * i

    tag : Tag
    tag = tag_of plan.form (get_or ws place 0)

    same : (x : Found) (b : Bool) → found_for plan ws s tag ≡ Ok x → eqb x.entry i ≡ b → cond b (Some x.page) None ≡ Some page → Held plan ws s i page
    same x false is test e = absurd (none-some page e)
    same x true is test e =
        let says : x.page ≡ page = cc in
        let tagged : page.tag ≡ tag = ap (λ (p : PageEntry). p.tag) (sym says) ∙ (found_well plan ws s tag x is).tagged in
        let bounds = tag_narrow plan.form (get_or ws place 0) in
        record {
          found = x;
          named = ap (found_for plan ws s) tagged ∙ is;
          entry = eqb-true _ _ test;
          says = says;
          narrow = subst (λ (y : Tag). y.segment < 2 ^ 12) (sym tagged) bounds.0;
          short = subst (λ (y : Tag). y.page < 2 ^ plan.form.width) (sym tagged) bounds.1;
        }

    finds : (r : Outcome) → found_for plan ws s tag ≡ r → page_if i r ≡ Some page → Held plan ws s i page
    finds (Ok x) is e = same x (eqb x.entry i) is refl e
    finds (Err fault) is e = absurd (none-some page e)

    reads :
        (b : Bool) →
        read_then {X = Option PageEntry} (cond b (Ok (get_or ws place 0)) (Err WordOutside)) (λ r. None) (λ w. page_if i (found_for plan ws s (tag_of plan.form w))) ≡ Some page →
        Held plan ws s i page
    reads true e = finds (found_for plan ws s tag) refl e
    reads false e = absurd (none-some page e)

-- an element that passes a test, where some element does
any_place : {X : Type 0} (p : X → Bool) (xs : List X) (d : X) → list_any p xs ≡ true → (k : ℕ) × (p (get_or xs k d) ≡ true)
any_place p [] d e = absurd (both_ways false refl e)
any_place p (x ∷ xs) d e =
    ⊎_elim (λ here. (0, here)) (λ rest. let at = any_place p xs d rest in (suc at.0, at.1)) (or_cases (p x) (list_any p xs) e)

-- an offset made of a page number and a place, and an address made of a register number and an offset
parts_of_offset :
    (f : PageGeometry) (page n : ℕ) →
    Wide f →
    Whole f →
    f.page ≡ 16 * f.line →
    ((page * f.page + 4 * n % f.page) / f.page ≡ page) × (n ≡ (4 * n / f.page * f.page + (page * f.page + 4 * n % f.page) % f.page) / 4)
parts_of_offset f page n wide whole lines =
    lengths
    f
    (λ p l. ((page * p + 4 * n % p) / p ≡ page) × (n ≡ (4 * n / p * p + (page * p + 4 * n % p) % p) / 4))
    wide
    whole
    lines
    (omega arith, omega arith)
    (omega arith, omega arith)

parts_of_address : (k offset : ℕ) → offset < 2 ^ 28 → (register_of (k * 2 ^ 28 + offset) ≡ k) × (offset_of (k * 2 ^ 28 + offset) ≡ offset)
parts_of_address k offset short = (omega arith, omega arith)

place_short : (f : PageGeometry) (n : ℕ) → Wide f → Whole f → n % f.page < f.page
place_short f n wide whole =
    mod_below n f.page (⊎_elim (λ (p : f.page ≡ 2048). omega arith) (λ (p : f.page ≡ 4096). omega arith) (page_length f wide whole))

-- where a register opens the page of a word, the address through it leads to the word
granted_by :
    (plan : PlanNumbers) (ws : List ℕ) (s : UnitState) (t : AccessType) (n : ℕ) (page : PageEntry) →
    Settled plan →
    4 * length ws ≡ storage_bytes plan.exponent →
    Held plan ws s (4 * n / plan.form.page) page →
    some_opens plan.form s t n (Some page) ≡ true →
    Granted plan ws s t n
granted_by plan ws s t n page settled sized held e =
    let f = plan.form in
    let wide = settled.planned.wide in
    let whole = settled.planned.whole in
    let offset = offset_in f page.tag (4 * n % f.page) in
    let at = any_place (opens f page s.transaction offset t) s.segments absent e in
    let r = get_or s.segments at.0 absent in
    let present = and_parts r.present _ at.1 in
    let unbarred = and_parts (not r.barred) _ present.1 in
    let segment = and_parts (eqb r.segment page.tag.segment) _ unbarred.1 in
    let address = at.0 * 2 ^ 28 + offset in
    let short = offset_short f page.tag.page (4 * n % f.page) wide whole held.short (place_short f (4 * n) wide whole) in
    let parts = parts_of_address at.0 offset short in
    let places = parts_of_offset f page.tag.page n wide whole settled.lines in
    let register : segment_at s address ≡ r = ap (λ (k : ℕ). get_or s.segments k absent) parts.0 in
    let tag : tag_at f (segment_at s address) address ≡ page.tag =
    ap (λ (x : SegmentRegister). tag_at f x address) register
    ∙ ap (λ (o : ℕ). record { segment = r.segment; page = o / f.page }) parts.1
    ∙ ap (λ (v : ℕ). record { segment = r.segment; page = v }) places.0
    ∙ ap (λ (i : ℕ). record { segment = i; page = page.tag.page }) (eqb-true _ _ segment.0)
    in
    record {
      address = address;
      passes = record {
        sized = sized;
        present = ap (λ (x : SegmentRegister). x.present) register ∙ present.0;
        unbarred = ap (λ (x : SegmentRegister). x.barred) register ∙ not-true r.barred unbarred.0;
        found = held.found;
        named = ap (found_for plan ws s) tag ∙ held.named;
        permits =
            ap (λ (x : SegmentRegister). permitted f x held.found.page s.transaction (offset_of address) t) register
            ∙ ap (λ (x : PageEntry). permitted f r x s.transaction (offset_of address) t) held.says
            ∙ ap (λ (o : ℕ). permitted f r page s.transaction o t) parts.1
            ∙ segment.1;
      };
      word =
          places.1
          ∙ ap (λ (i : ℕ). (i * f.page + offset % f.page) / 4) (sym held.entry)
          ∙ ap (λ (o : ℕ). (held.found.entry * f.page + o % f.page) / 4) (sym parts.1);
    }

granted_from :
    (plan : PlanNumbers) (ws : List ℕ) (s : UnitState) (t : AccessType) (n : ℕ) →
    Settled plan →
    grants plan ws s t n ≡ true →
    Granted plan ws s t n
granted_from plan ws s t n settled e =
    let sized = and_parts (eqb (4 * length ws) (storage_bytes plan.exponent)) _ e in
    let inside = and_parts (ltb n (length ws)) _ sized.1 in
    holds (eqb-true _ _ sized.0) (held_page plan ws s (4 * n / plan.form.page)) refl inside.1
  where
    holds :
        4 * length ws ≡ storage_bytes plan.exponent →
        (h : Option PageEntry) →
        held_page plan ws s (4 * n / plan.form.page) ≡ h →
        some_opens plan.form s t n h ≡ true →
        Granted plan ws s t n
    holds sized None is e = absurd (both_ways false refl e)
    holds sized (Some page) is e = granted_by plan ws s t n page settled sized (held_from plan ws s (4 * n / plan.form.page) page is) e

-- the word of an address lies in the entry's page, and in the line of its offset
places_of_word :
    (f : PageGeometry) (entry offset page n : ℕ) →
    Wide f →
    Whole f →
    f.page ≡ 16 * f.line →
    n ≡ (entry * f.page + offset % f.page) / 4 →
    (4 * n / f.page ≡ entry) × (line_of f (page * f.page + 4 * n % f.page) ≡ line_of f offset)
places_of_word f entry offset page n wide whole lines =
    lengths
    f
    (λ p l. n ≡ (entry * p + offset % p) / 4 → (4 * n / p ≡ entry) × ((page * p + 4 * n % p) % p / l ≡ offset % p / l))
    wide
    whole
    lines
    (λ is. (omega arith, omega arith))
    (λ is. (omega arith, omega arith))

word_inside : (start pages bytes words i : ℕ) → start + 16 * pages ≤ bytes → 4 * words ≡ bytes → i < pages → start / 4 + 4 * i < words
word_inside start pages bytes words i table sized inside = omega arith

-- where the search for a tag finds an entry, its page holds what was found
held_to :
    (plan : PlanNumbers) (ws : List ℕ) (s : UnitState) (tag : Tag) (x : Found) →
    Settled plan →
    4 * length ws ≡ storage_bytes plan.exponent →
    found_for plan ws s tag ≡ Ok x →
    held_page plan ws s x.entry ≡ Some x.page
held_to plan ws s tag x settled sized named =
    let f = plan.form in
    let start = table_start f plan.exponent plan.base in
    let place = start / 4 + 4 * x.entry in
    let says = found_well plan ws s tag x named in
    let table = table_inside f plan.exponent plan.base settled.bases settled.low in
    let inside = word_inside start (page_count f plan.exponent) (storage_bytes plan.exponent) (length ws) x.entry table sized says.inside in
    let tags : tag_of f (get_or ws place 0) ≡ tag = ap (λ (p : PageEntry). p.tag) (sym says.says) ∙ says.tagged in
    let read : cond {A = Result ℕ Refusal} (ltb place (length ws)) (Ok (get_or ws place 0)) (Err WordOutside) ≡ Ok (get_or ws place 0) = cond-true _ _ _ (lt-ltb _ _ inside) in
    ap (λ (r : Result ℕ Refusal). read_then {X = Option PageEntry} r (λ e. None) (λ w. page_if x.entry (found_for plan ws s (tag_of f w)))) read
    ∙ ap (λ (y : Tag). page_if x.entry (found_for plan ws s y)) tags
    ∙ ap (page_if x.entry) named
    ∙ cond-true (eqb x.entry x.entry) _ _ (eq-eqb x.entry x.entry refl)

-- a register that is present is one of the registers
present_inside : (segments : List SegmentRegister) (k : ℕ) → (get_or segments k absent).present ≡ true → k < length segments
present_inside segments k e =
    ⊎_elim
    (λ (inside : k < length segments). inside)
    (λ (past : length segments ≤ k).
    absurd (both_ways _ (ap (λ (r : SegmentRegister). r.present) (get_or_past segments k absent past)) e))
    (cases_lt k (length segments))

-- permission goes by the line
permitted_line :
    (f : PageGeometry) (r : SegmentRegister) (page : PageEntry) (transaction o p : ℕ) (t : AccessType) →
    line_of f o ≡ line_of f p →
    permitted f r page transaction o t ≡ permitted f r page transaction p t
permitted_line f r page transaction o p t e =
    ap
    (λ (line : ℕ).
    cond
    r.special
    (eqb page.transaction transaction && locks_permit page.write (lock_bit page.locks line) t)
    (key_permits page.key r.key t))
    e

granted_to :
    (plan : PlanNumbers) (ws : List ℕ) (s : UnitState) (t : AccessType) (n : ℕ) →
    Settled plan →
    Granted plan ws s t n →
    grants plan ws s t n ≡ true
granted_to plan ws s t n settled granted =
    let f = plan.form in
    let address = granted.address in
    let pass = granted.passes in
    let x = pass.found in
    let r = segment_at s address in
    let tag = tag_at f r address in
    let offset = offset_of address in
    let places = places_of_word f x.entry offset x.page.tag.page n settled.planned.wide settled.planned.whole settled.lines granted.word in
    let says = found_well plan ws s tag x pass.named in
    let number = register_of address in
    let inside = place_inside f plan.exponent x.entry offset ws settled.planned pass.sized (found_inside plan ws s address t pass) in
    let low : n < length ws = subst (λ (m : ℕ). m < length ws) (sym granted.word) inside in
    let holds : held_page plan ws s (4 * n / f.page) ≡ Some x.page =
    ap (held_page plan ws s) places.0 ∙ held_to plan ws s tag x settled pass.sized pass.named
    in
    let segment : r.segment ≡ x.page.tag.segment = ap (λ (y : Tag). y.segment) (sym says.tagged) in
    let permits = permitted_line f r x.page s.transaction (offset_in f x.page.tag (4 * n % f.page)) offset t places.1 ∙ pass.permits in
    let opening : opens f x.page s.transaction (offset_in f x.page.tag (4 * n % f.page)) t r ≡ true =
    and_from r.present _ pass.present (and_from (not r.barred) _ (not_from_false r.barred pass.unbarred) (and_from (eqb r.segment x.page.tag.segment) _ (eq-eqb _ _ segment) permits))
    in
    let some : some_opens f s t n (Some x.page) ≡ true =
    list_any_at (opens f x.page s.transaction (offset_in f x.page.tag (4 * n % f.page)) t) s.segments number absent (present_inside s.segments number pass.present) opening
    in
    and_from (eqb (4 * length ws) (storage_bytes plan.exponent)) _ (eq-eqb _ _ pass.sized) (and_from (ltb n (length ws)) _ (lt-ltb _ _ low) (ap (some_opens f s t n) holds ∙ some))

-- What is decided is exact.
grants_exact :
    (plan : PlanNumbers) (ws : List ℕ) (s : UnitState) (t : AccessType) (n : ℕ) →
    Settled plan →
    Decides (grants plan ws s t n) (Granted plan ws s t n)
grants_exact plan ws s t n settled = (granted_from plan ws s t n settled, granted_to plan ws s t n settled)

-- A word of a storage that has the plan's size is granted exactly where the page that it lies in is held and opened.
pub decided_inside :
    (plan : PlanNumbers) (ws : List ℕ) (s : UnitState) (t : AccessType) (n : ℕ) (f : PageGeometry) (h : Option PageEntry) →
    Settled plan →
    f ≡ plan.form →
    eqb (4 * length ws) (storage_bytes plan.exponent) ≡ true →
    n < length ws →
    h ≡ held_page plan ws s (4 * n / f.page) →
    Decides (some_opens plan.form s t n h) (Granted plan ws s t n)
decided_inside plan ws s t n f h settled form sized inside is =
    let open_in : Bool = some_opens plan.form s t n (held_page plan ws s (4 * n / plan.form.page)) in
    let same : some_opens plan.form s t n h ≡ grants plan ws s t n =
    ap (some_opens plan.form s t n) (is ∙ ap (λ (g : PageGeometry). held_page plan ws s (4 * n / g.page)) form)
    ∙ ap (λ (b : Bool). b && open_in) (sym (lt-ltb n (length ws) inside))
    ∙ ap (λ (b : Bool). b && (ltb n (length ws) && open_in)) (sym sized)
    in
    Decides-at _ _ same (grants_exact plan ws s t n settled)

-- No other word is granted.
pub decided_outside :
    (plan : PlanNumbers) (ws : List ℕ) (s : UnitState) (t : AccessType) (n : ℕ) →
    Settled plan →
    (eqb (4 * length ws) (storage_bytes plan.exponent) ≡ false) ⊎ (length ws ≤ n) →
    Decides false (Granted plan ws s t n)
decided_outside plan ws s t n settled outside =
    let not_granted : grants plan ws s t n ≡ false =
    ⊎_elim
    (λ unsized. and_left _ _ unsized)
    (λ past. and_right _ _ (and_left (ltb n (length ws)) _ (le-ltb n (length ws) past)))
    outside
    in
    Decides-at _ _ (sym not_granted) (grants_exact plan ws s t n settled)

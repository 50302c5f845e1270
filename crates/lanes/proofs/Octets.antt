-- Loads and stores, byte by byte.
use Rattle.std.proofs.Common.{◌≡◌, ℕ, zero, suc, ◌+◌, ◌-◌, ◌*◌, ◌/◌, ◌%◌, ◌^◌, ◌<◌, ◌≤◌, Bool, true, false, cond, ◌&&◌, eqb, ltb, leb, List, get_or, sym, refl, ap, ◌∙◌, ⊎_elim, div-one, arith}
use Rattle.std.proofs.lemmas.Nat.{field_of, shr-shr, shl-shr, mod-pow-add, mod_low, mod_below}
use Rattle.std.proofs.lemmas.Bool.Decides.{nat_tests}
use Rattle.std.proofs.lemmas.Bool.{cases_eq, cases_Bool, and_parts, and_from, and_left, leb-true, ltb-true, lt-ltb, eq-eqb, ne_eqb, cond-true, cond-false}
use Rattle.storage.specs.Words.{merged, chosen}
use Rattle.storage.proofs.Tabulated.{length-written, written_at}
use Rattle.lanes.specs.declared.width.Width.{Width}
use Rattle.lanes.specs.declared.width.Width.TheVariants.{Byte, Halfword, Word}
use Rattle.lanes.specs.Lanes.{bytes_of, value_limit, aligned, shift_of, mask_of, loaded, stored}
use Rattle.lanes.specs.Bytes.{byte_at, byte_of, LoadedBytes, StoredBytes}

low_byte : (n i : ℕ) → n % 2 ^ (i + 8) % 2 ^ 8 ≡ n % 2 ^ 8
low_byte n i = ap (λ (x : ℕ). x % 2 ^ 8) (mod-pow-add n i 8) ∙ mod_low (n / 2 ^ 8 % 2 ^ i) 8 (n % 2 ^ 8) (mod_below n (2 ^ 8) (omega arith))

-- a byte of a part of a word is a byte of the word
byte_of_part : (n s i k : ℕ) → n / 2 ^ s % 2 ^ (i + 8 + k) / 2 ^ k % 2 ^ 8 ≡ n / 2 ^ (s + k) % 2 ^ 8
byte_of_part n s i k =
    ap (λ (x : ℕ). x % 2 ^ 8) (field_of (n / 2 ^ s) (i + 8) k)
    ∙ low_byte (n / 2 ^ s / 2 ^ k) i
    ∙ ap (λ (x : ℕ). x % 2 ^ 8) (shr-shr n s k)

-- a byte of a value that is shifted to its place
byte_of_placed : (n s k : ℕ) → n * 2 ^ s / 2 ^ (s + k) % 2 ^ 8 ≡ n / 2 ^ k % 2 ^ 8
byte_of_placed n s k =
    ap (λ (x : ℕ). x % 2 ^ 8) (sym (shr-shr (n * 2 ^ s) s k) ∙ ap (λ (x : ℕ). x / 2 ^ k) (shl-shr n s))

halfword_exponent : (h j : ℕ) → j < 2 → 16 - 16 * (h % 2) + 8 * (1 - j) ≡ 24 - 8 * ((h * 2 + j) % 4)
halfword_exponent h j l =
    let split : (h * 2 + j) % 4 ≡ h % 2 * 2 + j = omega arith in
    omega arith

-- the exponent of a byte, from that of its unit
exponent :
    (w : Width) (address j : ℕ) →
    j < bytes_of w →
    shift_of w address + 8 * (bytes_of w - 1 - j) ≡ 24 - 8 * ((aligned w address + j) % 4)
exponent Byte address j h = let whole : address / 1 * 1 + j ≡ address = omega arith in rw whole (omega arith)
exponent Halfword address j h =
    let half : address % 4 / 2 ≡ address / 2 % 2 = omega arith in
    rw half (halfword_exponent (address / 2) j h)
exponent Word address j h = let rest : (address / 4 * 4 + j) % 4 ≡ j = omega arith in omega arith

same_word : (w : Width) (address j : ℕ) → j < bytes_of w → (aligned w address + j) / 4 ≡ address / 4
same_word Byte address j h = omega arith
same_word Halfword address j h = omega arith
same_word Word address j h = omega arith

limit_power : (w : Width) (j : ℕ) → j < bytes_of w → value_limit w ≡ 2 ^ (8 * j + 8 + 8 * (bytes_of w - 1 - j))
limit_power Byte j h = let e : 8 ≡ 8 * j + 8 + 8 * (0 - j) = omega arith in ap (λ (x : ℕ). 2 ^ x) e
limit_power Halfword j h = let e : 16 ≡ 8 * j + 8 + 8 * (1 - j) = omega arith in ap (λ (x : ℕ). 2 ^ x) e
limit_power Word j h = let e : 32 ≡ 8 * j + 8 + 8 * (3 - j) = omega arith in ap (λ (x : ℕ). 2 ^ x) e

limit_positive : (w : Width) → 0 < value_limit w
limit_positive Byte = omega arith
limit_positive Halfword = omega arith
limit_positive Word = omega arith

pub loaded_bytes : (ws : List ℕ) (w : Width) (address : ℕ) → LoadedBytes ws w address (loaded ws w address)
loaded_bytes ws w address =
    record {
      narrow = mod_below _ (value_limit w) (limit_positive w);
      bytes = λ j h.
          let word = get_or ws (address / 4) 0 in
          ap (λ (x : ℕ). word / 2 ^ shift_of w address % x / 2 ^ (8 * (bytes_of w - 1 - j)) % 2 ^ 8) (limit_power w j h)
          ∙ byte_of_part word (shift_of w address) (8 * j) (8 * (bytes_of w - 1 - j))
          ∙ ap (λ (x : ℕ). word / 2 ^ x % 2 ^ 8) (exponent w address j h)
          ∙ ap (λ (x : ℕ). get_or ws x 0 / 2 ^ (24 - 8 * ((aligned w address + j) % 4)) % 2 ^ 8) (sym (same_word w address j h));
    }

-- what holds of 0 to 3 holds of each place in a word
four : (P : ℕ → Type 0) (q : ℕ) → q < 4 → P 0 → P 1 → P 2 → P 3 → P q
four P zero h a b c d = a
four P (suc zero) h a b c d = b
four P (suc (suc zero)) h a b c d = c
four P (suc (suc (suc zero))) h a b c d = d
four P (suc (suc (suc (suc q)))) h a b c d = absurd (omega arith)

chosen_low : (bit new old : ℕ) → new < 256 → old < 256 → chosen bit new old < 256
chosen_low bit new old h l = grind (arith, nat_tests)

first_byte : (a b c d : ℕ) → a < 256 → b < 256 → c < 256 → d < 256 → (a * 16777216 + b * 65536 + c * 256 + d) / 16777216 % 256 ≡ a
first_byte a b c d ha hb hc hd = omega arith

second_byte : (a b c d : ℕ) → a < 256 → b < 256 → c < 256 → d < 256 → (a * 16777216 + b * 65536 + c * 256 + d) / 65536 % 256 ≡ b
second_byte a b c d ha hb hc hd = omega arith

third_byte : (a b c d : ℕ) → a < 256 → b < 256 → c < 256 → d < 256 → (a * 16777216 + b * 65536 + c * 256 + d) / 256 % 256 ≡ c
third_byte a b c d ha hb hc hd = omega arith

fourth_byte : (a b c d : ℕ) → a < 256 → b < 256 → c < 256 → d < 256 → (a * 16777216 + b * 65536 + c * 256 + d) / 1 % 256 ≡ d
fourth_byte a b c d ha hb hc hd = omega arith

-- a byte of a merged word is the value's or the old word's, as its mask bit says
merged_byte :
    (old value mask q : ℕ) →
    q < 4 →
    merged old value mask / 2 ^ (24 - 8 * q) % 2 ^ 8
    ≡ chosen (mask / 2 ^ (3 - q) % 2) (value / 2 ^ (24 - 8 * q) % 2 ^ 8) (old / 2 ^ (24 - 8 * q) % 2 ^ 8)
merged_byte old value mask q h =
    let a = chosen_low (mask / 8 % 2) (value / 16777216 % 256) (old / 16777216 % 256) (omega arith) (omega arith) in
    let b = chosen_low (mask / 4 % 2) (value / 65536 % 256) (old / 65536 % 256) (omega arith) (omega arith) in
    let c = chosen_low (mask / 2 % 2) (value / 256 % 256) (old / 256 % 256) (omega arith) (omega arith) in
    let d = chosen_low (mask % 2) (value % 256) (old % 256) (omega arith) (omega arith) in
    four
    (λ q.
    merged old value mask / 2 ^ (24 - 8 * q) % 2 ^ 8
    ≡ chosen (mask / 2 ^ (3 - q) % 2) (value / 2 ^ (24 - 8 * q) % 2 ^ 8) (old / 2 ^ (24 - 8 * q) % 2 ^ 8))
    q
    h
    (first_byte _ _ _ _ a b c d)
    (second_byte _ _ _ _ a b c d)
    (third_byte _ _ _ _ a b c d)
    (rw (div-one value, div-one old, div-one mask) (fourth_byte _ _ _ _ a b c d))

byte_mask : (p q : ℕ) → p < 4 → q < 4 → eqb (8 / 2 ^ p / 2 ^ (3 - q) % 2) 1 ≡ eqb p q
byte_mask p q h l =
    four
    (λ p. eqb (8 / 2 ^ p / 2 ^ (3 - q) % 2) 1 ≡ eqb p q)
    p
    h
    (four (λ q. eqb (8 / 2 ^ (3 - q) % 2) 1 ≡ eqb 0 q) q l refl refl refl refl)
    (four (λ q. eqb (4 / 2 ^ (3 - q) % 2) 1 ≡ eqb 1 q) q l refl refl refl refl)
    (four (λ q. eqb (2 / 2 ^ (3 - q) % 2) 1 ≡ eqb 2 q) q l refl refl refl refl)
    (four (λ q. eqb (1 / 2 ^ (3 - q) % 2) 1 ≡ eqb 3 q) q l refl refl refl refl)

halfword_mask : (p q : ℕ) → p < 4 → q < 4 → eqb (12 / 2 ^ (2 * (p / 2)) / 2 ^ (3 - q) % 2) 1 ≡ eqb (p / 2) (q / 2)
halfword_mask p q h l =
    four
    (λ p. eqb (12 / 2 ^ (2 * (p / 2)) / 2 ^ (3 - q) % 2) 1 ≡ eqb (p / 2) (q / 2))
    p
    h
    (four (λ q. eqb (12 / 2 ^ (3 - q) % 2) 1 ≡ eqb 0 (q / 2)) q l refl refl refl refl)
    (four (λ q. eqb (12 / 2 ^ (3 - q) % 2) 1 ≡ eqb 0 (q / 2)) q l refl refl refl refl)
    (four (λ q. eqb (3 / 2 ^ (3 - q) % 2) 1 ≡ eqb 1 (q / 2)) q l refl refl refl refl)
    (four (λ q. eqb (3 / 2 ^ (3 - q) % 2) 1 ≡ eqb 1 (q / 2)) q l refl refl refl refl)

-- A byte of the unit's word lies in the unit exactly where its mask bit is on.
mask_inside :
    (w : Width) (address a : ℕ) →
    a / 4 ≡ address / 4 →
    eqb (mask_of w address / 2 ^ (3 - a % 4) % 2) 1 ≡ (leb (aligned w address) a && ltb a (aligned w address + bytes_of w))
mask_inside Byte address a e =
    let m = byte_mask (address % 4) (a % 4) (omega arith) (omega arith) in m ∙ grind (arith, nat_tests)
mask_inside Halfword address a e =
    let m = halfword_mask (address % 4) (a % 4) (omega arith) (omega arith) in m ∙ grind (arith, nat_tests)
mask_inside Word address a e =
    let m : eqb (15 / 2 ^ (3 - a % 4) % 2) 1 ≡ true = four (λ q. eqb (15 / 2 ^ (3 - q) % 2) 1 ≡ true) (a % 4) (omega arith) refl refl refl refl in
    m ∙ grind (arith, nat_tests)

mask_low : (w : Width) (address : ℕ) → mask_of w address < 16
mask_low Byte address = four (λ p. 8 / 2 ^ p < 16) (address % 4) (omega arith) (omega arith) (omega arith) (omega arith) (omega arith)
mask_low Halfword address =
    four (λ p. 12 / 2 ^ (2 * (p / 2)) < 16) (address % 4) (omega arith) (omega arith) (omega arith) (omega arith) (omega arith)
mask_low Word address = omega arith

-- a byte inside the unit, of the value at its place
placed_byte :
    (w : Width) (address value a : ℕ) →
    aligned w address ≤ a →
    a < aligned w address + bytes_of w →
    value * 2 ^ shift_of w address / 2 ^ (24 - 8 * (a % 4)) % 2 ^ 8 ≡ byte_of w value (a - aligned w address)
placed_byte w address value a low high =
    let j = a - aligned w address in
    let h : j < bytes_of w = omega arith in
    let at : aligned w address + j ≡ a = omega arith in
    let e : 24 - 8 * (a % 4) ≡ shift_of w address + 8 * (bytes_of w - 1 - j) =
    ap (λ (x : ℕ). 24 - 8 * (x % 4)) (sym at) ∙ sym (exponent w address j h)
    in
    ap (λ (x : ℕ). value * 2 ^ shift_of w address / 2 ^ x % 2 ^ 8) e
    ∙ byte_of_placed value (shift_of w address) (8 * (bytes_of w - 1 - j))

-- the unit lies in one word
unit_word : (w : Width) (address a : ℕ) → aligned w address ≤ a → a < aligned w address + bytes_of w → a / 4 ≡ address / 4
unit_word w address a low high =
    let j = a - aligned w address in
    let at : aligned w address + j ≡ a = omega arith in
    ap (λ (x : ℕ). x / 4) (sym at) ∙ same_word w address j (omega arith)

abbrev inside : Width → ℕ → ℕ → Bool
inside w address a = leb (aligned w address) a && ltb a (aligned w address + bytes_of w)

inside_bounds : (w : Width) (address a : ℕ) → inside w address a ≡ true → (aligned w address ≤ a) × (a < aligned w address + bytes_of w)
inside_bounds w address a e =
    let both = and_parts (leb (aligned w address) a) (ltb a (aligned w address + bytes_of w)) e in
    (leb-true _ _ both.0, ltb-true _ _ both.1)

outside : (w : Width) (address a : ℕ) → (a / 4 ≡ address / 4 → ⊥) → inside w address a ≡ false
outside w address a other =
    ⊎_elim
    (λ yes. let b = inside_bounds w address a yes in absurd (other (unit_word w address a b.0 b.1)))
    (λ no. no)
    (cases_Bool (inside w address a))

cond_alike : (b : Bool) (x y z : ℕ) → (b ≡ true → x ≡ y) → cond b x z ≡ cond b y z
cond_alike true x y z h = h refl
cond_alike false x y z h = refl

pub stored_bytes :
    (ws : List ℕ) (w : Width) (address value : ℕ) → StoredBytes ws (stored ws w address value) w address value
stored_bytes ws w address value =
    let placed = value * 2 ^ shift_of w address in
    let mask = mask_of w address in
    record {
      long = length-written ws (address / 4) placed mask;
      bytes = λ a h.
          let here = eqb (a / 4) (address / 4) && ltb mask 16 in
          let old = get_or ws (a / 4) 0 in
          let at = written_at ws (address / 4) placed mask (a / 4) (omega arith) in
          ap (λ (x : ℕ). x / 2 ^ (24 - 8 * (a % 4)) % 2 ^ 8) at
          ∙ ⊎_elim
          (λ same.
          ap
          (λ (x : ℕ). x / 2 ^ (24 - 8 * (a % 4)) % 2 ^ 8)
          (cond-true here (merged old placed mask) old (and_from _ _ (eq-eqb _ _ same) (lt-ltb _ _ (mask_low w address))))
          ∙ merged_byte old placed mask (a % 4) (omega arith)
          ∙ ap
          (λ (b : Bool). cond b (placed / 2 ^ (24 - 8 * (a % 4)) % 2 ^ 8) (byte_at ws a))
          (mask_inside w address a same)
          ∙ cond_alike (inside w address a) _ _ (byte_at ws a)
          (λ yes. let b = inside_bounds w address a yes in placed_byte w address value a b.0 b.1))
          (λ other.
          ap
          (λ (x : ℕ). x / 2 ^ (24 - 8 * (a % 4)) % 2 ^ 8)
          (cond-false here (merged old placed mask) old (and_left _ _ (ne_eqb _ _ other)))
          ∙ sym (cond-false (inside w address a) _ (byte_at ws a) (outside w address a other)))
          (cases_eq (a / 4) (address / 4));
    }

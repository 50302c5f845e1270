-- Real pages and the page table, for every page form.
use Rattle.std.proofs.Common.{◌≡◌, ℕ, ◌+◌, ◌-◌, ◌*◌, ◌/◌, ◌^◌, ◌≤◌, ◌⊎◌, sym, ap, ◌∙◌, subst, inl, inr, ⊎_elim, add-mul, arith, pow_pos, pow_mono, pow-add}
use native.Mathlib.Nat.{mul-div_right, mul-div-le}
use Rattle.std.proofs.lemmas.Nat.{mul-le, le-div, div_below}
use Rattle.paging.specs.declared.geometry.PageGeometry.{PageGeometry}
use Rattle.paging.specs.Plan.{page_count, table_start, table_bytes, storage_bytes}

abbrev pub Wide : PageGeometry → Type 0
Wide f = (f.width ≡ 16) ⊎ (f.width ≡ 17)

abbrev pub Whole : PageGeometry → Type 0
Whole f = f.page * 2 ^ f.width ≡ 2 ^ 28

abbrev pub Bases : PageGeometry → Type 0
Bases f = (f.highest + 1) * 16 ≡ f.page

-- a page has 2^11 or 2^12 bytes
pub page_length : (f : PageGeometry) → Wide f → Whole f → (f.page ≡ 2 ^ 11) ⊎ (f.page ≡ 2 ^ 12)
page_length f (inl w) whole =
    let p : f.page * 65536 ≡ 268435456 = subst (λ (x : ℕ). f.page * 2 ^ x ≡ 2 ^ 28) w whole in
    inr (omega arith)
page_length f (inr w) whole =
    let p : f.page * 131072 ≡ 268435456 = subst (λ (x : ℕ). f.page * 2 ^ x ≡ 2 ^ 28) w whole in
    inl (omega arith)

-- what holds of both page lengths holds of every form's
pub for_lengths :
    (f : PageGeometry) (P : ℕ → Type 0) → Wide f → Whole f → ((e : ℕ) → 11 ≤ e → e ≤ 12 → P (2 ^ e)) → P f.page
for_lengths f P w whole each =
    ⊎_elim
    (λ p. subst P (sym p) (each 11 (omega arith) (omega arith)))
    (λ p. subst P (sym p) (each 12 (omega arith) (omega arith)))
    (page_length f w whole)

power_whole : (e k : ℕ) → e ≤ k → 2 ^ e * (2 ^ k / 2 ^ e) ≡ 2 ^ k
power_whole e k h =
    let sum : e + (k - e) ≡ k = omega arith in
    let split : 2 ^ k ≡ 2 ^ e * 2 ^ (k - e) = ap (λ (x : ℕ). 2 ^ x) (sym sum) ∙ pow-add 2 e (k - e) in
    let quotient : 2 ^ k / 2 ^ e ≡ 2 ^ (k - e) = ap (λ (x : ℕ). x / 2 ^ e) split ∙ mul-div_right (2 ^ (k - e)) (pow_pos e) in
    ap (λ (x : ℕ). 2 ^ e * x) quotient ∙ sym split

-- the real pages make up the whole storage
pub pages_whole : (f : PageGeometry) (k : ℕ) → Wide f → Whole f → 16 ≤ k → f.page * page_count f k ≡ storage_bytes k
pages_whole f k w whole h =
    for_lengths f (λ x. x * (2 ^ k / x) ≡ 2 ^ k) w whole (λ e _ l. power_whole e k (omega arith))

-- the table lies whole inside the storage
pub table_inside :
    (f : PageGeometry) (k b : ℕ) → Bases f → b ≤ f.highest → table_start f k b + table_bytes f k ≤ storage_bytes k
table_inside f k b bases low =
    let parts : (b * 16 + 16) * page_count f k ≡ table_start f k b + table_bytes f k = add-mul (b * 16) 16 (page_count f k) in
    let most = mul-le (b * 16 + 16) (page_count f k) f.page (page_count f k) (omega arith) (omega arith) in
    omega (arith, mul-div-le (2 ^ k) f.page)

-- at least 16 pages and at most 8,192
pub pages_bounded :
    (f : PageGeometry) (k : ℕ) → Wide f → Whole f → 16 ≤ k → k ≤ 24 → (16 ≤ page_count f k) × (page_count f k ≤ 8192)
pages_bounded f k w whole h l =
    let lo : 65536 ≤ 2 ^ k = pow_mono {i = 16} {j = k} h in
    let hi : 2 ^ k ≤ 16777216 = pow_mono {i = k} {j = 24} l in
    let long : 2048 ≤ f.page = for_lengths f (λ x. 2048 ≤ x) w whole (λ e m _. pow_mono {i = 11} {j = e} m) in
    let short : f.page ≤ 4096 = for_lengths f (λ x. x ≤ 4096) w whole (λ e _ n. pow_mono {i = e} {j = 12} n) in
    (le-div 16 (2 ^ k) f.page (omega arith) (omega arith), omega (arith, div_below (2 ^ k) f.page 8193 (omega arith) (omega arith)))

-- a storage has at most 2^24 bytes
pub storage_small : (k : ℕ) → k ≤ 24 → storage_bytes k ≤ 16777216
storage_small k l = pow_mono {i = k} {j = 24} l

-- A word put into bytes and taken out again.
use Rattle.std.proofs.Common.{◌≡◌, ℕ, zero, suc, ◌+◌, ◌-◌, ◌*◌, ◌/◌, ◌%◌, ◌<◌, cond, eqb, ◌≢◌, List, [], ◌∷◌, length, set, sym, refl, ap, ◌∙◌, arith, length-set, rules}
use Rattle.std.proofs.Math.Nat.{suc-add}
use borrow.Rule.Slice.PartMut.{put_mid}
use native.Mathlib.Nat.{div-div-eq-div-mul}
use Rattle.std.proofs.lemmas.List.{places}
use Rattle.std.proofs.lemmas.Bool.Decides.{nat_tests}
use Rattle.storage.specs.Words.{merged}
use Rattle.storage.specs.Bytes.{word_at, with_word}

by_bytes :
    (w a b c : ℕ) →
    a ≡ w / 256 →
    b ≡ a / 256 →
    c ≡ b / 256 →
    c < 256 →
    c % 256 * 16777216 + b % 256 * 65536 + a % 256 * 256 + w % 256 ≡ w
by_bytes w a b c p q r h = omega arith

pub split_word :
    (w : ℕ) →
    w < 4294967296 →
    w / 16777216 % 256 * 16777216 + w / 65536 % 256 * 65536 + w / 256 % 256 * 256 + w % 256 ≡ w
split_word w h =
    by_bytes
    w
    (w / 256)
    (w / 65536)
    (w / 16777216)
    refl
    (sym (div-div-eq-div-mul w 256 256))
    (sym (div-div-eq-div-mul w 65536 256))
    (omega arith)

put_here :
    (bs : List ℕ) (n w : ℕ) → 4 * n + 3 < length bs → w < 4294967296 → word_at (with_word bs n w) n ≡ w
put_here bs n w h fits = let s = split_word w fits in search (rules, places)

put_there : (bs : List ℕ) (n w k : ℕ) → 4 * n + 3 < length bs → k ≢ n → word_at (with_word bs n w) k ≡ word_at bs k
put_there bs n w k h ne = search (rules, places)

pub word_put :
    (bs : List ℕ) (n w k : ℕ) →
    4 * n + 3 < length bs →
    w < 4294967296 →
    word_at (with_word bs n w) k ≡ cond (eqb k n) w (word_at bs k)
word_put bs n w k h fits =
    let here = put_here bs n w h fits in let there = put_there bs n w k h in grind (arith, nat_tests)

-- four elements in the place of four
four_put :
    (xs : List ℕ) (n a b c d : ℕ) →
    n + 3 < length xs →
    put_mid n 4 xs (a ∷ b ∷ c ∷ d ∷ []) ≡ set (set (set (set xs n a) (n + 1) b) (n + 2) c) (n + 3) d
four_put [] n a b c d h = absurd (omega arith)
four_put (x ∷ xs) (suc n) a b c d h = simp suc-add (ap (λ ys. x ∷ ys) (four_put xs n a b c d (omega arith)))
four_put (x ∷ []) zero a b c d h = absurd (omega arith)
four_put (x ∷ y ∷ []) zero a b c d h = absurd (omega arith)
four_put (x ∷ y ∷ z ∷ []) zero a b c d h = absurd (omega arith)
four_put (x ∷ y ∷ z ∷ w ∷ xs) zero a b c d h = refl

pub word_over_bytes :
    (bs ys : List ℕ) (n w : ℕ) →
    4 * n + 3 < length bs →
    ys ≡ w / 16777216 % 256 ∷ w / 65536 % 256 ∷ w / 256 % 256 ∷ w % 256 ∷ [] →
    put_mid (4 * n) (4 * n + 4 - 4 * n) bs ys ≡ with_word bs n w
word_over_bytes bs ys n w h e =
    let four : 4 * n + 4 - 4 * n ≡ 4 = omega arith in
    ap (λ k. put_mid (4 * n) k bs ys) four
    ∙ ap (put_mid (4 * n) 4 bs) e
    ∙ four_put bs (4 * n) (w / 16777216 % 256) (w / 65536 % 256) (w / 256 % 256) (w % 256) h

pub merged_fits : (old value mask : ℕ) → merged old value mask < 4294967296
merged_fits old value mask = grind (arith, nat_tests)

pub length_with_word : (bs : List ℕ) (n w : ℕ) → length (with_word bs n w) ≡ length bs
length_with_word bs n w = simp length-set

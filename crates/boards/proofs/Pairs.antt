-- What a write to one of the two storages of a pair leaves of the pair.
use Rattle.std.proofs.Common.{◌≡◌, ℕ, ◌-◌, ◌/◌, ◌%◌, ◌<◌, ◌≤◌, ◌≢◌, List, length, arith}
use Rattle.std.proofs.lemmas.Bool.Decides.{nat_tests}
use Rattle.storage.specs.Words.{written}
use Rattle.boards.specs.Interleaved.{interleaved_count, interleaved_at, interleaved}
use Rattle.boards.specs.Stacked.{stacked_count, stacked_at, stacked}
use Rattle.storage.proofs.Tabulated.{tabulated-written, length-written, written_at}

pub even_written :
    (xs ys : List ℕ) (n value mask : ℕ) →
    n % 2 ≡ 0 →
    interleaved (written xs (n / 2) value mask) ys ≡ written (interleaved xs ys) n value mask
even_written xs ys n value mask even =
    tabulated-written
    (interleaved_count xs ys)
    (interleaved_count (written xs (n / 2) value mask) ys)
    (interleaved_at xs ys)
    (interleaved_at (written xs (n / 2) value mask) ys)
    n
    value
    mask
    (simp length-written)
    (λ k kc. let w = written_at xs (n / 2) value mask (k / 2) in grind (arith, nat_tests))

pub odd_written :
    (xs ys : List ℕ) (n value mask : ℕ) →
    n % 2 ≢ 0 →
    interleaved xs (written ys (n / 2) value mask) ≡ written (interleaved xs ys) n value mask
odd_written xs ys n value mask odd =
    tabulated-written
    (interleaved_count xs ys)
    (interleaved_count xs (written ys (n / 2) value mask))
    (interleaved_at xs ys)
    (interleaved_at xs (written ys (n / 2) value mask))
    n
    value
    mask
    (simp length-written)
    (λ k kc. let w = written_at ys (n / 2) value mask (k / 2) in grind (arith, nat_tests))

pub low_written :
    (xs ys : List ℕ) (n value mask : ℕ) →
    n < length xs →
    stacked (written xs n value mask) ys ≡ written (stacked xs ys) n value mask
low_written xs ys n value mask low =
    let l = length-written xs n value mask in
    tabulated-written
    (stacked_count xs ys)
    (stacked_count (written xs n value mask) ys)
    (stacked_at xs ys)
    (stacked_at (written xs n value mask) ys)
    n
    value
    mask
    (simp length-written)
    (λ k kc. let w = written_at xs n value mask k in grind (arith, nat_tests))

pub high_written :
    (xs ys : List ℕ) (n value mask : ℕ) →
    length xs ≤ n →
    stacked xs (written ys (n - length xs) value mask) ≡ written (stacked xs ys) n value mask
high_written xs ys n value mask high =
    tabulated-written
    (stacked_count xs ys)
    (stacked_count xs (written ys (n - length xs) value mask))
    (stacked_at xs ys)
    (stacked_at xs (written ys (n - length xs) value mask))
    n
    value
    mask
    (simp length-written)
    (λ k kc. let w = written_at ys (n - length xs) value mask (k - length xs) in grind (arith, nat_tests))

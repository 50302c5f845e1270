-- The words that the tests' storage makes up: word k is base + k.
use Rattle.std.specs.Prelude.{ℕ, ◌+◌, ◌≤◌, List, length}
use Rattle.std.proofs.Common.{arith}
use Rattle.storage.specs.Words.{tabulated, word_limit}
use Rattle.storage.proofs.Tabulated.{length-tabulated}

abbrev pub made_words : ℕ → ℕ → List ℕ
made_words count base = tabulated count (λ k. base + k)

pub made_bounded : (count base : ℕ) → count ≤ 4194304 → length (made_words count base) ≤ word_limit
made_bounded count base short = omega (arith, length-tabulated count (λ k. base + k), short)

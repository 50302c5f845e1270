-- From whom a storage borrows.
use Rattle.std.specs.Prelude.{ℕ}

-- The ghost name of each reference that a storage holds. As long as it stays, what the storage holds at the end is what its
-- lender gets back.
pub data Lenders : Type 0 where
  none : Lenders
  one : ℕ → Lenders
  both : Lenders → Lenders → Lenders

-- The map of the storage that the program prints.
use Rattle.std.specs.Prelude.{ℕ, cond}
use Rattle.unit_state.specs.declared.state.PageMark.{PageMark}

-- the character of a page in the map: w for a page that was written, r for one that was read, and a full stop for the others
abbrev pub symbol_of : PageMark → ℕ
symbol_of m = cond m.changed 119 (cond m.referenced 114 46)

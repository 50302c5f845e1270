-- A dump board's words and bytes by its directory.
use Rattle.std.specs.Prelude.{ℕ, List}
use Rattle.dump_board.specs.declared.directory.Directory.{Directory}
use Rattle.dump_board.specs.Dump.{dump_count, dump_words, dump_bytes}

abbrev pub listed_count : List ℕ → Directory → ℕ
listed_count bs d = dump_count bs d.count

abbrev pub listed_words : List ℕ → Directory → List ℕ
listed_words bs d = dump_words bs d.count d.blocks

-- the lent bytes after a write through the board
abbrev pub listed_bytes : List ℕ → Directory → ℕ → ℕ → ℕ → List ℕ
listed_bytes bs d n value mask = dump_bytes bs d.count d.blocks n value mask

-- What the words of a page table entry say. Bit 0 of a word is its highest, bit 31 its lowest. Bits that no field has are
-- reserved, and ignored.
use Rattle.std.specs.Prelude.{ℕ, ◌-◌, ◌/◌, ◌%◌, ◌^◌, Bool, ◌==◌}
use Rattle.paging.specs.declared.geometry.PageGeometry.{PageGeometry}
use Rattle.page_table.specs.declared.entry.Tag.{Tag}
use Rattle.page_table.specs.declared.entry.Anchor.{Anchor}
use Rattle.page_table.specs.declared.entry.Link.{Link}
use Rattle.page_table.specs.declared.entry.PageEntry.{PageEntry}

-- so many bits of a word, from a bit on
abbrev pub field : ℕ → ℕ → ℕ → ℕ
field word from length = word / 2 ^ (32 - from - length) % 2 ^ length

abbrev pub flag : ℕ → ℕ → Bool
flag word bit = field word bit 1 == 1

-- Word 0 has the segment ID in bits 3 to 14 and the page number from bit 15 on: to bit 31 in 2K, to bit 30 in 4K.
abbrev pub tag_of : PageGeometry → ℕ → Tag
tag_of f word = record { segment = field word 3 12; page = field word 15 f.width }

-- Word 1 has the anchor's empty flag in bit 0 and its pointer in bits 3 to 15.
abbrev pub anchor_of : ℕ → Anchor
anchor_of word = record { empty = flag word 0; first = field word 3 13 }

-- It has the last flag of the entry in bit 16 and its pointer in bits 19 to 31.
abbrev pub link_of : ℕ → Link
link_of word = record { last = flag word 16; next = field word 19 13 }

-- Word 0 has the key in bits 0 and 1. Word 2 has the write bit in bit 7, the transaction ID in bits 8 to 15 and the lock bits
-- in bits 16 to 31.
abbrev pub entry_of : PageGeometry → ℕ → ℕ → PageEntry
entry_of f word0 word2 =
    record {
      key = field word0 0 2;
      tag = tag_of f word0;
      write = flag word2 7;
      transaction = field word2 8 8;
      locks = field word2 16 16;
    }

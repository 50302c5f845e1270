-- The look-aside buffers.
use Rattle.std.specs.Prelude.{◌≡◌, ℕ, ◌%◌, ◌<◌, Bool, false, cond, [], ◌∷◌, replicate, Some, None, Option, slice_index_or, slice_set}
use Rattle.page_table.specs.declared.entry.Tag.{Tag}
use Rattle.page_table.specs.Search.{same_tag}
use Rattle.tlb.specs.declared.buffers.Translation.{Translation}
use Rattle.tlb.specs.declared.buffers.Way.{Way}
use Rattle.tlb.specs.declared.buffers.Way.TheVariants.{First, Second}
use Rattle.tlb.specs.declared.buffers.Class.{Class}
use Rattle.tlb.specs.declared.buffers.Buffers.{Buffers}

-- whether an entry is valid and holds a virtual page: the whole tag is compared
abbrev pub holds : Option Translation → Tag → Bool
holds None tag = false
holds (Some t) tag = same_tag t.page.tag tag

abbrev pub first_in : Class → Option Translation
first_in c = slice_index_or c.ways 0 None

abbrev pub second_in : Class → Option Translation
second_in c = slice_index_or c.ways 1 None

-- the entry of a class that holds a virtual page
abbrev pub hit_in : Class → Tag → Option Translation
hit_in c tag = cond (holds (first_in c) tag) (first_in c) (cond (holds (second_in c) tag) (second_in c) None)

abbrev pub marked : Class → Way → Class
marked c way = record { ways = c.ways; used_last = way }

-- A hit makes its entry the one used last.
abbrev pub after_hit : Class → Tag → Class
after_hit c tag = cond (holds (first_in c) tag) (marked c First) (cond (holds (second_in c) tag) (marked c Second) c)

abbrev pub place_of : Way → ℕ
place_of First = 0
place_of Second = 1

abbrev pub other : Way → Way
other First = Second
other Second = First

-- The entry that was not used last is replaced, and is then the one used last.
abbrev pub replaced_in : Class → Translation → Class
replaced_in c t =
    record { ways = slice_set c.ways (place_of (other c.used_last)) (Some t); used_last = other c.used_last }

-- A class is named by the lowest four bits of the page number.
abbrev pub class_of : Tag → ℕ
class_of tag = tag.page % 16

-- what a read past the end of the classes gives: nothing, never used
abbrev pub no_class : Class
no_class = record { ways = []; used_last = First }

abbrev pub class_at : Buffers → ℕ → Class
class_at b i = slice_index_or b.classes i no_class

abbrev pub hit_of : Buffers → Tag → Option Translation
hit_of b tag = hit_in (class_at b (class_of tag)) tag

abbrev pub looked_up : Buffers → Tag → Buffers
looked_up b tag = record { classes = slice_set b.classes (class_of tag) (after_hit (class_at b (class_of tag)) tag) }

abbrev pub loaded_with : Buffers → Translation → Buffers
loaded_with b t =
    record {
      classes = slice_set b.classes (class_of t.page.tag) (replaced_in (class_at b (class_of t.page.tag)) t);
    }

-- After power-on no entry is valid, and the first one of each class is the next to be replaced.
abbrev pub empty_class : Class
empty_class = record { ways = None ∷ None ∷ []; used_last = Second }

abbrev pub empty_buffers : Buffers
empty_buffers = record { classes = replicate 16 empty_class }

-- whether two entries are valid and hold one virtual page
abbrev pub clashing : Option Translation → Option Translation → Bool
clashing o None = false
clashing o (Some t) = holds o t.page.tag

-- No two valid entries of a class hold one segment ID and page number.
abbrev pub Unique : Class → Type 0
Unique c = clashing (first_in c) (second_in c) ≡ false

abbrev pub EachUnique : Buffers → Type 0
EachUnique b = (i : ℕ) → Unique (class_at b i)

-- what holds of each valid entry
abbrev pub Each : (Translation → Type 0) → Buffers → Type 0
Each P b = (i j : ℕ) (t : Translation) → slice_index_or (class_at b i).ways j None ≡ Some t → P t

-- Every valid entry names one of the 8,192 real pages that a storage can have.
abbrev pub EachNear : Buffers → Type 0
EachNear b = Each (λ t. t.entry < 8192) b

-- What holds of walks, whatever the table.
use Rattle.std.specs.Prelude.{◌≡◌, ℕ, zero, suc, ◌+◌, ◌*◌, ◌<◌, ◌≤◌, Bool, true, false, ◌⊎◌, List, length, Some, None, Ok, Err, slice_index}
use Rattle.refusals.specs.declared.refusal.Refusal.TheVariants.{WordOutside}
use Rattle.storage.specs.Words.{read_of}
use Rattle.paging.specs.declared.geometry.PageGeometry.{PageGeometry}
use Rattle.page_table.specs.declared.entry.Tag.{Tag}
use Rattle.page_table.specs.declared.entry.Link.{Link}
use Rattle.page_table.specs.declared.entry.PageEntry.{PageEntry}
use Rattle.page_table.specs.declared.walk.Query.{Query}
use Rattle.page_table.specs.declared.walk.Found.{Found}
use Rattle.page_table.specs.declared.walk.Fault.{Fault}
use Rattle.page_table.specs.Entry.{tag_of, anchor_of, link_of, entry_of}
use Rattle.page_table.specs.Search.{Outcome, LinkedOutcome, place_of, hash_of, same_tag}

-- what the words of entry i say
abbrev pub entry_at : PageGeometry → List ℕ → Query → ℕ → PageEntry
entry_at f ws q i = entry_of f (slice_index ws (place_of q i)) (slice_index ws (place_of q i + 2))

abbrev pub link_at : List ℕ → Query → ℕ → Link
link_at ws q i = link_of (slice_index ws (place_of q i + 1))

-- whether entry i has the whole tag that is asked for
abbrev pub equal_at : PageGeometry → List ℕ → Query → ℕ → Bool
equal_at f ws q i = same_tag (tag_of f (slice_index ws (place_of q i))) q.tag

-- the j-th entry behind entry i, by the pointers
abbrev pub along : List ℕ → Query → ℕ → ℕ → ℕ
along ws q i zero = i
along ws q i (suc j) = along ws q (link_at ws q i).next j

-- the entry that the anchor of the virtual page points to
abbrev pub first_of : List ℕ → Query → ℕ
first_of ws q = (anchor_of (slice_index ws (place_of q (hash_of q) + 1))).first

-- the j-th entry of the virtual page's chain
abbrev pub chain_at : List ℕ → Query → ℕ → ℕ
chain_at ws q j = along ws q (first_of ws q) j

-- What is found is an entry of the table, with what its words say; its whole tag is the one asked for; and at least one entry
-- was compared, and no more than the limit.
pub record FoundWell (f : PageGeometry) (ws : List ℕ) (q : Query) (x : Found) : Type 0 where
  pub inside : x.entry < q.entries
  pub says : x.page ≡ entry_at f ws q x.entry
  pub tagged : x.page.tag ≡ q.tag
  pub some : 1 ≤ x.compared
  pub few : x.compared ≤ q.limit

abbrev pub Well : PageGeometry → List ℕ → Query → Outcome → Type 0
Well f ws q (Ok x) = FoundWell f ws q x
Well f ws q (Err e) = e.compared.count ≤ q.limit

-- The link of what is found is that of its entry.
abbrev pub LinkedWell : PageGeometry → List ℕ → Query → LinkedOutcome → Type 0
LinkedWell f ws q (Ok x) = FoundWell f ws q x.found × (x.link ≡ link_at ws q x.found.entry)
LinkedWell f ws q (Err e) = e.compared.count ≤ q.limit

-- the outcome without the link
abbrev pub unlinked : LinkedOutcome → Outcome
unlinked (Ok x) = Ok x.found
unlinked (Err e) = Err e

-- m entries from entry i on were compared and passed: each of them differs, and is not the last of its chain
abbrev pub Passed : PageGeometry → List ℕ → Query → ℕ → ℕ → Type 0
Passed f ws q i m =
    (j : ℕ) → j < m → (equal_at f ws q (along ws q i j) ≡ false) × ((link_at ws q (along ws q i j)).last ≡ false)

-- The m + 1 entries that were compared are the first of the chain. The one found is the last of them.
pub record FoundLast (f : PageGeometry) (ws : List ℕ) (q : Query) (x : Found) (m : ℕ) : Type 0 where
  pub count : x.compared ≡ m + 1
  pub is : x.entry ≡ chain_at ws q m
  pub passed : Passed f ws q (first_of ws q) m

-- Where nothing is found, the last of the m + 1 entries that were compared differs too, unless its words end the storage.
pub record StoppedAt (f : PageGeometry) (ws : List ℕ) (q : Query) (e : Fault) (m : ℕ) : Type 0 where
  pub count : e.compared.count ≡ m + 1
  pub last : e.compared.last ≡ Some (chain_at ws q m)
  pub passed : Passed f ws q (first_of ws q) m
  pub differs : equal_at f ws q (chain_at ws q m) ≡ true → e.refusal ≡ WordOutside

-- The count is the number of entries that were compared, from the first of the chain on, and the last entry is the last of
-- them: absent where none was compared.
abbrev pub Walked : PageGeometry → List ℕ → Query → Outcome → Type 0
Walked f ws q (Ok x) = (m : ℕ) × FoundLast f ws q x m
Walked f ws q (Err e) = ((e.compared.count ≡ 0) × (e.compared.last ≡ None)) ⊎ ((m : ℕ) × StoppedAt f ws q e m)

-- Searches for two virtual pages do not find one entry: a real page never answers to two virtual pages.
abbrev pub Apart : Tag → Tag → Outcome → Outcome → Type 0
Apart one other (Ok x) (Ok y) = x.entry ≡ y.entry → one ≡ other
Apart one other (Ok x) (Err e) = Unit {0}
Apart one other (Err d) (Ok y) = Unit {0}
Apart one other (Err d) (Err e) = Unit {0}

-- storages that are alike in the words of the table: each is there in both or in neither, and is the same
abbrev pub AlikeTables : Query → List ℕ → List ℕ → Type 0
AlikeTables q ws vs = (n : ℕ) → q.start ≤ n → n < q.start + 4 * q.entries → read_of ws n ≡ read_of vs n

-- how many entries a walk compared
abbrev pub compared_by : Outcome → ℕ
compared_by (Ok x) = x.compared
compared_by (Err e) = e.compared.count

-- the first n entries of the virtual page's chain
abbrev pub Listed : List ℕ → Query → ℕ → List ℕ → Type 0
Listed ws q n path = (length path ≡ n) × ((j : ℕ) → j < n → slice_index path j ≡ chain_at ws q j)

-- The walk of the page table for a virtual page.
use Rattle.std.specs.Prelude.{◌≡◌, ℕ, zero, suc, ◌+◌, ◌*◌, ◌/◌, ◌%◌, ◌<◌, Bool, cond, ◌&&◌, List, Some, None, Ok, Err, Option, Result, ◌==◌, bit_xor, nat_lt}
use Rattle.std.specs.declared.ops.ControlFlow.{ControlFlow}
use Rattle.std.specs.declared.ops.ControlFlow.TheVariants.{Continue, Break}
use Rattle.refusals.specs.declared.refusal.Refusal.{Refusal}
use Rattle.refusals.specs.declared.refusal.Refusal.TheVariants.{PageFault, LongSearch, PointerOutside, EndlessChain}
use Rattle.storage.specs.Words.{read_of}
use Rattle.paging.specs.declared.geometry.PageGeometry.{PageGeometry}
use Rattle.paging.specs.Numbers.{PlanNumbers}
use Rattle.paging.specs.Plan.{page_count, table_start}
use Rattle.page_table.specs.declared.entry.Tag.{Tag}
use Rattle.page_table.specs.declared.entry.Anchor.{Anchor}
use Rattle.page_table.specs.declared.entry.Link.{Link}
use Rattle.page_table.specs.declared.walk.Query.{Query}
use Rattle.page_table.specs.declared.walk.Found.{Found}
use Rattle.page_table.specs.declared.walk.Linked.{Linked}
use Rattle.page_table.specs.declared.walk.Fault.{Fault}
use Rattle.page_table.specs.declared.walk.Compared.{Compared}
use Rattle.page_table.specs.Entry.{tag_of, anchor_of, link_of, entry_of}

abbrev pub Outcome : Type 0
Outcome = Result Found Fault

abbrev pub LinkedOutcome : Type 0
LinkedOutcome = Result Linked Fault

-- what comes of one comparison: what the walk found, or the next entry; or a refusal
abbrev pub Turn : Type 0 → Type 0
Turn E = Result (ControlFlow E ℕ) Fault

-- a refusal after n comparisons, of which the last was that of `last`
abbrev pub fails : {E : Type 0} → Refusal → ℕ → Option ℕ → Result E Fault
fails r n last = Err (record { refusal = r; compared = record { count = n; last = last } })

-- what was compared, with one entry more
abbrev pub with_entry : Compared → ℕ → Compared
with_entry c i = record { count = c.count + 1; last = Some i }

-- a refusal before any entry is compared
abbrev pub uncompared : Refusal → Fault
uncompared r = record { refusal = r; compared = record { count = 0; last = None } }

-- what comes of a word that is read, or refused
abbrev pub read_then : {X : Type 0} → Result ℕ Refusal → (Refusal → X) → (ℕ → X) → X
read_then (Ok w) refused next = next w
read_then (Err r) refused next = refused r

-- a word that is read after n comparisons, of which the last was that of `last`
abbrev pub word_of : List ℕ → ℕ → ℕ → Option ℕ → Result ℕ Fault
word_of ws p n last = read_then (read_of ws p) (λ r. fails r n last) (λ w. Ok w)

-- what comes after a word that may be refused
abbrev pub and_then : {X : Type 0} → Result ℕ Fault → (ℕ → Result X Fault) → Result X Fault
and_then (Ok w) next = next w
and_then (Err e) next = Err e

abbrev pub same_tag : Tag → Tag → Bool
same_tag a b = a.segment == b.segment && a.page == b.page

-- where the first word of entry i lies
abbrev pub place_of : Query → ℕ → ℕ
place_of q i = q.start + 4 * i

-- Behind entry i, which was compared as the n-th and differs: a last entry is a page fault; then comes the limit; then the
-- pointer.
abbrev pub followed : {E : Type 0} → Query → ℕ → ℕ → Link → Turn E
followed q i n link =
    cond
    link.last
    (fails PageFault n (Some i))
    (cond
    (n == q.limit)
    (fails q.stop n (Some i))
    (cond (nat_lt link.next q.entries) (Ok (Continue link.next)) (fails PointerOutside n (Some i))))

abbrev pub passed : List ℕ → Query → ℕ → ℕ → Turn Found
passed ws q i n = and_then (word_of ws (place_of q i + 1) n (Some i)) (λ w1. followed q i n (link_of w1))

-- An entry that is equal ends the walk, with what it says of its page.
abbrev pub matched : PageGeometry → List ℕ → Query → ℕ → ℕ → ℕ → Turn Found
matched f ws q i n w0 =
    and_then (word_of ws (place_of q i + 2) n (Some i)) (λ w2.
    Ok (Break (record { entry = i; page = entry_of f w0 w2; compared = n })))

-- The whole tag of entry i is compared, as the n-th.
abbrev pub judged : PageGeometry → List ℕ → Query → ℕ → ℕ → ℕ → Turn Found
judged f ws q i n w0 = cond (same_tag (tag_of f w0) q.tag) (matched f ws q i n w0) (passed ws q i n)

-- Entry i is compared, after n others, of which the last was `last`. It counts as soon as its tag is read.
abbrev pub turned : PageGeometry → List ℕ → Query → ℕ → ℕ → Option ℕ → Turn Found
turned f ws q i n last = and_then (word_of ws (place_of q i) n last) (λ w0. judged f ws q i (n + 1) w0)

-- Where words 0 and 1 are read before the comparison, an entry that is equal ends the walk with its link too.
abbrev pub matched_ahead : PageGeometry → List ℕ → Query → ℕ → ℕ → ℕ → ℕ → Turn Linked
matched_ahead f ws q i n w0 w1 =
    and_then (word_of ws (place_of q i + 2) n (Some i)) (λ w2.
    Ok (Break (record { found = record { entry = i; page = entry_of f w0 w2; compared = n + 1 }; link = link_of w1 })))

-- The whole tag of entry i is compared, after n others.
abbrev pub judged_ahead : PageGeometry → List ℕ → Query → ℕ → ℕ → ℕ → ℕ → Turn Linked
judged_ahead f ws q i n w0 w1 =
    cond (same_tag (tag_of f w0) q.tag) (matched_ahead f ws q i n w0 w1) (followed q i (n + 1) (link_of w1))

-- Entry i is compared, after n others, once words 0 and 1 are read. Where a word of it is not there, it is the last, and does
-- not count.
abbrev pub turned_ahead : PageGeometry → List ℕ → Query → ℕ → ℕ → Option ℕ → Turn Linked
turned_ahead f ws q i n last =
    and_then (word_of ws (place_of q i) n (Some i)) (λ w0.
    and_then (word_of ws (place_of q i + 1) n (Some i)) (λ w1.
    judged_ahead f ws q i n w0 w1))

-- Which entry a refusal names as the last before entry i is compared: the one before it, or where words are read before the
-- comparison, itself.
abbrev pub before : ℕ → Option ℕ → Option ℕ
before i last = last

abbrev pub itself : ℕ → Option ℕ → Option ℕ
itself i last = Some i

abbrev pub gone_on : {E : Type 0} → Turn E → (ℕ → Result E Fault) → Result E Fault
gone_on (Ok (Break x)) on = Ok x
gone_on (Ok (Continue next)) on = on next
gone_on (Err e) on = Err e

-- the walk from entry i on, by turns, after n comparisons, of which the last was that of `last`; there are at most `fuel` more
unfoldable pub chain :
    {E : Type 0} → (ℕ → Option ℕ → Option ℕ) → (ℕ → ℕ → Option ℕ → Turn E) → Query → ℕ → ℕ → ℕ → Option ℕ → Result E Fault
chain reached turn q zero i n last = fails q.stop n (reached i last)
chain reached turn q (suc fuel) i n last =
    gone_on (turn i n last) (λ next. chain reached turn q fuel next (n + 1) (Some i))

-- The chain starts at the anchor's pointer. An empty anchor is a page fault.
abbrev pub anchored :
    {E : Type 0} → (ℕ → Option ℕ → Option ℕ) → (ℕ → ℕ → Option ℕ → Turn E) → Query → Anchor → Result E Fault
anchored reached turn q a =
    cond
    a.empty
    (fails PageFault 0 None)
    (cond (nat_lt a.first q.entries) (chain reached turn q q.limit a.first 0 None) (fails PointerOutside 0 None))

-- The hash of a virtual page names its anchor: (s XOR v) mod P.
abbrev pub hash_of : Query → ℕ
hash_of q = bit_xor q.tag.segment q.tag.page % q.entries

-- the search by turns
abbrev pub found_by :
    {E : Type 0} → (ℕ → Option ℕ → Option ℕ) → (ℕ → ℕ → Option ℕ → Turn E) → List ℕ → Query → Result E Fault
found_by reached turn ws q =
    read_then (read_of ws (place_of q (hash_of q) + 1)) (λ r. fails r 0 None) (λ w1. anchored reached turn q (anchor_of w1))

abbrev pub found_in : PageGeometry → List ℕ → Query → Outcome
found_in f ws q = found_by before (turned f ws q) ws q

abbrev pub searched : PageGeometry → List ℕ → Query → LinkedOutcome
searched f ws q = found_by itself (turned_ahead f ws q) ws q

-- Where a walk goes on after n comparisons, that is not the limit, and the next entry is one of the table.
abbrev pub Going : {E : Type 0} → Query → ℕ → Turn E → Type 0
Going q n (Ok (Break x)) = Unit {0}
Going q n (Ok (Continue next)) = (n ≡ q.limit → ⊥) × (next < q.entries)
Going q n (Err e) = Unit {0}

-- The limit is 127 with the long-stop bit on, and else P.
abbrev pub query_of : PlanNumbers → Bool → Tag → Query
query_of plan long tag =
    record {
      start = table_start plan.form plan.exponent plan.base / 4;
      entries = page_count plan.form plan.exponent;
      tag = tag;
      limit = cond long 127 (page_count plan.form plan.exponent);
      stop = cond long LongSearch EndlessChain;
    }

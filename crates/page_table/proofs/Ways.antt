-- The ways in which the comparison of one entry can end.
use Rattle.std.proofs.Common.{◌≡◌, ℕ, ◌+◌, ◌<◌, true, false, eqb, ltb, List, length, get_or, Some, Ok, Err, Option, Result, Continue, Break}
use Rattle.std.proofs.lemmas.Bool.{cond_both, ltb-true, eqb-false}
use Rattle.refusals.specs.declared.refusal.Refusal.{Refusal}
use Rattle.refusals.specs.declared.refusal.Refusal.TheVariants.{WordOutside, PageFault, PointerOutside}
use Rattle.storage.specs.Words.{read_of}
use Rattle.paging.specs.declared.geometry.PageGeometry.{PageGeometry}
use Rattle.page_table.specs.declared.entry.Link.{Link}
use Rattle.page_table.specs.declared.walk.Query.{Query}
use Rattle.page_table.specs.declared.walk.Found.{Found}
use Rattle.page_table.specs.declared.walk.Linked.{Linked}
use Rattle.page_table.specs.declared.walk.Fault.{Fault}
use Rattle.page_table.specs.Entry.{link_of}
use Rattle.page_table.specs.Search.{Turn, fails, read_then, place_of, word_of, and_then, followed, judged, turned, judged_ahead, turned_ahead, Going}
use Rattle.page_table.specs.Laws.{entry_at, link_at, equal_at}

-- a word that is read is there, or is refused as outside
pub read_ways :
    (ws : List ℕ) (n : ℕ) (P : Result ℕ Refusal → Type 0) →
    (n < length ws → P (Ok (get_or ws n 0))) →
    P (Err WordOutside) →
    P (read_of ws n)
read_ways ws n P there outside =
    cond_both (ltb n (length ws)) _ _ P (λ e. there (ltb-true n (length ws) e)) (λ _. outside)

-- what comes after a word: the word is there, or the refusal stands
word_ways :
    {X : Type 0} (ws : List ℕ) (p n : ℕ) (last : Option ℕ) (next : ℕ → Result X Fault) (P : Result X Fault → Type 0) →
    P (next (get_or ws p 0)) →
    P (fails WordOutside n last) →
    P (and_then (word_of ws p n last) next)
word_ways ws p n last next P there outside =
    read_ways ws p (λ r. P (and_then (read_then r (λ e. fails e n last) (λ w. Ok w)) next)) (λ _. there) outside

followed_ways :
    {E : Type 0} (q : Query) (i n : ℕ) (link : Link) (P : Turn E → Type 0) →
    ((r : Refusal) → P (fails r n (Some i))) →
    (link.last ≡ false → (n ≡ q.limit → ⊥) → link.next < q.entries → P (Ok (Continue link.next))) →
    P (followed q i n link)
followed_ways q i n link P stop on =
    cond_both link.last _ _ P (λ _. stop PageFault) (λ unlast.
    cond_both (eqb n q.limit) _ _ P (λ _. stop q.stop) (λ below.
    cond_both (ltb link.next q.entries) _ _ P
    (λ e. on unlast (eqb-false n q.limit below) (ltb-true link.next q.entries e))
    (λ _. stop PointerOutside)))

-- Entry i is compared after n others: its tag word is not there; or it is equal, and its lock word is not there, or it is
-- found; or it differs, and the search stops, or goes on to the entry that its pointer names.
pub turned_ways :
    (f : PageGeometry) (ws : List ℕ) (q : Query) (i n : ℕ) (last : Option ℕ) (P : Turn Found → Type 0) →
    P (fails WordOutside n last) →
    (equal_at f ws q i ≡ true → P (fails WordOutside (n + 1) (Some i))) →
    (equal_at f ws q i ≡ true → P (Ok (Break (record { entry = i; page = entry_at f ws q i; compared = n + 1 })))) →
    (equal_at f ws q i ≡ false → (r : Refusal) → P (fails r (n + 1) (Some i))) →
    (equal_at f ws q i ≡ false →
    (link_at ws q i).last ≡ false →
    (n + 1 ≡ q.limit → ⊥) →
    (link_at ws q i).next < q.entries →
    P (Ok (Continue (link_at ws q i).next))) →
    P (turned f ws q i n last)
turned_ways f ws q i n last P untold unlocked found stop on =
    word_ways ws (place_of q i) n last (λ w0. judged f ws q i (n + 1) w0) P
    (cond_both (equal_at f ws q i) _ _ P
    (λ e. word_ways ws (place_of q i + 2) (n + 1) (Some i) _ P (found e) (unlocked e))
    (λ e. word_ways ws (place_of q i + 1) (n + 1) (Some i) (λ w1. followed q i (n + 1) (link_of w1)) P
    (followed_ways q i (n + 1) (link_at ws q i) P (stop e) (on e))
    (stop e WordOutside)))
    untold

pub turned_going :
    (f : PageGeometry) (ws : List ℕ) (q : Query) (i n : ℕ) (last : Option ℕ) → Going q (n + 1) (turned f ws q i n last)
turned_going f ws q i n last =
    turned_ways f ws q i n last (Going q (n + 1)) tt (λ _. tt) (λ _. tt) (λ _ _. tt) (λ _ _ below inside. (below, inside))

-- Where words 0 and 1 are read before the comparison: one of them is not there, or the lock word of an entry that is equal is
-- not; or the entry is found, with its link; or it differs, and the search stops, or goes on to the entry that its pointer
-- names.
pub ahead_ways :
    (f : PageGeometry) (ws : List ℕ) (q : Query) (i n : ℕ) (last : Option ℕ) (P : Turn Linked → Type 0) →
    P (fails WordOutside n (Some i)) →
    (equal_at f ws q i ≡ true →
    P (Ok (Break (record { found = record { entry = i; page = entry_at f ws q i; compared = n + 1 }; link = link_at ws q i })))) →
    ((r : Refusal) → P (fails r (n + 1) (Some i))) →
    ((link_at ws q i).last ≡ false →
    (n + 1 ≡ q.limit → ⊥) →
    (link_at ws q i).next < q.entries →
    P (Ok (Continue (link_at ws q i).next))) →
    P (turned_ahead f ws q i n last)
ahead_ways f ws q i n last P untold found stop on =
    word_ways ws (place_of q i) n (Some i)
    (λ w0. and_then (word_of ws (place_of q i + 1) n (Some i)) (λ w1. judged_ahead f ws q i n w0 w1)) P
    (word_ways ws (place_of q i + 1) n (Some i) (λ w1. judged_ahead f ws q i n (get_or ws (place_of q i) 0) w1) P
    (cond_both (equal_at f ws q i) _ _ P
    (λ e. word_ways ws (place_of q i + 2) n (Some i) _ P (found e) untold)
    (λ _. followed_ways q i (n + 1) (link_at ws q i) P stop on))
    untold)
    untold

pub ahead_going :
    (f : PageGeometry) (ws : List ℕ) (q : Query) (i n : ℕ) (last : Option ℕ) → Going q (n + 1) (turned_ahead f ws q i n last)
ahead_going f ws q i n last =
    ahead_ways f ws q i n last (Going q (n + 1)) tt (λ _. tt) (λ _. tt) (λ _ below inside. (below, inside))

-- The bench image: a storage of 64 KiB whose page table starts at byte 1,024. Register 1 has segment ID 5. Anchor 3 points to
-- entry 9, and every other anchor is empty. The second word of real page 9 is 11223344 hex. All else is 0.
use Rattle.std.specs.Prelude.{ℕ, ◌+◌, ◌-◌, ◌*◌, ◌/◌, ◌%◌, ◌^◌, ◌≤◌, Bool, true, false, cond, ◌&&◌, List, length, ◌==◌, nat_lt}
use Rattle.std.proofs.Common.{arith}
use Rattle.storage.specs.Words.{tabulated, word_limit}
use Rattle.storage.proofs.Tabulated.{length-tabulated}
use Rattle.paging.specs.declared.geometry.PageGeometry.{PageGeometry}
use Rattle.paging.specs.Plan.{page_count}
use Rattle.trials.specs.declared.bench.Target.{Target}
use Rattle.trials.specs.declared.bench.Target.TheVariants.{Nine, Four, Outside}
use Rattle.trials.specs.declared.bench.Trial.{Trial}

abbrev pub target_of : PageGeometry → Target → ℕ
target_of f Nine = 9
target_of f Four = 4
target_of f Outside = page_count f 16

abbrev pub is_four : Target → Bool
is_four Nine = false
is_four Four = true
is_four Outside = false

-- a tag of segment ID 5
abbrev pub tag_word : PageGeometry → ℕ → ℕ
tag_word f page = 5 * 2 ^ 17 + page * 2 ^ (17 - f.width)

-- Word 0 has key and tag. Entry 4 has the tag of page 38 where anchor 3 points to it.
abbrev pub word0 : PageGeometry → Trial → ℕ → ℕ
word0 f t e =
    cond
    (e == 9)
    (t.entry.key % 4 * 2 ^ 30 + tag_word f t.entry.page)
    (cond (e == 4 && is_four t.target) (tag_word f 38) 0)

-- Word 1 has anchor and link. Entry 4 points to entry 9.
abbrev pub anchor_word : PageGeometry → Trial → ℕ → ℕ
anchor_word f t e = cond (e == 3) (target_of f t.target * 2 ^ 16) (2 ^ 31)

abbrev pub link_word : Trial → ℕ → ℕ
link_word t e = cond (e == 9) (cond t.entry.last (2 ^ 15) 9) (cond (e == 4 && is_four t.target) 9 0)

-- Word 2 has write bit, transaction ID and lock bits.
abbrev pub word2 : Trial → ℕ → ℕ
word2 t e =
    cond (e == 9) (cond t.entry.write (2 ^ 24) 0 + t.entry.transaction * 2 ^ 16 + t.entry.locks) 0

abbrev pub table_word : PageGeometry → Trial → ℕ → ℕ → ℕ
table_word f t e part =
    cond
    (part == 0)
    (word0 f t e)
    (cond (part == 1) (anchor_word f t e + link_word t e) (cond (part == 2) (word2 t e) 0))

abbrev pub bench_word : PageGeometry → Trial → ℕ → ℕ
bench_word f t n =
    cond
    (n == (9 * f.page + 4) / 4)
    287454020
    (cond
    (nat_lt n 256)
    0
    (cond (nat_lt n (256 + 4 * page_count f 16)) (table_word f t ((n - 256) / 4) ((n - 256) % 4)) 0))

abbrev pub bench_words : PageGeometry → Trial → List ℕ
bench_words f t = tabulated 16384 (bench_word f t)

pub bench_bounded : (f : PageGeometry) (t : Trial) → length (bench_words f t) ≤ word_limit
bench_bounded f t = omega (arith, length-tabulated 16384 (bench_word f t))

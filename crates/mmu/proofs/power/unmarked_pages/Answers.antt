use Rattle.std.proofs.Common.{◌≡◌, rules, replicate, ap}
use Rattle.unit_state.specs.declared.state.PageMark.{PageMark}
use Rattle.unit_state.specs.State.{no_mark}
use Rattle.mmu.proofs.power.unmarked_pages.Goals as goal

-- Said here, since the search gives up: the equality of two marks stands under `replicate 8192`.
pub returns : goal.returns
returns c = let is : c.default.result ≡ no_mark = search rules in ap (λ (m : PageMark). replicate 8192 m) is

use Rattle.std.proofs.Common.{◌≡◌, ap, ◌∙◌}
use Rattle.paging.specs.Numbers.{drafted}
use Rattle.unit_state.specs.State.{powered_on}
use Rattle.runs.specs.SetUp.{set_up}
use Rattle.survey.specs.declared.call_check.TheConstants.{REGISTERS}
use Rattle.mapped_markers.proofs.Copies.{copies_alike}
use Rattle.mapped_markers.proofs.both.run_on_copies.Goals as goal

pub returns : goal.returns
returns g c =
    let numbers = drafted g.F.PageForm.sizes in
    let table = c.in_ok-closed.ensures in
    let runs = c.in_ok-runs.ensures.law in
    record {
      closed = table.1;
      same = copies_alike
          (numbers c.args.draft)
          (numbers c.in_ok-closed.draft)
          (set_up powered_on REGISTERS)
          c.args.calls.now
          (g.R.ReadStorage.words c.args.image.now)
          _
          _
          _
          _
          _
          _
          c.in_ok-closed.closed
          runs.0
          (ap numbers table.2)
          c.in_ok-lay_out.ensures.after
          c.in_ok-lay_out-2.ensures.after
          table.0
          table.1;
      back = runs.1 ∙ table.2;
    }

use Rattle.std.proofs.Common.{ap}
use Rattle.std.proofs.Math.ListN.{drop_of_length-le}
use Rattle.dap_profile.specs.RowRanges.{rows_in}
use Rattle.dap_flat_message.proofs.Shown.{none_marked, stretch_marked, all_marked}
use Rattle.dap_flat_message.proofs.row_marks.mark_stretches.Goals as goal

pub loop-rows-init : goal.loop-rows-init
loop-rows-init c =
    none_marked (rows_in c.args.stretches.now) c.args.side c.args.found.now c.args.nodes.now

pub loop-rows-preserved : goal.loop-rows-preserved
loop-rows-preserved c =
    stretch_marked (rows_in c.args.stretches.now) c.args.stretches.now c.loop-rows.rows-index _
    c.args.side c.args.found.now c.args.nodes.now c.loop-rows.nodes c.mark_rows.new.nodes
    c.loop-rows-test.true
    c.loop-rows.invariant c.in_ok-mark_rows.ensures

pub returns : goal.returns
returns c =
    all_marked (rows_in c.args.stretches.now) _ c.args.side c.args.found.now c.args.nodes.now
    c.loop-rows.nodes
    (ap rows_in (drop_of_length-le c.args.stretches.now c.loop-rows-test.false))
    c.loop-rows.invariant

use Rattle.std.proofs.Common.{map, ap}
use Rattle.std.proofs.Math.ListN.{drop_of_length-le}
use Rattle.dap_profile.specs.ProfileRows.{row_of}
use Rattle.dap_flat_message.proofs.Shown.{none_marked, row_marked, all_marked}
use Rattle.dap_flat_message.proofs.row_marks.mark_rows.Goals as goal

pub loop-row-init : goal.loop-row-init
loop-row-init c =
    none_marked (map row_of c.args.rows.now) c.args.side c.args.found.now c.args.nodes.now

pub loop-row-preserved : goal.loop-row-preserved
loop-row-preserved c =
    row_marked (map row_of c.args.rows.now) c.args.rows.now c.loop-row.row-index _ c.args.side
    c.args.found.now c.args.nodes.now c.loop-row.nodes c.mark_row.new.nodes c.loop-row-test.true
    c.loop-row.invariant c.in_ok-mark_row.ensures

pub returns : goal.returns
returns c =
    all_marked (map row_of c.args.rows.now) _ c.args.side c.args.found.now c.args.nodes.now
    c.loop-row.nodes
    (ap (map row_of) (drop_of_length-le c.args.rows.now c.loop-row-test.false)) c.loop-row.invariant

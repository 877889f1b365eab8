use Rattle.dap_tree.specs.View.{view}
use Rattle.std.proofs.Common.{◌≡◌, drop}
use Rattle.dap_profile.specs.RowRanges.{rows_in}
use Rattle.dap_message.specs.AskedRows.{marks_by}
use Rattle.dap_message.proofs.marks.mark.Given as goal

abbrev pub invariant-loop-rows : goal.invariant-loop-rows
invariant-loop-rows l =
    marks_by (rows_in (drop l.rows-index l.stretches)) l.side (view l.tree)
    ≡ marks_by (rows_in l.stretches) l.side (view l.initial.tree)

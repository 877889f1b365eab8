use Rattle.std.proofs.Common.{drop}
use Rattle.dap_profile.specs.RowRanges.{rows_in}
use Rattle.dap_flat_message.specs.Marked.{AreMarked}
use Rattle.dap_flat_message.proofs.row_marks.mark_stretches.Given as goal

abbrev pub invariant-loop-rows : goal.invariant-loop-rows
invariant-loop-rows l =
    AreMarked (rows_in l.stretches) (rows_in (drop l.rows-index l.stretches)) l.side
    l.found l.initial.nodes l.nodes

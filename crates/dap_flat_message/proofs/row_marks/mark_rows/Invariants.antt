use Rattle.std.proofs.Common.{drop, map}
use Rattle.dap_profile.specs.ProfileRows.{row_of}
use Rattle.dap_flat_message.specs.Marked.{AreMarked}
use Rattle.dap_flat_message.proofs.row_marks.mark_rows.Given as goal

abbrev pub invariant-loop-row : goal.invariant-loop-row
invariant-loop-row l =
    AreMarked (map row_of l.rows) (map row_of (drop l.row-index l.rows)) l.side l.found
    l.initial.nodes l.nodes

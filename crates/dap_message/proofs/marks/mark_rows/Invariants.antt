use Rattle.dap_tree.specs.View.{view}
use Rattle.std.proofs.Common.{◌≡◌, drop, map}
use Rattle.dap_profile.specs.ProfileRows.{row_of}
use Rattle.dap_message.specs.AskedRows.{marks_by}
use Rattle.dap_message.proofs.marks.mark_rows.Given as goal

-- the remaining rows have the same effect on this tree as all rows on the initial one
abbrev pub invariant-loop-row : goal.invariant-loop-row
invariant-loop-row l =
    marks_by (map row_of (drop l.row-index l.rows)) l.side (view l.tree)
    ≡ marks_by (map row_of l.rows) l.side (view l.initial.tree)

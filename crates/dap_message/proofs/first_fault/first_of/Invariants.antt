use Rattle.dap_tree.specs.View.{view}
use Rattle.std.proofs.Common.{◌≡◌, drop, map}
use Rattle.dap_profile.specs.ProfileRows.{row_of}
use Rattle.dap_message.specs.AskedRows.{first_by}
use Rattle.dap_message.proofs.first_fault.first_of.Given as goal

abbrev pub invariant-loop-row : goal.invariant-loop-row
invariant-loop-row l =
    first_by (map row_of l.rows) (view l.tree)
    ≡ first_by (map row_of (drop l.row-index l.rows)) (view l.tree)

use Rattle.dap_tree.specs.View.{view}
use Rattle.std.proofs.Common.{◌≡◌, drop}
use Rattle.dap_profile.specs.RowRanges.{rows_in}
use Rattle.dap_message.specs.AskedRows.{first_by}
use Rattle.dap_message.proofs.first_fault.first_broken.Given as goal

abbrev pub invariant-loop-rows : goal.invariant-loop-rows
invariant-loop-rows l =
    first_by (rows_in l.stretches) (view l.tree)
    ≡ first_by (rows_in (drop l.rows-index l.stretches)) (view l.tree)

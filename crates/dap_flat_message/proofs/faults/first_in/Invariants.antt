use Rattle.std.proofs.Common.{drop}
use Rattle.dap_profile.specs.RowRanges.{rows_in}
use Rattle.dap_flat_message.specs.Heads.{AreRowsLeft}
use Rattle.dap_flat_message.proofs.faults.first_in.Given as goal

abbrev pub invariant-loop-rows : goal.invariant-loop-rows
invariant-loop-rows l =
    AreRowsLeft l.nodes l.found (rows_in l.stretches) (rows_in (drop l.rows-index l.stretches))

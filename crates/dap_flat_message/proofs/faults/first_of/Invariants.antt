use Rattle.std.proofs.Common.{drop, map}
use Rattle.dap_profile.specs.ProfileRows.{row_of}
use Rattle.dap_flat_message.specs.Heads.{AreRowsLeft}
use Rattle.dap_flat_message.proofs.faults.first_of.Given as goal

abbrev pub invariant-loop-row : goal.invariant-loop-row
invariant-loop-row l =
    AreRowsLeft l.nodes l.found (map row_of l.rows) (map row_of (drop l.row-index l.rows))

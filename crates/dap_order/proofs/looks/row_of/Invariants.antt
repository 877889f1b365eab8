use Rattle.std.proofs.Common.{◌≡◌, map, take}
use Rattle.dap_message.specs.SwapRules.{swaps_of}
use Rattle.dap_order.specs.Entries.{sent_by}
use Rattle.dap_order.specs.Looks.{blocks_at}
use Rattle.dap_order.proofs.looks.row_of.Given as goal

abbrev pub invariant-loop-other : goal.invariant-loop-other
invariant-loop-other g l =
    l.row.items ≡ map (blocks_at (swaps_of l.rules) (map sent_by l.entries) l.place)
    (take l.other-index l.firsts)

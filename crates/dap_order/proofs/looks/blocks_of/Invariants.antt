use Rattle.std.proofs.Common.{◌≡◌, map, take}
use Rattle.dap_message.specs.SwapRules.{swaps_of}
use Rattle.dap_order.specs.Entries.{sent_by}
use Rattle.dap_order.specs.Looks.{blocks_at}
use Rattle.dap_order.proofs.looks.blocks_of.Given as goal

abbrev pub invariant-loop-place : goal.invariant-loop-place
invariant-loop-place g l =
    map (λ row. row.items) l.blocks.items
    ≡ map (λ i. map (blocks_at (swaps_of l.rules) (map sent_by l.entries) i) l.firsts)
    (take l.place-index l.firsts)

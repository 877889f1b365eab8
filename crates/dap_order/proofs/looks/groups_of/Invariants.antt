use Rattle.std.proofs.Common.{map}
use Rattle.dap_message.specs.SwapRules.{swaps_of}
use Rattle.dap_order.specs.Entries.{sent_by}
use Rattle.dap_order.specs.Keys.{look_key}
use Rattle.dap_order.specs.Looks.{AreGroups}
use Rattle.dap_order.proofs.looks.groups_of.Given as goal

abbrev pub invariant-loop-place : goal.invariant-loop-place
invariant-loop-place g l =
    AreGroups (map (look_key (swaps_of l.rules)) (map sent_by l.entries)) l.place l.groups.items
    l.firsts.items

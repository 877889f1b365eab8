use Rattle.std.proofs.Common.{◌≡◌, map, take}
use Rattle.dap_order.specs.Entries.{sent_by}
use Rattle.dap_order.specs.Keys.{is_numbered_response}
use Rattle.dap_order.proofs.waits.are_responses.Given as goal

abbrev pub invariant-loop-entry : goal.invariant-loop-entry
invariant-loop-entry g l =
    l.found.items ≡ map is_numbered_response (map sent_by (take l.entry-index l.entries))

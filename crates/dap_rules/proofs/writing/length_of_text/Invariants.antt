use Rattle.std.proofs.Common.{◌≡◌, ◌≤◌, map, take}
use Rattle.dap_stored.specs.Sessions.{stored_sent}
use Rattle.dap_rules.specs.OrderingSteps.{IsLengthOf}
use Rattle.dap_rules.proofs.writing.length_of_text.Given as goal

abbrev pub invariant-loop-message : goal.invariant-loop-message
invariant-loop-message l = record {
  number : l.number ≡ l.message-index;
  within : l.len ≤ l.fn.limits.input;
  counted : IsLengthOf l.fn.limits (map stored_sent (take l.message-index l.messages)) l.len;
}

use Rattle.std.proofs.Common.{◌≡◌, map, take}
use Rattle.dap_stored.specs.Sessions.{stored_sent}
use Rattle.dap_normalise.specs.Accepting.{text}
use Rattle.dap_rules.proofs.writing.text_of_messages.Given as goal

abbrev pub invariant-loop-message : goal.invariant-loop-message
invariant-loop-message l =
    l.written.items ≡ text (map stored_sent (take l.message-index l.messages))

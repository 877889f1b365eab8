use Rattle.std.proofs.Common.{take}
use Rattle.dap_message.specs.SwapRules.{swaps_of}
use Rattle.dap_session.specs.EnvelopeView.{message_of}
use Rattle.dap_order.specs.Partners.{ArePartners}
use Rattle.dap_order.proofs.partners.partners_of.Given as goal

abbrev pub invariant-loop-rule : goal.invariant-loop-rule
invariant-loop-rule g l =
    ArePartners (swaps_of (take l.rule-index l.rules)) (message_of l.message) l.partners

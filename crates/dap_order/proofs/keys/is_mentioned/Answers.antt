use Rattle.std.proofs.Common.{◌∙◌}
use Rattle.dap_session.specs.EnvelopeView.{message_of}
use Rattle.dap_order.specs.Keys.{has_name_in}
use Rattle.dap_order.proofs.RuleLists.{any_swap}
use Rattle.dap_order.proofs.keys.is_mentioned.Goals as goal

pub returns : goal.returns
returns g c =
    c.some_has_name.ensures
    ∙ any_swap (λ r. has_name_in r (message_of c.args.message.now)) c.args.rules.now

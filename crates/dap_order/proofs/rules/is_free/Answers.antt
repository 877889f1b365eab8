use Rattle.std.proofs.Common.{◌≡◌, sym, ap, ◌∙◌, subst}
use Rattle.std.specs.Bool.{Decides}
use Rattle.dap_message.specs.SwapRules.{swaps_of}
use Rattle.dap_message.specs.Message.{sent}
use Rattle.dap_message.specs.declared.message.Message.{Message}
use Rattle.dap_session.specs.EnvelopeView.{message_of}
use Rattle.dap_order.specs.Free.{free}
use Rattle.dap_order.specs.Words.{IsFree}
use Rattle.dap_order.proofs.FreeInWords.{free_in_words}
use Rattle.dap_order.proofs.rules.is_free.Goals as goal

pub returns-clause-words : goal.returns-clause-words
returns-clause-words c =
    let rules = swaps_of c.args.rules.now in
    let x = sent c.args.x.now in
    let y = sent c.args.y.now in
    let same : c.frees.result ≡ free rules x y =
    c.frees.ensures
    ∙ ap (λ (m : Message). free rules (sent m) (message_of c.envelope_of-2.result))
    c.envelope_of.ensures
    ∙ ap (λ (m : Message). free rules x (sent m)) c.envelope_of-2.ensures in
    subst (λ b. Decides b (IsFree rules x y)) (sym same) (free_in_words rules x y)

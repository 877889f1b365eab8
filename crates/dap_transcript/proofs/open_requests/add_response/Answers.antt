use Rattle.std.proofs.Common.{◌∙◌, sym, Some}
use Rattle.dap_session.specs.Messages.{is_number}
use Rattle.dap_transcript.specs.Requests.{are_answered}
use Rattle.dap_transcript.proofs.RequestQueues.{none_noted, one_noted}
use Rattle.dap_transcript.proofs.open_requests.add_response.Goals as goal

pub returns-then-not-responds : goal.returns-then-not-responds
returns-then-not-responds c n =
    none_noted _ (is_number c.args.message.request n) (Some c.args.place)
    (are_answered c.args.answered.now n) (sym c.responds.ensures ∙ c.if-not-responds.true)

pub returns : goal.returns
returns c n =
    c.in_ok-note.ensures n
    ∙ one_noted _ (is_number c.args.message.request n) (Some c.args.place)
    (are_answered c.args.answered.now n) (sym c.responds.ensures ∙ c.if-not-responds.false)

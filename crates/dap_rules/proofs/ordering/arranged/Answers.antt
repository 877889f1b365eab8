use Rattle.std.proofs.Common.{Err, map, subst}
use Rattle.std.proofs.lemmas.Result.{err_from_is_err_and}
use Rattle.dap_message.specs.SwapRules.{swaps_of}
use Rattle.dap_stored.specs.Sessions.{messages_of, stored_sent}
use Rattle.dap_normalise.specs.{Accepting.IsAccepted, RecordTexts.contents_of}
use Rattle.dap_recording.specs.Recording.{recording_text}
use Rattle.dap_normalise.proofs.RecordTexts.{begin_all}
use Rattle.dap_order.specs.MessageOrder.{ordered}
use Rattle.dap_rules.specs.OrderingSteps.{AreWithin, Measures}
use Rattle.dap_rules.proofs.OrderAnswers.{not_counted, orders, own_records, own_refused}
use Rattle.dap_rules.proofs.ordering.arranged.Goals as goal

pub returns-in_err-messages-clause-err : goal.returns-in_err-messages-clause-err
returns-in_err-messages-clause-err c recording accepted =
    let because = err_from_is_err_and c.from_residual.result c.from_residual.ensures.1 in
    rw (because.1, because.2)
    (not_counted c.args.limits c.args.mode (swaps_of c.args.rules.now) recording
    (messages_of c.args.session) accepted _
    (subst (λ all. Measures c.args.limits all (Err c.in_err-messages.field-0.0)) c.in-Ok.ensures
    c.in_err-messages.ensures.err))

pub returns-in_err-check_messages-clause-err : goal.returns-in_err-check_messages-clause-err
returns-in_err-check_messages-clause-err c recording accepted =
    let because = err_from_is_err_and c.from_residual-in_err-check_messages.result
    c.from_residual-in_err-check_messages.ensures.1 in
    let rules = swaps_of c.args.rules.now in
    let ms = messages_of c.args.session in
    let all = map stored_sent c.in_ok-messages.messages.items in
    let within : AreWithin c.args.limits (ordered rules ms) all =
    subst (λ ns. AreWithin c.args.limits ns all) c.in-Ok.ensures c.in_ok-messages.ensures.ok in
    let own = own_records c.args.limits c.args.mode rules recording ms accepted c.requires.limits
    all within in
    rw (because.1, because.2)
    (own_refused c.args.limits c.args.mode rules recording ms accepted c.requires.limits all within
    _ (c.in_err-check_messages.ensures.err (contents_of all) (begin_all own)))

pub returns-clause-ok : goal.returns-clause-ok
returns-clause-ok c recording accepted =
    let rules = swaps_of c.args.rules.now in
    let ms = messages_of c.args.session in
    let all = map stored_sent c.in_ok-messages.messages.items in
    let within : AreWithin c.args.limits (ordered rules ms) all =
    subst (λ ns. AreWithin c.args.limits ns all) c.in-Ok.ensures c.in_ok-messages.ensures.ok in
    let is = c.in_ok-check_messages.ensures.ok (contents_of all)
    (own_records c.args.limits c.args.mode rules recording ms accepted c.requires.limits all within)
    in (
      recording_text (contents_of all),
      orders c.args.limits c.args.mode rules recording ms accepted c.requires.limits all within is,
      subst (IsAccepted c.args.limits c.args.mode (recording_text (contents_of all)))
          c.in_ok-messages.ensures.ok.same is,
    )

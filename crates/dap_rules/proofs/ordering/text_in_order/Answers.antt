use Rattle.std.proofs.lemmas.Result.{IfErr-weaker, IfOk-weaker, err_from_is_err_and}
use Rattle.dap_message.specs.SwapRules.{swaps_of}
use Rattle.dap_stored.specs.Sessions.{messages_of}
use Rattle.dap_rules.proofs.OrderAnswers.{arranged_text, not_written}
use Rattle.dap_rules.proofs.ordering.text_in_order.Goals as goal

pub returns-in_err-in_order-clause-err : goal.returns-in_err-in_order-clause-err
returns-in_err-in_order-clause-err c recording accepted =
    let because = err_from_is_err_and c.from_residual.result c.from_residual.ensures.1 in
    rw (because.1, because.2) (c.in_err-in_order.ensures.err recording accepted)

pub returns-clause-ok : goal.returns-clause-ok
returns-clause-ok c recording accepted =
    IfOk-weaker c.text_of_session.result _ _
    (λ written. arranged_text c.args.limits c.args.mode (swaps_of c.args.rules.now) recording
    (messages_of c.in_ok-in_order.in_order) (c.in_ok-in_order.ensures.ok recording accepted)
    written.items)
    c.text_of_session.ensures.ok

pub returns-clause-err : goal.returns-clause-err
returns-clause-err c recording accepted =
    IfErr-weaker c.text_of_session.result _ _
    (not_written c.args.limits c.args.mode (swaps_of c.args.rules.now) recording
    (messages_of c.in_ok-in_order.in_order) (c.in_ok-in_order.ensures.ok recording accepted))
    c.text_of_session.ensures.err

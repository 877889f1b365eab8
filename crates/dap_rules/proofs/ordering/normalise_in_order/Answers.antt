use Rattle.std.proofs.Common.{Result, Ok, Err, map, subst}
use Rattle.std.specs.Prelude.{IfOk}
use Rattle.std.proofs.lemmas.Result.{IfErr-weaker, err_from_is_err_and}
use Rattle.dap_message.specs.SwapRules.{swaps_of}
use Rattle.dap_stored.specs.Sessions.{messages_of, stored_sent}
use Rattle.dap_normalise.specs.RecordTexts.{contents_of}
use Rattle.dap_recording.specs.Recording.{recording_text}
use Rattle.dap_normalise.proofs.RecordTexts.{begin_all}
use Rattle.dap_order.specs.MessageOrder.{ordered}
use Rattle.dap_rules.specs.OrderingSteps.{AreWithin, Measures}
use Rattle.dap_rules.proofs.OrderAnswers.{not_counted, orders, own_records, own_refused}
use Rattle.dap_rules.proofs.ordering.normalise_in_order.Goals as goal

both_ok : {T E : Type 0} (r : Result T E) {P Q R : T → Type 0}
    → ((x : T) → P x → R x → Q x) → IfOk r P → IfOk r R → IfOk r Q
both_ok (Ok x) f p a = f x p a
both_ok (Err e) f p a = tt

pub returns-in_err-messages-clause-err : goal.returns-in_err-messages-clause-err
returns-in_err-messages-clause-err c recording accepted =
    let because = err_from_is_err_and c.from_residual.result c.from_residual.ensures.1 in
    rw (because.1, because.2)
    (not_counted c.args.limits c.args.mode (swaps_of c.args.rules.now) recording
    (messages_of c.args.session) accepted _
    (subst (λ all. Measures c.args.limits all (Err c.in_err-messages.field-0.0)) c.in-Ok.ensures
    c.in_err-messages.ensures.err))

pub returns-clause-err : goal.returns-clause-err
returns-clause-err c recording accepted =
    let rules = swaps_of c.args.rules.now in
    let ms = messages_of c.args.session in
    let all = map stored_sent c.in_ok-messages.messages.items in
    let within : AreWithin c.args.limits (ordered rules ms) all =
    subst (λ ns. AreWithin c.args.limits ns all) c.in-Ok.ensures c.in_ok-messages.ensures.ok in
    let own = own_records c.args.limits c.args.mode rules recording ms accepted c.requires.limits
    all within in
    IfErr-weaker c.normalise_messages.result _ _
    (own_refused c.args.limits c.args.mode rules recording ms accepted c.requires.limits all within)
    (c.normalise_messages.ensures.err (contents_of all) (begin_all own))

pub returns-clause-ok : goal.returns-clause-ok
returns-clause-ok c recording accepted =
    let rules = swaps_of c.args.rules.now in
    let ms = messages_of c.args.session in
    let all = map stored_sent c.in_ok-messages.messages.items in
    let within : AreWithin c.args.limits (ordered rules ms) all =
    subst (λ ns. AreWithin c.args.limits ns all) c.in-Ok.ensures c.in_ok-messages.ensures.ok in
    let own = own_records c.args.limits c.args.mode rules recording ms accepted c.requires.limits
    all within in
    both_ok c.normalise_messages.result
    (λ session is in_order. (
      recording_text (contents_of all),
      orders c.args.limits c.args.mode rules recording ms accepted c.requires.limits all within
          in_order,
      is,
    )) (c.normalise_messages.ensures.ok (contents_of all) own)
    (c.normalise_messages.ensures.accepted (contents_of all) own)

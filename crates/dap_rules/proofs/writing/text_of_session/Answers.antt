use Rattle.std.proofs.Common.{◌∙◌, Err, ap, map, subst}
use Rattle.std.proofs.lemmas.Result.{err_from_is_err_and}
use Rattle.dap_stored.specs.Sessions.{stored_sent}
use Rattle.dap_normalise.specs.Accepting.{text}
use Rattle.dap_rules.specs.OrderingSteps.{Measures}
use Rattle.dap_rules.proofs.writing.text_of_session.Goals as goal

pub returns-in_err-len-clause-err : goal.returns-in_err-len-clause-err
returns-in_err-len-clause-err c =
    let because = err_from_is_err_and c.from_residual.result c.from_residual.ensures.1 in
    rw (because.1, because.2)
    (subst (λ all. Measures c.args.limits all (Err c.in_err-len.field-0.0))
    (ap (map stored_sent) c.as_slice.ensures.value ∙ c.in-Ok.ensures.ok) c.in_err-len.ensures)

pub returns-in-Ok-text_of_messages-clause-ok : goal.returns-in-Ok-text_of_messages-clause-ok
returns-in-Ok-text_of_messages-clause-ok c =
    c.in-Ok-text_of_messages.ensures
    ∙ ap text (ap (map stored_sent) c.as_slice-2.ensures.value ∙ c.in-Ok.ensures.ok)

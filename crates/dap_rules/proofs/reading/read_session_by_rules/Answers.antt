use Rattle.std.proofs.Common.{inl, subst}
use Rattle.std.specs.Prelude.{IfErr, IfOk}
use Rattle.dap_mask.specs.KeptRules.{mask_of}
use Rattle.dap_stored.specs.Sessions.{messages_of}
use Rattle.dap_rules.specs.Applying.{IsNotNormalised, MakesSession}
use Rattle.dap_rules.proofs.InputAnswers.{answers}
use Rattle.dap_rules.proofs.reading.read_session_by_rules.Goals as goal

pub returns-clause-outcome : goal.returns-clause-outcome
returns-clause-outcome g c =
    let mask = mask_of c.args.rules.now in
    answers g.R.Source c.args.limits c.args.mode mask c.args.reader.now c.read_all.new.reader
    c.in-Ok.input.bytes.items c.session_by_rules.result c.session_of_input.result
    c.in-Ok.input.stop c.in-Ok.ensures.came
    (subst (λ bytes. IfOk c.session_by_rules.result (λ session. MakesSession c.args.limits
    c.args.mode mask bytes (messages_of session))) c.as_slice.ensures.value
    c.session_by_rules.ensures.ok)
    (subst (λ bytes. IfErr c.session_by_rules.result
    (IsNotNormalised c.args.limits c.args.mode mask bytes)) c.as_slice.ensures.value
    c.session_by_rules.ensures.err)
    c.session_of_input.ensures

pub returns-in-Err-clause-outcome : goal.returns-in-Err-clause-outcome
returns-in-Err-clause-outcome g c = inl c.in-Err.ensures.partly

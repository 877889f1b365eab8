use Rattle.std.proofs.lemmas.Result.{IfErr-weaker, IfOk-weaker}
use Rattle.dap_stored.specs.Sessions.{messages_of}
use Rattle.dap_golden.proofs.WrittenFiles.{not_written}
use Rattle.dap_golden.proofs.forms.transcript_of_session.Goals as goal

pub returns-in-Ok-clause-ok : goal.returns-in-Ok-clause-ok
returns-in-Ok-clause-ok c =
    IfOk-weaker c.transcript_of.result _ _
    (λ bytes same. (messages_of c.in-Ok.session, c.in-Ok.ensures.ok, same))
    c.transcript_of.ensures.ok

pub returns-in-Ok-clause-err : goal.returns-in-Ok-clause-err
returns-in-Ok-clause-err c =
    IfErr-weaker c.transcript_of.result _ _
    (not_written c.args.limits c.args.mode c.args.text.now (messages_of c.in-Ok.session)
    c.in-Ok.ensures.ok) c.transcript_of.ensures.err

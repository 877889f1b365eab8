use Rattle.std.proofs.lemmas.Result.{IfErr-weaker, IfOk-weaker}
use Rattle.dap_stored.specs.Sessions.{messages_of}
use Rattle.dap_normalise.proofs.WholeInput.{whole_accepted, whole_refused}
use Rattle.dap_normalise.proofs.sessions.read_session.Goals as goal

pub returns-clause-ok : goal.returns-clause-ok
returns-clause-ok c =
    let whole = whole_accepted c.args.limits c.args.mode c.new-reader.ensures
    c.read_session_from.new.reader in
    IfOk-weaker c.read_session_from.result _ _ (λ session. whole (messages_of session))
    c.read_session_from.ensures.ok

pub returns-clause-err : goal.returns-clause-err
returns-clause-err c =
    IfErr-weaker c.read_session_from.result _ _
    (whole_refused c.args.limits c.args.mode c.new-reader.ensures c.read_session_from.new.reader)
    c.read_session_from.ensures.err

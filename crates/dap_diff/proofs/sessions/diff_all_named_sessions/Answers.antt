use Rattle.dap_stored.specs.Sessions.{messages_of}
use Rattle.dap_diff.proofs.SessionTexts.{not_the_same}
use Rattle.dap_diff.proofs.sessions.diff_all_named_sessions.Goals as goal

pub returns : goal.returns
returns g c =
    not_the_same c.args.mode (messages_of c.args.a.now) (messages_of c.args.b.now) _
    (rw c.in-Differ.is at c.in_ok-diff_sessions.ensures).0

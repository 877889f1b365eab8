use Rattle.std.proofs.Common.{subst}
use Rattle.dap_compare.specs.Sessions.{DifferFirstAt, IsVerdictOn}
use Rattle.dap_stored.specs.Sessions.{messages_of}
use Rattle.dap_suggest.proofs.sessions.first_difference.Goals as goal

pub returns : goal.returns
returns c =
    let ms = messages_of c.args.sessions.now.a in
    let ns = messages_of c.args.sessions.now.b in
    subst (λ m. DifferFirstAt m ms ns c.in-Differ.number) c.mode_by-mode.ensures
    (subst (IsVerdictOn c.mode_by-mode.result ms ns) c.in-Differ.is c.in_ok-verdict.ensures.verdict)

use Rattle.std.proofs.Common.{subst}
use Rattle.dap_mask.specs.KeptRules.{mask_of}
use Rattle.dap_stored.specs.Sessions.{messages_of}
use Rattle.dap_rules.specs.ApplyingSteps.{RecordsAreAccepted}
use Rattle.dap_rules.proofs.NamedByRules.{session_made}
use Rattle.dap_rules.proofs.named_by_rules.check_named.Goals as goal

pub returns : goal.returns
returns c =
    let limits = c.args.limits in
    let within = c.in-Ok.ensures.ok in
    session_made limits c.requires.limits c.args.mode (mask_of c.args.rules.now)
    c.args.rules.now.list.labelled c.requires.declared c.args.recording.now
    (messages_of c.in_ok-session.session) c.in_ok-session.ensures within.fits
    (subst (RecordsAreAccepted limits c.args.mode) within.same c.in-Ok-check_messages.ensures.ok)

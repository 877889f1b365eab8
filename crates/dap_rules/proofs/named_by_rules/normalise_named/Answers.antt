use Rattle.std.proofs.Common.{sym, subst}
use Rattle.dap_mask.specs.KeptRules.{mask_of}
use Rattle.dap_normalise.specs.RecordTexts.{Contain}
use Rattle.dap_stored.specs.Sessions.{messages_of}
use Rattle.dap_rules.specs.ApplyingSteps.{RecordsAreAccepted}
use Rattle.dap_rules.proofs.NamedByRules.{normal_made}
use Rattle.dap_rules.proofs.named_by_rules.normalise_named.Goals as goal

pub returns-in-Ok-normalise_messages : goal.returns-in-Ok-normalise_messages
returns-in-Ok-normalise_messages c =
    let limits = c.args.limits in
    let within = c.in-Ok.ensures.ok in
    normal_made limits c.requires.limits c.args.mode (mask_of c.args.rules.now)
    c.args.rules.now.list.labelled c.requires.declared c.args.recording.now
    (messages_of c.in_ok-session.session) c.in_ok-session.ensures within.fits
    (subst (RecordsAreAccepted limits c.args.mode) within.same
    c.in-Ok-normalise_messages.ensures.accepted)
    c.in-Ok-normalise_messages.normal
    (λ records contain. c.in-Ok-normalise_messages.ensures.ok records
    (subst (λ ms. Contain limits ms records) (sym within.same) contain))

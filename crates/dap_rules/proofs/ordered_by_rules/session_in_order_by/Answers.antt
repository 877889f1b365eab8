use Rattle.std.proofs.Common.{sym, subst}
use Rattle.dap_mask.specs.KeptRules.{mask_of}
use Rattle.dap_message.specs.SwapRules.{swaps_of}
use Rattle.dap_normalise.specs.Accepting.{IsAccepted}
use Rattle.dap_stored.specs.Sessions.{messages_of}
use Rattle.dap_rules.specs.ApplyingSteps.{IsRejectedInOrder}
use Rattle.dap_rules.proofs.Applied.{session_applied, session_refused}
use Rattle.dap_rules.proofs.ordered_by_rules.session_in_order_by.Goals as goal

pub returns-in-Ok-session_by-clause-ok : goal.returns-in-Ok-session_by-clause-ok
returns-in-Ok-session_by-clause-ok c =
    session_applied c.args.limits c.requires.limits c.args.mode c.args.rules.now
    c.args.recording.now c.in-Ok.masked c.in-Ok.ensures.ok (swaps_of c.swaps.result.now)
    c.swaps.ensures (λ written. IsAccepted c.args.limits c.args.mode written
    (messages_of c.in-Ok-session_by.session)) c.in-Ok-session_by.ensures.ok

pub returns-in-Err-session_by-clause-err : goal.returns-in-Err-session_by-clause-err
returns-in-Err-session_by-clause-err c =
    subst (IsRejectedInOrder c.args.limits c.args.mode (mask_of c.args.rules.now)
    c.args.recording.now)
    (sym c.order_refusal.ensures)
    (session_refused c.args.limits c.requires.limits c.args.mode c.args.rules.now
    c.args.recording.now c.in-Ok.masked c.in-Ok.ensures.ok (swaps_of c.swaps.result.now)
    c.swaps.ensures c.in-Err-session_by.refused c.in-Err-session_by.ensures.err)

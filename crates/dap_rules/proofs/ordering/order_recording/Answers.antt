use Rattle.std.proofs.Common.{List, subst, ℕ}
use Rattle.dap_stored.specs.Sessions.{messages_of}
use Rattle.dap_normalise.specs.Accepting.{IsAccepted}
use Rattle.dap_rules.proofs.ordering.order_recording.Goals as goal

pub returns-clause-ok : goal.returns-clause-ok
returns-clause-ok c =
    c.text_in_order.ensures.ok c.args.recording.items
    (subst (λ (bytes : List ℕ). IsAccepted c.args.limits c.args.mode bytes
    (messages_of c.in_ok-session.session)) c.as_slice.ensures.value c.in_ok-session.ensures.ok)

pub returns-clause-err : goal.returns-clause-err
returns-clause-err c =
    c.text_in_order.ensures.err c.args.recording.items
    (subst (λ (bytes : List ℕ). IsAccepted c.args.limits c.args.mode bytes
    (messages_of c.in_ok-session.session)) c.as_slice.ensures.value c.in_ok-session.ensures.ok)

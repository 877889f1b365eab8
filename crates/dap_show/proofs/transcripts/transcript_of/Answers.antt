use Rattle.std.proofs.Common.{List, ℕ, subst}
use Rattle.dap_normalise.specs.Accepting.{IsAccepted}
use Rattle.dap_rename.specs.declared.mode.Mode.TheVariants.{Whole}
use Rattle.dap_stored.specs.Sessions.{messages_of}
use Rattle.dap_show.proofs.transcripts.transcript_of.Goals as goal

pub returns-in-Ok-clause-ok : goal.returns-in-Ok-clause-ok
returns-in-Ok-clause-ok c = (
  messages_of c.in_ok-session.session,
  subst (λ (bytes : List ℕ). IsAccepted c.args.limits Whole bytes
      (messages_of c.in_ok-session.session)) c.as_slice.ensures.value c.in_ok-session.ensures.ok,
  c.in-Ok.ensures,
)

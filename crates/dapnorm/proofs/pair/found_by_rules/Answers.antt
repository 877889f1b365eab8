use Rattle.std.proofs.Common.{Err, inl, inr, refl, subst}
use Rattle.dap_host.specs.declared.limits.TheConstants.{LIMITS}
use Rattle.dap_mask.specs.KeptRules.{mask_of}
use Rattle.dap_rename.specs.declared.mode.Mode.{Mode}
use Rattle.dap_rules.specs.Inputs.{ReadsSessionByRules}
use Rattle.dapnorm.proofs.pair.found_by_rules.Goals as goal

pub found_on-requires-clause-accepted_a : goal.found_on-requires-clause-accepted_a
found_on-requires-clause-accepted_a g c =
    let made = c.in-Ok.ensures.outcome.gives in (made.written, made.accepted)

pub found_on-requires-clause-accepted_b : goal.found_on-requires-clause-accepted_b
found_on-requires-clause-accepted_b g c =
    let made = c.in-Ok-read_session_by_rules.ensures.outcome.gives in (made.written, made.accepted)

pub returns-in-Err-read_session_by_rules-clause-finds :
    goal.returns-in-Err-read_session_by_rules-clause-finds
returns-in-Err-read_session_by_rules-clause-finds g c = inl (
  refl,
  (c.in-Ok.session, rw (c.mode_by-used.ensures) at c.in-Ok.ensures.outcome),
  subst (λ (used : Mode). ReadsSessionByRules g.H.Input.Source LIMITS used (mask_of c.args.rules)
      c.args.reader_b.now c.read_session_by_rules-2.new.reader
      (Err c.in-Err-read_session_by_rules.refused)) c.mode_by-used.ensures
      c.in-Err-read_session_by_rules.ensures.outcome,
)

pub returns-clause-finds : goal.returns-clause-finds
returns-clause-finds g c = inr record {
  session_a = c.in-Ok.session;
  session_b = c.in-Ok-read_session_by_rules.session;
  makes_a = rw (c.mode_by-used.ensures) at c.in-Ok.ensures.outcome;
  makes_b = rw (c.mode_by-used.ensures) at c.in-Ok-read_session_by_rules.ensures.outcome;
  finds = rw (c.mode_by-used.ensures) at c.found_on.ensures;
}

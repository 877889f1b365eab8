use Rattle.std.proofs.Common.{Ok, subst}
use Rattle.std.proofs.lemmas.Result.{err_from_is_err_and}
use Rattle.dap_mask.specs.KeptRules.{mask_of}
use Rattle.dap_normalise.specs.JudgingSteps.{payload_of}
use Rattle.dap_rules.specs.MaskedSessions.{PushesIf}
use Rattle.dap_rules.proofs.masked_session.push_masked.Goals as goal

pub returns-in_err-after : goal.returns-in_err-after
returns-in_err-after c messages was =
    let because = err_from_is_err_and c.from_residual.result c.from_residual.ensures.1 in
    rw (because.1, because.2) (c.in_err-after.ensures messages was)

pub returns-in-Some : goal.returns-in-Some
returns-in-Some c messages was =
    subst (λ o. PushesIf c.args.limits (mask_of c.args.rules.now) messages
    (payload_of c.args.whole.now) c.args.number c.args.written c.push_flat.new.session (Ok o))
    c.in-Some.is (c.in_ok-after.ensures messages was)

pub push_tree-requires-clause-represents : goal.push_tree-requires-clause-represents
push_tree-requires-clause-represents c =
    let was = c.requires.represents in (
      was.0,
      subst (λ o. PushesIf c.args.limits (mask_of c.args.rules.now) was.0
          (payload_of c.args.whole.now) c.args.number c.args.written c.push_flat.new.session (Ok o))
          c.in-None.is (c.in_ok-after.ensures was.0 was.1),
    )

pub returns-in-None : goal.returns-in-None
returns-in-None c messages was =
    c.push_tree.ensures messages
    (subst (λ o. PushesIf c.args.limits (mask_of c.args.rules.now) messages
    (payload_of c.args.whole.now) c.args.number c.args.written c.push_flat.new.session (Ok o))
    c.in-None.is (c.in_ok-after.ensures messages was))

use Rattle.std.proofs.Common.{◌∙◌, ap, sym}
use Rattle.std.proofs.lemmas.Result.{IfOk-weaker}
use Rattle.dap_transcript.specs.Members.{omits}
use Rattle.dap_transcript.proofs.CanonicalNames.{same_omitted}
use Rattle.dap_transcript.proofs.WrittenMembers.{is_omitted, not_omitted}
use Rattle.dap_transcript.proofs.members.pass_one.Goals as goal

pub returns-then-not-has-clause-passes : goal.returns-then-not-has-clause-passes
returns-then-not-has-clause-passes c =
    let o = c.args.omitted in
    let old = c.args.out.now.items in
    let new = c.push_one.new.out.items in
    IfOk-weaker c.push_one.result _ _
    (λ passed h k e more before own starts waits.
    let one = h k e more before own starts waits in
    let kept = sym (same_omitted o k) ∙ ap (omits o) (sym (c.without_quotes.ensures k own))
    ∙ sym c.has.ensures ∙ c.if-not-has.true in
    (not_omitted (omits o) k old new before e passed.1 kept one.0, one.1))
    c.push_one.ensures.passes

pub returns-clause-passes : goal.returns-clause-passes
returns-clause-passes c k e more before own starts waits =
    let o = c.args.omitted in
    let out = sym (same_omitted o k) ∙ ap (omits o) (sym (c.without_quotes.ensures k own))
    ∙ sym c.has.ensures ∙ c.if-not-has.false in (
      is_omitted (omits o) k c.args.out.now.items before e c.args.waiting out waits,
      (c.in-Some.ensures.value e more starts.0 starts.1).1,
    )

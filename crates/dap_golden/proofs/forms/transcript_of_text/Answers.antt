use Rattle.std.proofs.Common.{ℕ, List, ◌∙◌, subst}
use Rattle.std.proofs.lemmas.Result.{IfErr-weaker, IfOk-weaker}
use Rattle.dap_golden.specs.GoldenSteps.{IsTooLong}
use Rattle.dap_golden.proofs.WrittenFiles.{not_written, own_accepted, own_transcript}
use Rattle.dap_golden.proofs.forms.transcript_of_text.Goals as goal

pub returns-in-Ok-Some-clause-ok : goal.returns-in-Ok-Some-clause-ok
returns-in-Ok-Some-clause-ok c =
    let is = c.requires.text in
    let accepted =
    own_accepted c.args.limits c.args.mode c.requires.limits c.args.text.now is in
    let whole =
    own_transcript c.args.limits c.args.mode c.requires.limits c.args.text.now is
    c.in-Ok-Some.field-0 c.in-Ok-Some.written c.in-Ok-Some.field-0-is c.in-Ok-Some.ensures in
    IfOk-weaker c.within_limit.result _ _ (λ bytes same. (is.normal, accepted, same ∙ whole))
    c.within_limit.ensures.ok

pub returns-in-Ok-Some-clause-err : goal.returns-in-Ok-Some-clause-err
returns-in-Ok-Some-clause-err c =
    let is = c.requires.text in
    let accepted =
    own_accepted c.args.limits c.args.mode c.requires.limits c.args.text.now is in
    let whole =
    own_transcript c.args.limits c.args.mode c.requires.limits c.args.text.now is
    c.in-Ok-Some.field-0 c.in-Ok-Some.written c.in-Ok-Some.field-0-is c.in-Ok-Some.ensures in
    IfErr-weaker c.within_limit.result _ _
    (λ why long.
    not_written c.args.limits c.args.mode c.args.text.now is.normal accepted why
    (subst (λ (bytes : List ℕ). IsTooLong c.args.limits.input bytes why) whole long))
    c.within_limit.ensures.err

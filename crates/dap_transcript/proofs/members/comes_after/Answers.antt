use Rattle.std.proofs.Common.{◌∙◌, ap, codes, nat_cmp}
use Rattle.std.specs.{Cmp.Lexicographic.slice_cmp, Ordering.is_gt}
use Rattle.dap_transcript.proofs.WrittenMembers.{after_front, after_other}
use Rattle.dap_transcript.proofs.members.comes_after.Goals as goal

pub returns-in-Some : goal.returns-in-Some
returns-in-Some c =
    let rest = c.in-Some.rest.now in
    let found = c.in-Some.ensures.cases in
    c.is_gt.ensures
    ∙ ap is_gt (c.cmp.ensures ∙ ap (λ t. slice_cmp nat_cmp t rest) c.as_slice.ensures
    ∙ after_front c.args.name.now (codes "_") c.args.other.now rest found.0 found.1)

pub returns-in-None : goal.returns-in-None
returns-in-None c =
    c.is_gt-in-None.ensures
    ∙ ap is_gt (c.cmp-in-None.ensures
    ∙ after_other c.args.name.now (codes "_") c.args.other.now c.in-None.ensures.cases)

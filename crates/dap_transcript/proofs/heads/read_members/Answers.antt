use Rattle.std.proofs.Common.{◌++◌, ◌∙◌, ap, false, subst, true}
use Rattle.dap_transcript.specs.Heads.{ValuesLeft, later_text}
use Rattle.dap_transcript.proofs.HeadMembers.{after_first, closes, goes_on}
use Rattle.dap_transcript.proofs.heads.read_members.Goals as goal

pub loop-left-init : goal.loop-left-init
loop-left-init c ms more is start = record {
  later = false;
  left = ms;
  text_is = is;
  values = start;
}

pub returns-then-left-eq125 : goal.returns-then-left-eq125
returns-then-left-eq125 c ms more is start =
    let own = c.loop-left.invariant ms more is start in
    let end = closes own.later own.left more c.loop-left.left.now own.text_is
    c.if-left-eq125.true in (
      subst (λ left. ValuesLeft c.loop-left.values left ms) end.0 own.values,
      after_first c.loop-left.left.now more 125 end.1,
    )

pub loop-left-preserved : goal.loop-left-preserved
loop-left-preserved c ms more is start =
    let own = c.loop-left.invariant ms more is start in
    let next = goes_on own.later own.left more c.loop-left.left.now own.text_is
    c.if-left-eq125.false in
    let split = c.in_ok-member.ensures.member own.later next.name next.value next.rest more
    (own.text_is ∙ ap (λ left. later_text own.later left ++ more) next.is) in
    record {
      later = true;
      left = next.rest;
      text_is = split.2;
      values = c.after.ensures next.name next.value next.rest ms split.0 split.1
          (subst (λ left. ValuesLeft c.loop-left.values left ms) next.is own.values);
    }

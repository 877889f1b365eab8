use Rattle.std.proofs.Common.{sym, subst}
use Rattle.dap_stored.specs.Sessions.{messages_of}
use Rattle.dap_diff.specs.Texts.{DescribesTexts, IsLeftText}
use Rattle.dap_diff.proofs.SessionTexts.{describes, text_left}
use Rattle.dap_diff.proofs.sessions.diff_sessions.Goals as goal

pub lines_of-requires-clause-is_left_a : goal.lines_of-requires-clause-is_left_a
lines_of-requires-clause-is_left_a g c =
    subst (IsLeftText c.args.limits) (sym c.as_slice.ensures.value)
    (text_left c.args.limits c.args.mode c.requires.limits (messages_of c.args.a.now)
    c.requires.accepted_a c.in-Differ.record c.compare_sessions.new.text_a.items
    (rw c.in-Differ.is at c.in_ok-verdict.ensures.text_a))

pub lines_of-requires-clause-is_left_b : goal.lines_of-requires-clause-is_left_b
lines_of-requires-clause-is_left_b g c =
    subst (IsLeftText c.args.limits) (sym c.as_slice-in-Differ.ensures.value)
    (text_left c.args.limits c.args.mode c.requires.limits (messages_of c.args.b.now)
    c.requires.accepted_b c.in-Differ.record c.compare_sessions.new.text_b.items
    (rw c.in-Differ.is at c.in_ok-verdict.ensures.text_b))

pub returns-in-Same : goal.returns-in-Same
returns-in-Same g c = (rw c.in-Same.is at c.in_ok-verdict.ensures.verdict).0

pub returns : goal.returns
returns g c =
    let tells : DescribesTexts c.args.limits c.compare_sessions.new.text_a.items
    c.compare_sessions.new.text_b.items c.in_ok-lines-in-Differ.lines.items =
    rw (c.as_slice.ensures.value, c.as_slice-in-Differ.ensures.value) at c.in_ok-lines-in-Differ.ensures in
    let lines = describes c.args.limits c.args.mode c.requires.limits (messages_of c.args.a.now)
    (messages_of c.args.b.now) c.requires.accepted_a c.requires.accepted_b c.in-Differ.record
    c.compare_sessions.new.text_a.items c.compare_sessions.new.text_b.items
    c.in_ok-lines-in-Differ.lines.items
    (rw c.in-Differ.is at c.in_ok-verdict.ensures.text_a)
    (rw c.in-Differ.is at c.in_ok-verdict.ensures.text_b) tells in (
      rw c.in-Differ.is at c.in_ok-verdict.ensures.verdict,
      lines.0,
      lines.1,
      lines.2,
      lines.3,
      lines.4,
    )

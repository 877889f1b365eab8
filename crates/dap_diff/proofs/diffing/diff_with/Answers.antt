use Rattle.std.proofs.Common.{sym, subst}
use Rattle.std.proofs.lemmas.Result.{err_from_is_err_and}
use Rattle.dap_diff.specs.Texts.{IsLeftText, DescribesTexts}
use Rattle.dap_diff.proofs.Texts.{gave_up_after, is_left, tells_record}
use Rattle.dap_diff.proofs.diffing.diff_with.Goals as goal

pub returns-in-Same-clause-outcome : goal.returns-in-Same-clause-outcome
returns-in-Same-clause-outcome g c =
    (c.in-Same.field-0, rw c.in-Same.is at c.in_ok-verdict.ensures.outcome)

pub lines_of-requires-clause-is_left_a : goal.lines_of-requires-clause-is_left_a
lines_of-requires-clause-is_left_a g c =
    subst (IsLeftText c.args.limits) (sym c.as_slice.ensures.value)
    (is_left c.args.limits c.args.mode c.requires.limits g.A.Source c.args.reader_a.now
    c.compare_texts_with.new.reader_a c.in-Differ.record c.compare_texts_with.new.text_a.items
    (rw c.in-Differ.is at c.in_ok-verdict.ensures.text_a))

pub lines_of-requires-clause-is_left_b : goal.lines_of-requires-clause-is_left_b
lines_of-requires-clause-is_left_b g c =
    subst (IsLeftText c.args.limits) (sym c.as_slice-in-Differ.ensures.value)
    (is_left c.args.limits c.args.mode c.requires.limits g.B.Source c.args.reader_b.now
    c.compare_texts_with.new.reader_b c.in-Differ.record c.compare_texts_with.new.text_b.items
    (rw c.in-Differ.is at c.in_ok-verdict.ensures.text_b))

pub returns-clause-outcome : goal.returns-clause-outcome
returns-clause-outcome g c =
    let tells : DescribesTexts c.args.limits c.compare_texts_with.new.text_a.items
    c.compare_texts_with.new.text_b.items c.in_ok-lines-in-Differ.lines.items =
    rw (c.as_slice.ensures.value, c.as_slice-in-Differ.ensures.value) at c.in_ok-lines-in-Differ.ensures in (
      rw c.in-Differ.is at c.in_ok-verdict.ensures.outcome,
      tells_record c.args.limits c.args.mode c.requires.limits g.A.Source g.B.Source
          c.args.reader_a.now
          c.compare_texts_with.new.reader_a c.args.reader_b.now c.compare_texts_with.new.reader_b
          c.in-Differ.record _ _ _ (rw c.in-Differ.is at c.in_ok-verdict.ensures.text_a)
          (rw c.in-Differ.is at c.in_ok-verdict.ensures.text_b) tells,
    )

pub returns-in_err-lines-in-Differ-clause-outcome : goal.returns-in_err-lines-in-Differ-clause-outcome
returns-in_err-lines-in-Differ-clause-outcome g c =
    let because = err_from_is_err_and c.from_residual-in_err-lines-in-Differ.result
    c.from_residual-in_err-lines-in-Differ.ensures.1 in
    rw (because.1, because.2)
    (gave_up_after g.A.Source g.B.Source c.args.limits c.args.mode c.args.reader_a.now
    c.compare_texts_with.new.reader_a c.args.reader_b.now c.compare_texts_with.new.reader_b
    c.in-Differ.record (rw c.in-Differ.is at c.in_ok-verdict.ensures.outcome))

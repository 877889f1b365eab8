use Rattle.std.proofs.Common.{subst}
use Rattle.dap_device.specs.Written.{AllSent, PrefixWritten}
use Rattle.dap_show.specs.OneRecord.{PrintsContent}
use Rattle.dap_show.proofs.RecordAnswers.{none_shown, not_framed, not_made}
use Rattle.dap_show.proofs.one_record.show_record.Goals as goal

pub returns-in-Err-clause-outcome : goal.returns-in-Err-clause-outcome
returns-in-Err-clause-outcome g c =
    not_framed c.args.limits g.R.Source g.W.Sink c.args.number c.args.reader.now
    c.find_record.new.reader c.args.writer.now c.in-Err.refused c.in-Err.ensures

pub returns-in_default-text_of-clause-outcome : goal.returns-in_default-text_of-clause-outcome
returns-in_default-text_of-clause-outcome g c =
    not_made c.args.limits g.R.Source g.W.Sink c.args.number c.args.reader.now
    c.find_record.new.reader c.args.writer.now c.in-Ok-Whole.whole.content
    (rw c.in-Ok-Whole.field-0-is at c.in-Ok-Whole.ensures)

pub returns-in-Ok-write_and_flush-clause-outcome : goal.returns-in-Ok-write_and_flush-clause-outcome
returns-in-Ok-write_and_flush-clause-outcome g c = (
  c.in-Ok-Whole.whole.content,
  c.in-Ok-text_of.text.items,
  rw c.in-Ok-Whole.field-0-is at c.in-Ok-Whole.ensures,
  subst (λ content. PrintsContent content c.in-Ok-text_of.text.items) c.as_slice.ensures
      c.in-Ok-text_of.ensures,
  subst (AllSent g.W.Sink c.args.writer.now c.write_and_flush.new.writer)
      c.as_slice-2.ensures.value c.in-Ok-write_and_flush.ensures,
)

pub returns-clause-outcome : goal.returns-clause-outcome
returns-clause-outcome g c = (
  c.in-Ok-Whole.whole.content,
  c.in-Ok-text_of.text.items,
  rw c.in-Ok-Whole.field-0-is at c.in-Ok-Whole.ensures,
  subst (λ content. PrintsContent content c.in-Ok-text_of.text.items) c.as_slice.ensures
      c.in-Ok-text_of.ensures,
  subst (PrefixWritten g.W.Sink c.args.writer.now c.write_and_flush.new.writer)
      c.as_slice-2.ensures.value c.in-Err-write_and_flush.ensures,
)

pub returns-in_default-clause-outcome : goal.returns-in_default-clause-outcome
returns-in_default-clause-outcome g c =
    none_shown c.args.limits g.R.Source g.W.Sink c.args.number c.args.reader.now c.args.writer.now

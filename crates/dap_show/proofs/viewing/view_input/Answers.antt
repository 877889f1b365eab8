use Rattle.std.proofs.Common.{subst}
use Rattle.std.proofs.lemmas.Result.{err_from_is_err_and}
use Rattle.dap_device.specs.Written.{AllSent, PrefixWritten}
use Rattle.dap_show.proofs.ViewedInputs.{none_viewed, refused_view, shown_lines}
use Rattle.dap_show.proofs.viewing.view_input.Goals as goal

pub returns-in_err-finish-clause-outcome : goal.returns-in_err-finish-clause-outcome
returns-in_err-finish-clause-outcome g c =
    let because = err_from_is_err_and c.from_residual.result c.from_residual.ensures.1 in
    rw (because.1, because.2)
    (refused_view c.args.view g.R.Source c.args.reader.now c.view_records-stopped.new.reader
    g.W.Sink c.args.writer.now _ c.view_records-stopped.new.records
    c.view_records-stopped.result c.view_records-stopped.new.lines.items c.finish.new.lines.items
    c.view_records-stopped.new.first c.finish.new.first c.view_records-stopped.ensures
    c.in_err-finish.ensures)

pub returns-in-Ok-write_and_flush-clause-outcome : goal.returns-in-Ok-write_and_flush-clause-outcome
returns-in-Ok-write_and_flush-clause-outcome g c = (
  c.finish.new.lines.items,
  shown_lines c.args.view g.R.Source c.args.reader.now c.view_records-stopped.new.reader
      _ c.view_records-stopped.new.records
      c.view_records-stopped.result c.view_records-stopped.new.lines.items
      c.finish.new.lines.items c.view_records-stopped.new.first c.finish.new.first
      c.view_records-stopped.ensures c.in_ok-finish.ensures,
  subst (AllSent g.W.Sink c.args.writer.now c.write_and_flush.new.writer) c.as_slice.ensures.value
      c.in-Ok-write_and_flush.ensures,
)

pub returns-clause-outcome : goal.returns-clause-outcome
returns-clause-outcome g c = (
  c.finish.new.lines.items,
  c.finish.new.first,
  shown_lines c.args.view g.R.Source c.args.reader.now c.view_records-stopped.new.reader
      _ c.view_records-stopped.new.records
      c.view_records-stopped.result c.view_records-stopped.new.lines.items
      c.finish.new.lines.items c.view_records-stopped.new.first c.finish.new.first
      c.view_records-stopped.ensures c.in_ok-finish.ensures,
  subst (PrefixWritten g.W.Sink c.args.writer.now c.write_and_flush.new.writer)
      c.as_slice.ensures.value c.in-Err.ensures,
)

pub returns-in_default-clause-outcome : goal.returns-in_default-clause-outcome
returns-in_default-clause-outcome g c =
    none_viewed c.args.view g.R.Source c.args.reader.now c.args.reader.now g.W.Sink
    c.args.writer.now

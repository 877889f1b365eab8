use Rattle.std.proofs.Common.{◌∙◌}
use Rattle.dap_input.proofs.WholeInputs.{all_read, drained, refused_answer}
use Rattle.dap_input.specs.ItemReading.{record_items}
use Rattle.dap_show.specs.Viewing.{lines_of, showing, without_marks}
use Rattle.dap_show.specs.declared.detail.Detail.TheVariants.{Lists}
use Rattle.dap_normalise.specs.JudgingSteps.{payload_of}
use Rattle.dap_show.proofs.ShownInputs.{accepted_taken, finished, not_written, refused_taken}
use Rattle.dap_show.proofs.ShownInputs.{rest_counts, rest_failures}
use Rattle.dap_show.proofs.ViewingFacts.{reads_entries}
use Rattle.dap_show.proofs.viewing.show.Goals as goal

pub view_records-requires-clause-start : goal.view_records-requires-clause-start
view_records-requires-clause-start g c =
    c.in-Ok.ensures c.args.limits.frame
    (c.new-record_reader.ensures.limits, (1, c.new-record_reader.ensures.represents))

pub returns-in-Ok-write_and_flush-clause-outcome : goal.returns-in-Ok-write_and_flush-clause-outcome
returns-in-Ok-write_and_flush-clause-outcome g c =
    let shown = c.in-Ok-view_records.ensures in
    finished c.args.limits g.R.Source c.args.reader.now
    c.view_records.new.reader shown.0 shown.1 g.W.Sink c.args.writer.now
    c.write_and_flush.new.writer _ (c.as_slice.ensures.value ∙ shown.2.lines_are)
    c.in-Ok-write_and_flush.ensures

pub returns-in-Ok-write_and_flush-clause-taken : goal.returns-in-Ok-write_and_flush-clause-taken
returns-in-Ok-write_and_flush-clause-taken g c =
    let shown = c.in-Ok-view_records.ensures in
    accepted_taken c.args.limits g.R.Source
    c.args.reader.now c.view_records.new.reader shown.0 shown.1

pub returns-in-Ok-view_records-clause-outcome : goal.returns-in-Ok-view_records-clause-outcome
returns-in-Ok-view_records-clause-outcome g c =
    let shown = c.in-Ok-view_records.ensures in
    not_written c.args.limits g.R.Source
    c.args.reader.now c.view_records.new.reader shown.0 shown.1 g.W.Sink
    c.args.writer.now c.write_and_flush.new.writer _ (c.as_slice.ensures.value ∙ shown.2.lines_are)
    c.in-Err-write_and_flush.ensures

pub returns-in-Ok-view_records-clause-taken : goal.returns-in-Ok-view_records-clause-taken
returns-in-Ok-view_records-clause-taken g c =
    let shown = c.in-Ok-view_records.ensures in
    accepted_taken c.args.limits g.R.Source
    c.args.reader.now c.view_records.new.reader shown.0 shown.1

pub drain-requires-clause-given : goal.drain-requires-clause-given
drain-requires-clause-given g c = λ goes_on.
    let refused = c.in-Err.ensures.1 in
    rest_counts c.args.limits g.R.Source
    c.args.reader.now c.view_records.new.reader c.view_records.new.records
    c.in-Err.refused refused goes_on c.requires.limits.input c.requires.devices.0.0

pub drain-requires-clause-failures : goal.drain-requires-clause-failures
drain-requires-clause-failures g c = λ goes_on.
    let refused = c.in-Err.ensures.1 in
    rest_failures c.args.limits g.R.Source
    c.args.reader.now c.view_records.new.reader c.view_records.new.records
    c.in-Err.refused refused goes_on c.requires.devices.0.1

pub returns-clause-outcome : goal.returns-clause-outcome
returns-clause-outcome g c =
    let refused = c.in-Err.ensures.1 in
    refused_answer (showing c.args.limits) g.R.Source
    (lines_of Lists 1) c.args.reader.now c.drain.new.reader g.W.Sink
    c.args.writer.now c.in-Err.refused
    (drained (showing c.args.limits) (record_items c.args.limits.frame) payload_of
    (reads_entries (without_marks Lists c.args.limits)) g.R.Source
    c.args.reader.now c.view_records.new.reader c.drain.new.reader c.view_records.new.records
    c.in-Err.refused refused c.drain.ensures.over c.drain.ensures.rest)

pub returns-clause-taken : goal.returns-clause-taken
returns-clause-taken g c =
    let refused = c.in-Err.ensures.1 in
    refused_taken c.args.limits g.R.Source
    c.args.reader.now c.drain.new.reader c.in-Err.refused
    (drained (showing c.args.limits) (record_items c.args.limits.frame) payload_of
    (reads_entries (without_marks Lists c.args.limits)) g.R.Source
    c.args.reader.now c.view_records.new.reader c.drain.new.reader c.view_records.new.records
    c.in-Err.refused refused c.drain.ensures.over c.drain.ensures.rest)

pub returns-clause-memory : goal.returns-clause-memory
returns-clause-memory g c = λ _.
    let refused = c.in-Err.ensures.1 in
    all_read (showing c.args.limits) g.R.Source
    (lines_of Lists 1) c.args.reader.now c.drain.new.reader c.in-Err.refused
    (drained (showing c.args.limits) (record_items c.args.limits.frame) payload_of
    (reads_entries (without_marks Lists c.args.limits)) g.R.Source
    c.args.reader.now c.view_records.new.reader c.drain.new.reader c.view_records.new.records
    c.in-Err.refused refused c.drain.ensures.over c.drain.ensures.rest)

use Rattle.dap_input.proofs.WholeInputs.{all_read, drained, refused_answer}
use Rattle.dap_input.specs.ItemReading.{frame_items}
use Rattle.dap_compact.specs.Compacting.{compacting, text}
use Rattle.dap_compact.proofs.CompactingLoop.{reads_frames}
use Rattle.dap_compact.proofs.compacting.compact.Goals as goal

pub returns-clause-outcome : goal.returns-clause-outcome
returns-clause-outcome g c =
    refused_answer (compacting c.args.limits) g.R.Source
    text c.args.reader.now c.drain.new.reader g.W.Sink c.args.writer.now
    c.in-Err-compact_records.refused
    (drained (compacting c.args.limits) (frame_items c.args.limits.frame) (λ content. content)
    (reads_frames c.args.limits c.requires.limits) g.R.Source c.args.reader.now
    c.compact_records.new.reader c.drain.new.reader
    c.compact_records.new.records c.in-Err-compact_records.refused c.in-Err-compact_records.ensures
    c.drain.ensures.over c.drain.ensures.rest)

pub returns-clause-memory : goal.returns-clause-memory
returns-clause-memory g c = λ _.
    all_read (compacting c.args.limits) g.R.Source
    text c.args.reader.now c.drain.new.reader c.in-Err-compact_records.refused
    (drained (compacting c.args.limits) (frame_items c.args.limits.frame) (λ content. content)
    (reads_frames c.args.limits c.requires.limits) g.R.Source c.args.reader.now
    c.compact_records.new.reader c.drain.new.reader
    c.compact_records.new.records c.in-Err-compact_records.refused c.in-Err-compact_records.ensures
    c.drain.ensures.over c.drain.ensures.rest)

use Rattle.std.proofs.Common.{Err, Ok, sym, ◌∙◌, subst}
use Rattle.dap_device.specs.Written.{AllWritten, PrefixWritten}
use Rattle.dap_input.proofs.StreamEnds.{all_written, front_written, not_given_up}
use Rattle.dap_normalise.specs.Streaming.{Ends}
use Rattle.dap_mask.specs.KeptRules.{mask_of}
use Rattle.dap_rules.proofs.RewritingLoop.{all_rewritten, fewer, none_read, not_rewritten}
use Rattle.dap_rules.proofs.RewritingLoop.{not_rewritten_gives_up, not_read, not_read_gives_up}
use Rattle.dap_rules.proofs.RewritingLoop.{passed}
use Rattle.dap_rules.proofs.RewritingLoop.{waited_on, written_on}
use Rattle.dap_rules.proofs.RewritingFacts.{promised}
use Rattle.dap_rules.proofs.rewriting.rewrite_records.Goals as goal

pub records-init : goal.records-init
records-init g c =
    rw c.new-text.ensures.items
    (none_read c.args.pass c.args.limits (mask_of c.args.rules.now) g.R.Source g.W.Sink
    c.args.reader.now c.args.writer.now c.args.records.now c.requires.start
    c.new-3.result c.new-3.ensures.empty c.new-3.ensures.limit)

pub returns-in-Ok-None-clause-outcome : goal.returns-in-Ok-None-clause-outcome
returns-in-Ok-None-clause-outcome g c =
    let was = c.records.invariant in
    all_rewritten was (promised c.args.pass c.args.limits c.requires.limits c.args.rules.now)
    (rw c.in-Ok-None.field-0-is at c.in-Ok-None.ensures c.args.limits.frame
    was.judged.behind.between)
    c.finish_output.new.writer c.finish_output.result
    (subst (λ t. Ends g.W.Sink t c.records.writer c.finish_output.new.writer (Ok tt)
    c.finish_output.result)
    c.as_slice.ensures.value c.finish_output.ensures)

pub returns-in-Err-clause-outcome : goal.returns-in-Err-clause-outcome
returns-in-Err-clause-outcome g c =
    let was = c.records.invariant in
    not_read was (c.in-Err.ensures c.args.limits.frame was.judged.behind.between)
    c.finish_output-in-Err.new.writer c.finish_output-in-Err.result
    (subst (λ t. Ends g.W.Sink t c.records.writer c.finish_output-in-Err.new.writer
    (Err c.in-Err.because) c.finish_output-in-Err.result)
    c.as_slice-in-Err.ensures.value c.finish_output-in-Err.ensures)

pub returns-in-Ok-None-clause-given_up : goal.returns-in-Ok-None-clause-given_up
returns-in-Ok-None-clause-given_up g c = λ memory.
    absurd (not_given_up g.W.Sink c.as_slice.result.now c.records.writer c.finish_output.new.writer
    tt c.finish_output.result c.finish_output.ensures memory)

pub returns-in-Err-clause-given_up : goal.returns-in-Err-clause-given_up
returns-in-Err-clause-given_up g c =
    let was = c.records.invariant in
    not_read_gives_up was (c.in-Err.ensures c.args.limits.frame was.judged.behind.between)
    c.finish_output-in-Err.new.writer c.finish_output-in-Err.result
    (subst (λ t. Ends g.W.Sink t c.records.writer c.finish_output-in-Err.new.writer
    (Err c.in-Err.because) c.finish_output-in-Err.result)
    c.as_slice-in-Err.ensures.value c.finish_output-in-Err.ensures)

pub returns-in-Err-append-clause-given_up : goal.returns-in-Err-append-clause-given_up
returns-in-Err-append-clause-given_up g c =
    let was = c.records.invariant in
    not_rewritten_gives_up was
    (rw c.in-Ok-Some.field-0-is at c.in-Ok-Some.ensures c.args.limits.frame
    was.judged.behind.between)
    c.in-Err-append.because
    c.finish_output-in-Err-append.new.writer c.finish_output-in-Err-append.result
    (subst (λ t. Ends g.W.Sink t c.records.writer c.finish_output-in-Err-append.new.writer
    (Err c.in-Err-append.because) c.finish_output-in-Err-append.result)
    (c.as_slice-in-Err-append.ensures.value ∙ c.in-Err-append.ensures.kept)
    c.finish_output-in-Err-append.ensures)

pub returns-in-Err-append-clause-outcome : goal.returns-in-Err-append-clause-outcome
returns-in-Err-append-clause-outcome g c =
    let was = c.records.invariant in
    not_rewritten was
    (rw c.in-Ok-Some.field-0-is at c.in-Ok-Some.ensures c.args.limits.frame
    was.judged.behind.between)
    c.in-Err-append.because c.append.new.out.items c.append.new.room.numbers
    (rw c.number-number.ensures at c.in-Err-append.ensures.rewritten was.values was.fits
    was.count was.numbered)
    c.finish_output-in-Err-append.new.writer c.finish_output-in-Err-append.result
    (subst (λ t. Ends g.W.Sink t c.records.writer c.finish_output-in-Err-append.new.writer
    (Err c.in-Err-append.because) c.finish_output-in-Err-append.result)
    (c.as_slice-in-Err-append.ensures.value ∙ c.in-Err-append.ensures.kept)
    c.finish_output-in-Err-append.ensures)

pub returns-then-is_err-clause-outcome : goal.returns-then-is_err-clause-outcome
returns-then-is_err-clause-outcome g c =
    let was = c.records.invariant in
    (passed was
    (rw c.in-Ok-Some.field-0-is at c.in-Ok-Some.ensures c.args.limits.frame
    was.judged.behind.between)
    (c.in-Ok.ensures.rewritten was.values was.fits was.count was.numbered)).fails
    c.write_all.new.writer
    (subst (PrefixWritten g.W.Sink c.records.writer c.write_all.new.writer)
    c.as_slice-then-len-ge-PIECE.ensures.value
    (front_written g.W.Sink c.records.writer c.write_all.new.writer c.write_all.result
    c.as_slice-then-len-ge-PIECE.result.now c.write_all.ensures
    (sym c.is_err.ensures.value ∙ c.if-is_err.true)))

pub records-smaller-in-records : goal.records-smaller-in-records
records-smaller-in-records g c =
    let was = c.records.invariant in
    rw c.recycle.ensures
    (fewer was (rw c.in-Ok-Some.field-0-is at c.in-Ok-Some.ensures c.args.limits.frame
    was.judged.behind.between))

pub records-preserved-in-records : goal.records-preserved-in-records
records-preserved-in-records g c =
    let was = c.records.invariant in
    rw (c.recycle.ensures, c.clear.ensures.items)
    (written_on was
    (rw c.in-Ok-Some.field-0-is at c.in-Ok-Some.ensures c.args.limits.frame
    was.judged.behind.between)
    (c.in-Ok.ensures.rewritten was.values was.fits was.count was.numbered) c.write_all.new.writer
    (subst (AllWritten g.W.Sink c.records.writer c.write_all.new.writer)
    c.as_slice-then-len-ge-PIECE.ensures.value
    (all_written g.W.Sink c.records.writer c.write_all.new.writer c.write_all.result
    c.as_slice-then-len-ge-PIECE.result.now c.write_all.ensures
    (sym c.is_err.ensures.value ∙ c.if-is_err.false))))

pub records-smaller : goal.records-smaller
records-smaller g c =
    let was = c.records.invariant in
    rw c.recycle.ensures
    (fewer was (rw c.in-Ok-Some.field-0-is at c.in-Ok-Some.ensures c.args.limits.frame
    was.judged.behind.between))

pub records-preserved : goal.records-preserved
records-preserved g c =
    let was = c.records.invariant in
    let read = rw c.in-Ok-Some.field-0-is at c.in-Ok-Some.ensures c.args.limits.frame
    was.judged.behind.between in
    rw c.recycle.ensures
    (waited_on was read (c.in-Ok.ensures.rewritten was.values was.fits was.count was.numbered)
    (rw c.recycle.ensures at c.has_next.ensures c.args.limits.frame read.finds.1.between
    c.if-not-has_next.false))

use Rattle.std.proofs.Common.{List, ℕ, [], Err, Ok, sym, ◌∙◌, subst}
use Rattle.dap_device.specs.Written.{AllWritten, PrefixWritten}
use Rattle.dap_input.proofs.StreamEnds.{all_written, front_written, memory_of, not_given_up}
use Rattle.dap_input.proofs.StreamEnds.{nothing_written}
use Rattle.dap_normalise.specs.Accepting.{text}
use Rattle.dap_normalise.specs.Streaming.{Ends}
use Rattle.dap_normalise.proofs.StreamAnswers.{ended, gone}
use Rattle.dap_normalise.proofs.StreamLoop.{all_taken, at_start, few_taken, gone_taken, on}
use Rattle.dap_normalise.proofs.StreamWriting.{Waits, all_given_up, all_refused, all_streamed}
use Rattle.dap_normalise.proofs.StreamWriting.{none_waiting, passed, unfailed}
use Rattle.dap_normalise.proofs.normalising.write_records.Goals as goal

pub records-init : goal.records-init
records-init g c =
    let start = at_start g.R.Source c.args.reader.now c.requires.represents in
    record {
      going = start;
      waits = subst (Waits c.args.limits c.args.mode c.args.records.now g.W.Sink c.args.writer.now
          c.args.writer.now [] []) (sym c.new-text.ensures.items)
          (none_waiting start (nothing_written g.W.Sink c.args.writer.now));
    }

pub returns-then-is_err-clause-outcome : goal.returns-then-is_err-clause-outcome
returns-then-is_err-clause-outcome g c =
    let was = c.records.invariant.going in
    let here = gone was (c.in-Ok-true.ensures.next _ _ _ _ _ was.represents)
    c.in-Ok-true.field-0-test in
    (passed was c.records.invariant.waits (c.in-Ok-true.ensures.at_hand _ _ _ _ _ was.represents)
    here).fails c.write_all.new.writer
    (subst (PrefixWritten g.W.Sink c.records.writer c.write_all.new.writer)
    c.as_slice.ensures.value
    (front_written g.W.Sink c.records.writer c.write_all.new.writer c.write_all.result
    c.as_slice.result.now c.write_all.ensures (sym c.is_err.ensures.value ∙ c.if-is_err.true)))

pub returns-then-is_err-clause-taken : goal.returns-then-is_err-clause-taken
returns-then-is_err-clause-taken g c =
    let was = c.records.invariant.going in
    gone_taken was
    (gone was (c.in-Ok-true.ensures.next _ _ _ _ _ was.represents) c.in-Ok-true.field-0-test)

pub records-smaller-in-Ok-true : goal.records-smaller-in-Ok-true
records-smaller-in-Ok-true g c =
    let was = c.records.invariant.going in
    (gone was (c.in-Ok-true.ensures.next _ _ _ _ _ was.represents)
    c.in-Ok-true.field-0-test).shorter

pub records-preserved-in-Ok-true : goal.records-preserved-in-Ok-true
records-preserved-in-Ok-true g c =
    let was = c.records.invariant.going in
    let here = gone was (c.in-Ok-true.ensures.next _ _ _ _ _ was.represents)
    c.in-Ok-true.field-0-test in
    let now = on was here in
    record {
      going = now;
      waits = subst (Waits c.args.limits c.args.mode c.next.new.self g.W.Sink c.args.writer.now
          c.write_all.new.writer now.bytes (text now.normal))
          (sym {A = List ℕ} c.clear.ensures.items)
          ((passed was c.records.invariant.waits
          (c.in-Ok-true.ensures.at_hand _ _ _ _ _ was.represents) here).written
          c.write_all.new.writer
          (subst (AllWritten g.W.Sink c.records.writer c.write_all.new.writer)
          c.as_slice.ensures.value
          (all_written g.W.Sink c.records.writer c.write_all.new.writer c.write_all.result
          c.as_slice.result.now c.write_all.ensures
          (sym c.is_err.ensures.value ∙ c.if-is_err.false))));
    }

pub records-smaller : goal.records-smaller
records-smaller g c =
    let was = c.records.invariant.going in
    (gone was (c.in-Ok-true.ensures.next _ _ _ _ _ was.represents)
    c.in-Ok-true.field-0-test).shorter

pub records-preserved : goal.records-preserved
records-preserved g c =
    let was = c.records.invariant.going in
    let here = gone was (c.in-Ok-true.ensures.next _ _ _ _ _ was.represents)
    c.in-Ok-true.field-0-test in
    record {
      going = on was here;
      waits = (passed was c.records.invariant.waits
          (c.in-Ok-true.ensures.at_hand _ _ _ _ _ was.represents) here).waits
          (c.has_next.ensures _ _ _ _ _ here.represents c.if-not-has_next.false);
    }

pub returns-in-Ok-false-clause-outcome : goal.returns-in-Ok-false-clause-outcome
returns-in-Ok-false-clause-outcome g c =
    let was = c.records.invariant.going in
    let end = ended was (c.in-Ok-false.ensures.next _ _ _ _ _ was.represents)
    c.in-Ok-false.field-0-test in
    all_streamed was c.records.invariant.waits
    (c.in-Ok-false.ensures.at_hand _ _ _ _ _ was.represents) c.requires.limits end
    c.finish_output.new.writer c.finish_output.result
    (subst (λ t. Ends g.W.Sink t c.records.writer c.finish_output.new.writer (Ok tt)
    c.finish_output.result)
    (c.as_slice-in-Ok-false.ensures.value ∙ end.kept) c.finish_output.ensures)

pub returns-in-Ok-false-clause-given_up : goal.returns-in-Ok-false-clause-given_up
returns-in-Ok-false-clause-given_up g c = λ memory.
    absurd (not_given_up g.W.Sink c.as_slice-in-Ok-false.result.now c.records.writer
    c.finish_output.new.writer tt c.finish_output.result c.finish_output.ensures memory)

pub returns-in-Ok-false-clause-taken : goal.returns-in-Ok-false-clause-taken
returns-in-Ok-false-clause-taken g c =
    let was = c.records.invariant.going in
    all_taken was
    (ended was (c.in-Ok-false.ensures.next _ _ _ _ _ was.represents) c.in-Ok-false.field-0-test)

pub returns-in-Err-clause-outcome : goal.returns-in-Err-clause-outcome
returns-in-Err-clause-outcome g c =
    let was = c.records.invariant.going in
    all_refused was c.records.invariant.waits
    (c.in-Err.ensures.at_hand _ _ _ _ _ was.represents)
    (c.in-Err.ensures.next _ _ _ _ _ was.represents)
    c.finish_output-in-Err.new.writer c.finish_output-in-Err.result
    (subst (λ t. Ends g.W.Sink t c.records.writer c.finish_output-in-Err.new.writer
    (Err c.in-Err.refused) c.finish_output-in-Err.result)
    (c.as_slice-in-Err.ensures.value ∙ c.in-Err.ensures.kept) c.finish_output-in-Err.ensures)

pub returns-in-Err-clause-given_up : goal.returns-in-Err-clause-given_up
returns-in-Err-clause-given_up g c =
    let was = c.records.invariant.going in
    all_given_up was c.records.invariant.waits
    (c.in-Err.ensures.at_hand _ _ _ _ _ was.represents)
    (c.in-Err.ensures.next _ _ _ _ _ was.represents)
    c.finish_output-in-Err.new.writer c.finish_output-in-Err.result
    (subst (λ t. Ends g.W.Sink t c.records.writer c.finish_output-in-Err.new.writer
    (Err c.in-Err.refused) c.finish_output-in-Err.result)
    (c.as_slice-in-Err.ensures.value ∙ c.in-Err.ensures.kept) c.finish_output-in-Err.ensures)

pub returns-in-Err-clause-taken : goal.returns-in-Err-clause-taken
returns-in-Err-clause-taken g c =
    let was = c.records.invariant.going in
    few_taken was (c.in-Err.ensures.next _ _ _ _ _ was.represents)

pub returns-in-Ok-false-clause-memory : goal.returns-in-Ok-false-clause-memory
returns-in-Ok-false-clause-memory g c = λ memory.
    absurd (not_given_up g.W.Sink c.as_slice-in-Ok-false.result.now c.records.writer
    c.finish_output.new.writer tt c.finish_output.result c.finish_output.ensures memory)

pub returns-in-Err-clause-memory : goal.returns-in-Err-clause-memory
returns-in-Err-clause-memory g c = λ memory.
    let was = c.records.invariant.going in
    unfailed was (c.in-Err.ensures.next _ _ _ _ _ was.represents)
    (memory_of g.W.Sink c.as_slice-in-Err.result.now c.records.writer
    c.finish_output-in-Err.new.writer c.in-Err.refused c.finish_output-in-Err.result
    c.finish_output-in-Err.ensures memory)

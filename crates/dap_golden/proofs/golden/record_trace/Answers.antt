use Rattle.std.proofs.Common.{List, ℕ, ◌∙◌, ap, sym, subst, true≢false}
use Rattle.dap_device.specs.Memory.{GivenBytes}
use Rattle.dap_tree.specs.declared.side.Side.{Side}
use Rattle.dap_record.specs.Tracing.{IsTraceRefused}
use Rattle.dap_rules.specs.Memory.{WrittenBytes}
use Rattle.dap_golden.specs.Golden.{IsRecordingOf}
use Rattle.dap_golden.specs.TraceHead.{IsTraceHead}
use Rattle.dap_golden.proofs.MemoryRuns.{recorded_whole, trace_refused}
use Rattle.dap_golden.proofs.golden.record_trace.Goals as goal

pub returns-in-Ok-clause-ok : goal.returns-in-Ok-clause-ok
returns-in-Ok-clause-ok c =
    let all = ap (λ (source : GivenBytes). source.left) c.new-reader.ensures in
    subst (λ bytes. IsRecordingOf c.args.limits bytes c.into_bytes.result.items) all
    (subst (IsRecordingOf c.args.limits c.new-reader.result.left) (sym c.into_bytes.ensures)
    (recorded_whole c.new-reader.result c.record.new.reader c.new-writer.result
    c.record.new.writer c.args.limits (ap (λ (sink : WrittenBytes). sink.out) c.new-writer.ensures)
    (subst IsTraceHead (sym all) c.requires.trace) c.in-Ok.ensures.outcome))

pub returns-clause-err : goal.returns-clause-err
returns-clause-err c = (
  c.requires.trace,
  subst (λ bytes. (messages : List (Side × List ℕ))
      × IsTraceRefused c.args.limits bytes c.in-Err.refused messages)
      (ap (λ (source : GivenBytes). source.left) c.new-reader.ensures)
      (trace_refused c.new-reader.result c.record.new.reader c.new-writer.result
      c.record.new.writer c.args.limits c.in-Err.refused
      (λ out. true≢false (sym (c.is_out_of_memory.ensures.1 out) ∙ c.if-is_out_of_memory.false))
      c.in-Err.ensures.outcome),
)

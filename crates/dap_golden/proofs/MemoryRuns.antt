-- Recording a trace over bytes in memory: the guarantees for a reader and a writer hold for the
-- bytes.
use Rattle.std.proofs.Common.{◌≡◌, ℕ, List, [], Result, Ok, Err, sym, subst, arith}
use Rattle.dap_device.specs.declared.reading.Stop.{Stop}
use Rattle.dap_device.specs.declared.reading.Stop.TheVariants.{End, Full, Failed}
use Rattle.dap_device.specs.Memory.{GivenBytes}
use Rattle.dap_device.specs.Reading.{HasReadInput}
use Rattle.dap_recording.specs.Recording.{recording_text}
use Rattle.dap_tree.specs.declared.side.Side.{Side}
use Rattle.dap_input.specs.declared.limits.Limits.{Limits}
use Rattle.dap_input.specs.declared.refused.Refused.{Refused}
use Rattle.dap_input.specs.declared.refused.Refused.TheVariants.{Memory, ReadFault, WriteFault}
use Rattle.dap_record.specs.Tracing.{IsOfEnd, IsRecordedAs, IsTraceRefused}
use Rattle.dap_record.specs.TracingRun.{JudgesTrace, RecordsTrace}
use Rattle.dap_record.proofs.TraceOutcomes.{refusal_stays}
use Rattle.dap_input.proofs.MemoryInputs.{all_came, memory}
use Rattle.dap_rules.specs.Memory.{IsOutOfMemory, WrittenBytes}
use Rattle.dap_rules.proofs.MemoryRuns.{all_sent, text_sink}
use Rattle.dap_golden.specs.Golden.{IsRecordingOf, of_trace}
use Rattle.dap_golden.specs.TraceHead.{IsTraceHead}

module _ (old new : GivenBytes) (before after : WrittenBytes) (limits : Limits) where
  abbrev pub RecordsAs : Result (Unit {0}) Refused → Type 0
  RecordsAs result = RecordsTrace memory text_sink limits old new before after result

  pub recorded_whole : before.out ≡ [] → IsTraceHead old.left → RecordsAs (Ok tt)
      → IsRecordingOf limits old.left after.out
  recorded_whole none head has =
      let judged = has.judged in
      let came = subst (HasReadInput memory old new limits.input judged.bytes) judged.judges.0
      judged.came in
      of_trace head judged.messages
      (subst (λ bytes. IsRecordedAs limits bytes judged.messages)
      (all_came old new limits.input judged.bytes came) judged.judges.1)
      (all_sent before after (recording_text judged.messages) none has.written)

  module _ (bytes : List ℕ) (because : Refused) (messages : List (Side × List ℕ)) where
    stays_refused : (stop : Stop) → HasReadInput memory old new limits.input bytes stop
        → (IsOfEnd because → stop ≡ End) → IsTraceRefused limits bytes because messages
        → IsTraceRefused limits old.left because messages
    stays_refused End come end is =
        subst (λ all. IsTraceRefused limits all because messages)
        (all_came old new limits.input bytes come) is
    stays_refused Full come end is =
        subst (λ all. IsTraceRefused limits all because messages) (sym come.came)
        (refusal_stays limits bytes new.left because messages
        (λ of_end. absurd (let same = end of_end in cc)) is)
    stays_refused Failed come end is =
        absurd (let failed = come.stopped in omega (arith, failed))

  abbrev RefusedTrace : Refused → Type 0
  RefusedTrace because = (messages : List (Side × List ℕ))
      × IsTraceRefused limits old.left because messages

  judged_refused : (because : Refused) (bytes : List ℕ) (stop : Stop)
      → HasReadInput memory old new limits.input bytes stop → (messages : List (Side × List ℕ))
      → JudgesTrace {U = Unit {0}} limits bytes stop (Err because) messages
      → RefusedTrace because
  judged_refused ReadFault bytes stop come messages judges =
      let failed : HasReadInput memory old new limits.input bytes Failed =
      subst (HasReadInput memory old new limits.input bytes) judges.0 come in
      absurd (let failure = failed.stopped in omega (arith, failure))
  judged_refused WriteFault bytes stop come messages judges = absurd judges
  judged_refused Memory bytes stop come messages judges = absurd judges
  judged_refused because bytes stop come messages judges =
      (messages, stays_refused bytes because messages stop come judges.1 judges.0)

  pub trace_refused : (because : Refused) → (IsOutOfMemory because → ⊥)
      → RecordsAs (Err because) → RefusedTrace because
  trace_refused Memory not_memory has = absurd (not_memory tt)
  trace_refused WriteFault not_memory has = absurd (not_memory tt)
  trace_refused because not_memory has =
      judged_refused because has.judged.bytes has.judged.stop has.judged.came
      has.judged.messages has.judged.judges

-- The result of `record` after the records were written, and the proof that a rejection remains.
use Rattle.std.proofs.Common.{◌≡◌, ◌⊎◌, inl, inr, ℕ, List, ◌++◌, Result, Ok, Err, sym, ◌∙◌, ap}
use Rattle.std.proofs.Common.{subst}
use Rattle.std.proofs.lemmas.List.{append_assoc}
use Rattle.dap_device.specs.declared.device.Sink.{Ghosts as Sink}
use Rattle.dap_device.specs.declared.device.Source.{Ghosts as Source}
use Rattle.dap_device.specs.declared.reading.Stop.{Stop}
use Rattle.dap_device.specs.declared.reading.Stop.TheVariants.{End, Full}
use Rattle.dap_device.specs.Reading.{HasReadInput}
use Rattle.dap_device.specs.Written.{AllSent, PrefixWritten}
use Rattle.dap_recording.specs.RecorderReading.{RecorderReading, text_of}
use Rattle.dap_input.specs.declared.limits.Limits.{Limits}
use Rattle.dap_input.specs.declared.refused.Refused.{Refused}
use Rattle.dap_input.specs.declared.refused.Refused.TheVariants.{ReadFault, WriteFault}
use Rattle.dap_input.specs.declared.refused.Refused.TheVariants.{Memory as NoMemory}
use Rattle.dap_record.specs.Tracing.{IsOfEnd}
use Rattle.dap_record.specs.TracingRun.{HasJudgedTrace, HasWrittenRecords, RecordsTrace}
use Rattle.dap_record.specs.TracingSteps.{HasSentRecords, HasTraced, Traces}
use Rattle.dap_record.proofs.TraceOutcomes.{refusal_stays}

-- After the records of a trace were written, the postcondition of `record` holds.
module _ {R W : Type 0} (U : Type 0) (source : Source R) (sink : Sink W) (limits : Limits)
    (old new : R) (before after : W)
    (bytes : List ℕ) (stop : Stop)
    (came : HasReadInput source old new limits.input bytes stop)
    (recorder : RecorderReading) where
  abbrev judged : (outcome : Result U Refused) → HasTraced limits bytes stop outcome recorder
      → HasJudgedTrace source sink limits old new outcome
  judged outcome traced =
      record {
        bytes = bytes;
        stop = stop;
        came = came;
        messages = traced.messages;
        judges = traced.judges;
      }

  sent : (outcome result : Result U Refused)
      → (HasTraced limits bytes stop outcome recorder
      → AllSent sink before after (text_of recorder)
      → RecordsTrace source sink limits old new before after outcome)
      → HasTraced limits bytes stop outcome recorder
      → ((result ≡ outcome) × AllSent sink before after (text_of recorder))
      ⊎ ((result ≡ Err WriteFault)
      × PrefixWritten sink before after (text_of recorder))
      → RecordsTrace source sink limits old new before after result
  sent outcome result all traced (inl (same, written)) =
      subst (RecordsTrace source sink limits old new before after)
      (sym same) (all traced written)
  sent outcome result all traced (inr (same, written)) =
      subst (RecordsTrace source sink limits old new before after)
      (sym same)
      (record {
        outcome = outcome;
        judged = judged outcome traced;
        written = subst (PrefixWritten sink before after) traced.text written;
      })

  written_all : (outcome : Result U Refused)
      → (traced : HasTraced limits bytes stop outcome recorder)
      → AllSent sink before after (text_of recorder)
      → HasWrittenRecords source sink limits old new before after outcome
  written_all outcome traced written =
      record {
        judged = judged outcome traced;
        written = subst (AllSent sink before after) traced.text written;
      }

  pub answered : (outcome result : Result U Refused) → Traces limits bytes stop outcome recorder
      → HasSentRecords sink (text_of recorder) outcome before after result
      → RecordsTrace source sink limits old new before after result
  answered (Err NoMemory) result traced has_sent =
      subst (RecordsTrace source sink limits old new before after)
      (sym has_sent.0)
      (inr (record { bytes = bytes; stop = stop; came = came; takes = traced }), has_sent.1)
  answered (Err WriteFault) result traced has_sent = absurd traced.judges
  answered (Ok done) result traced has_sent =
      sent (Ok done) result (written_all (Ok done)) traced has_sent
  answered (Err because) result traced has_sent =
      sent (Err because) result (written_all (Err because)) traced has_sent

-- An error remains, whatever bytes follow.
pub refused_later : (U : Type 0) (limits : Limits) (bytes more : List ℕ) (refused : Refused)
    (recorder : RecorderReading)
    → ((stop : Stop) → Traces {U = U} limits bytes stop (Err refused) recorder)
    → (stop : Stop) → Traces {U = U} limits (bytes ++ more) stop (Err refused) recorder
refused_later U limits bytes more NoMemory recorder reported stop =
    let now = reported End in
    record {
      front = now.front;
      so_far = now.so_far;
      side = now.side;
      raw = now.raw;
      in_raw = now.in_raw;
      run = now.run;
      more = now.more ++ more;
      split = ap (λ t. t ++ more) now.split ∙ append_assoc now.front (now.run ++ now.more) more
          ∙ ap (λ t. now.front ++ t) (append_assoc now.run now.more more);
      of_piece = now.of_piece;
      wants = now.wants;
    }
refused_later U limits bytes more WriteFault recorder reported stop = absurd (reported End).judges
refused_later U limits bytes more ReadFault recorder reported stop =
    absurd (let e = (reported End).judges.0 in let g : ⊥ = cc in g)
refused_later U limits bytes more refused recorder reported stop =
    let now = reported Full in
    let no_end : IsOfEnd refused → ⊥ = λ ended.
    (let e = now.judges.1 ended in let g : ⊥ = cc in g) in
    record {
      messages = now.messages;
      judges = (
        refusal_stays limits bytes more refused now.messages no_end now.judges.0,
        λ ended. absurd (no_end ended),
      );
      text = now.text;
    }

-- Recordings of which only the records matter satisfy the laws of runs.
use Rattle.std.proofs.Common.{inl, ℕ, ◌+◌, ◌≤◌, List, [], ◌∷◌, ◌++◌, length, refl, sym, ◌∙◌}
use Rattle.std.proofs.Common.{ap}
use Rattle.std.proofs.Common.{arith, length-append}
use Rattle.dap_recording.proofs.Records.{readable}
use Rattle.dap_recording.specs.Recording.{IsRecording}
use Rattle.dap_input.specs.ItemReading.{record_items}
use Rattle.dap_input.specs.declared.limits.Limits.{Limits}
use Rattle.dap_input.proofs.InputLoop.{ReadsAs}
use Rattle.dap_input.proofs.Runs.{Run, run_within, ValueLaws, ValueFacts, AcceptedFacts}
use Rattle.dap_normalise.specs.Accepting.{Payload}
use Rattle.dap_normalise.specs.JudgingSteps.{payload_of}
use Rattle.dap_join.specs.Joining.{splitting}

module _ (limits : Limits) where
  pub value_laws : ValueLaws (splitting limits)
  value_laws = record {
    one_value = λ before held m n one two. one ∙ sym two;
    one_objection = λ before held why because one two. absurd one;
    next_not_objected = λ before held m why next objects. absurd objects;
  }

  pub value_facts : ValueFacts (splitting limits)
  value_facts =
      record { laws = value_laws; some_judgement = λ bytes before run held. inl (held, refl) }

  run_of : (before records : List Payload) (used : ℕ) (bytes : List ℕ)
      → IsRecording limits.frame bytes records → used + length bytes ≤ limits.input
      → Run (splitting limits) before used bytes records
  unfolding Run
  run_of before [] used bytes recording short = recording
  run_of before (held ∷ records) used bytes (front, more, is_record, split, recording) short = (
    front,
    more,
    split,
    record {
      held = held;
      is_record = is_record;
      is_next = refl;
      in_time = omega (arith, ap length split, length-append front more);
    },
    run_of (before ++ held ∷ []) records (used + length front) more recording
        (omega (arith, ap length split, length-append front more)),
  )

  recording_of : (before records : List Payload) (used : ℕ) (bytes : List ℕ)
      → Run (splitting limits) before used bytes records → IsRecording limits.frame bytes records
  unfolding Run
  recording_of before [] used bytes run = run
  recording_of before (held ∷ records) used bytes (front, more, split, passes, run) =
      rw passes.is_next (
        front,
        more,
        passes.is_record,
        split,
        recording_of (before ++ held ∷ []) records (used + length front) more run,
      )

  pub accepted_facts : AcceptedFacts (splitting limits)
  accepted_facts = record {
    run_of_accepted = λ bytes records accepted.
        run_of [] records 0 bytes accepted.recording (let short = accepted.short in omega arith);
    accepted_of_run = λ bytes records run.
        record {
          short = run_within (splitting limits) bytes records run;
          recording = recording_of [] records 0 bytes run;
        };
  }

  -- A reader of records returns the records that are split.
  pub reads_records : ReadsAs (splitting limits) (record_items limits.frame) payload_of
  reads_records = record {
    records = readable limits.frame;
    judged = value_laws;
    accepted = accepted_facts;
    item_of = λ bytes whole is. is;
    fault_of = λ bytes cause ends. ends;
    open_of = λ bytes is_open. is_open;
  }

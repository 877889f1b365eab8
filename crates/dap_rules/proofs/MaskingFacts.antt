-- Masked recordings satisfy the laws of runs, and the accepted recordings are the accepted runs.
use Rattle.std.proofs.Common.{◌≡◌, ◌⊎◌, inl, inr, ℕ, ◌+◌, ◌≤◌, List, [], ◌∷◌, ◌++◌, length, refl}
use Rattle.std.proofs.Common.{sym, ◌∙◌, ap, ap₂, subst, arith, append_assoc, append-nil}
use Rattle.std.proofs.Common.{length-append}
use Rattle.dap_message.specs.Message.{Sent, no_reading, fraction, faulty}
use Rattle.dap_recording.proofs.Records.{readable}
use Rattle.dap_recording.specs.Recording.{IsRecording}
use Rattle.dap_input.specs.ItemReading.{record_items}
use Rattle.dap_input.specs.declared.limits.Limits.{Limits}
use Rattle.dap_input.specs.Validation.{ContentError, no_message, broken, too_many_ids, grew}
use Rattle.dap_input.proofs.InputLoop.{ReadsAs}
use Rattle.dap_input.proofs.Runs.{Run, run_within, ValueLaws, ValueFacts, AcceptedFacts}
use Rattle.dap_normalise.specs.Accepting.{Payload, Fits}
use Rattle.dap_normalise.specs.JudgingSteps.{payload_of}
use Rattle.dap_normalise.proofs.NormalTexts.{fits_front, fits_or_not}
use Rattle.dap_mask.specs.Fills.{filled}
use Rattle.dap_mask.specs.Mask.{Mask}
use Rattle.dap_words.specs.Worded.{worded_message}
use Rattle.dap_mask.proofs.LooseReading.{one_reading, some_loose_reading}
use Rattle.dap_rules.specs.Masking.{AreMessages, AreWhole, IsMessage, IsNext, Rejects, left_of}
use Rattle.dap_rules.specs.Masking.{masking}
use Rattle.dap_rules.proofs.LeftLists.{left-append, whole_both, whole_front, whole_or_not}
use Rattle.dap_rules.proofs.LeftLists.{whole_rest}

pub message_once : (mask : Mask) (held : Payload) (m n : Sent) → IsMessage mask held m
    → IsMessage mask held n → m ≡ n
message_once mask held m n one two =
    ap₂ (λ s d. record { side = s; doc = d }) (one.0 ∙ sym two.0)
    (one_reading mask held.1 m.doc n.doc one.1 two.1)

module _ (limits : Limits) (mask : Mask) where
  -- ---- at most one outcome

  whole_of_other : (held : Payload) (m n : Sent) → IsMessage mask held m → IsMessage mask held n
      → AreWhole (left_of mask (m ∷ [])) → AreWhole (left_of mask (n ∷ []))
  whole_of_other held m n one two whole =
      subst (λ k. AreWhole (left_of mask (k ∷ []))) (message_once mask held m n one two) whole

  unread : (held : Payload) (m : Sent) → IsMessage mask held m
      → Rejects limits mask [] held (no_message no_reading) → ⊥
  unread held m is none = none is.1.1.0 is.1.1.1

  one_objection : (before : List Sent) (held : Payload) (why because : ContentError)
      → Rejects limits mask before held why → Rejects limits mask before held because
      → why ≡ because
  one_objection before held (no_message no_reading) (no_message no_reading) one two = refl
  one_objection before held (no_message no_reading) (no_message fraction) one two =
      absurd (unread held two.0 two.1 one)
  one_objection before held (no_message no_reading) grew one two =
      absurd (unread held two.0 two.1 one)
  one_objection before held (no_message fraction) (no_message no_reading) one two =
      absurd (unread held one.0 one.1 two)
  one_objection before held (no_message fraction) (no_message fraction) one two = refl
  one_objection before held (no_message fraction) grew one two =
      absurd (one.2 (whole_of_other held two.0 one.0 two.1 one.1 two.2))
  one_objection before held grew (no_message no_reading) one two =
      absurd (unread held one.0 one.1 two)
  one_objection before held grew (no_message fraction) one two =
      absurd (two.2 (whole_of_other held one.0 two.0 one.1 two.1 one.2))
  one_objection before held grew grew one two = refl
  one_objection before held (no_message (faulty fault)) because one two = absurd one
  one_objection before held (broken rule) because one two = absurd one
  one_objection before held too_many_ids because one two = absurd one
  one_objection before held why because one two = absurd two

  next_not_objected : (before : List Sent) (held : Payload) (m : Sent) (why : ContentError)
      → IsNext limits mask before held m → Rejects limits mask before held why → ⊥
  next_not_objected before held m (no_message no_reading) next objects =
      unread held m next.is_message objects
  next_not_objected before held m (no_message fraction) next objects =
      objects.2 (whole_of_other held m objects.0 next.is_message objects.1 next.whole)
  next_not_objected before held m grew next objects =
      objects.3 (subst (λ k. Fits limits (left_of mask (before ++ k ∷ [])))
      (message_once mask held m objects.0 next.is_message objects.1) next.fits)
  next_not_objected before held m why next objects = absurd objects

  pub value_laws : ValueLaws (masking limits mask)
  value_laws = record {
    one_value = λ before held m n one two. message_once mask held m n one.is_message two.is_message;
    one_objection = one_objection;
    next_not_objected = next_not_objected;
  }

  -- ---- some outcome

  module _ (before : List Sent) (held : Payload) where
    abbrev Judgement : Type 0
    Judgement = ((m : Sent) × IsNext limits mask before held m)
        ⊎ ((why : ContentError) × Rejects limits mask before held why)

    judge_length : (m : Sent) → IsMessage mask held m → AreWhole (left_of mask (m ∷ []))
        → Fits limits (left_of mask (before ++ m ∷ []))
        ⊎ (Fits limits (left_of mask (before ++ m ∷ [])) → ⊥) → Judgement
    judge_length m is whole (inl fits) =
        inl (m, record { is_message = is; whole = whole; fits = fits })
    judge_length m is whole (inr grows) = inr (grew, (m, is, whole, grows))

    judge_message : (m : Sent) → IsMessage mask held m
        → AreWhole (left_of mask (m ∷ [])) ⊎ (AreWhole (left_of mask (m ∷ [])) → ⊥) → Judgement
    judge_message m is (inl whole) =
        judge_length m is whole (fits_or_not limits (left_of mask (before ++ m ∷ [])))
    judge_message m is (inr not_whole) = inr (no_message fraction, (m, is, not_whole))

    judge_held : Judgement
    judge_held =
        elim (some_loose_reading held.1) [
          | inl read ↦ let doc = filled mask.fills (worded_message mask.words read.0) in
              let m : Sent = record { side = held.0; doc = doc } in
              judge_message m (refl, (read.0, read.1, refl)) (whole_or_not (left_of mask (m ∷ [])))
          | inr none ↦ inr (no_message no_reading, none)
        ]

  pub value_facts : ValueFacts (masking limits mask)
  value_facts =
      record { laws = value_laws; some_judgement = λ bytes before run held. judge_held before held }

  -- ---- accepted recordings are runs

  fits_before : (messages others : List Sent) → Fits limits (left_of mask (messages ++ others))
      → Fits limits (left_of mask messages)
  fits_before messages others fits =
      fits_front limits (left_of mask messages) (left_of mask others)
      (subst (Fits limits) (left-append mask messages others) fits)

  run_of : (before messages : List Sent) (used : ℕ) (bytes : List ℕ) (records : List Payload)
      → IsRecording limits.frame bytes records → AreMessages mask records messages
      → AreWhole (left_of mask messages) → Fits limits (left_of mask (before ++ messages))
      → used + length bytes ≤ limits.input → Run (masking limits mask) before used bytes messages
  unfolding Run
  run_of before [] used bytes [] recording read whole fits short = recording
  run_of before (m ∷ messages) used bytes [] recording read whole fits short = absurd read
  run_of before [] used bytes (held ∷ records) recording read whole fits short = absurd read
  run_of before (m ∷ messages) used bytes (held ∷ records)
      (front, more, is_record, split, recording) (is_message, read) whole fits short =
      let shift : before ++ m ∷ messages ≡ (before ++ m ∷ []) ++ messages =
      sym (append_assoc before (m ∷ []) messages) in
      let all_fit = subst (λ ms. Fits limits (left_of mask ms)) shift fits in (
        front,
        more,
        split,
        record {
          held = held;
          is_record = is_record;
          is_next = record {
            is_message = is_message;
            whole = whole_front mask (m ∷ []) messages whole;
            fits = fits_before (before ++ m ∷ []) messages all_fit;
          };
          in_time = omega (arith, ap length split, length-append front more);
        },
        run_of (before ++ m ∷ []) messages (used + length front) more records recording read
            (whole_rest mask (m ∷ []) messages whole) all_fit
            (omega (arith, ap length split, length-append front more)),
      )

  -- The records of a run contain its messages, and the masked messages can be written.
  records_of : (before messages : List Sent) (used : ℕ) (bytes : List ℕ)
      → Run (masking limits mask) before used bytes messages
      → (records : List Payload) × IsRecording limits.frame bytes records
      × AreMessages mask records messages × AreWhole (left_of mask messages)
  unfolding Run
  records_of before [] used bytes run = ([], run, tt, tt)
  records_of before (m ∷ messages) used bytes (front, more, split, passes, run) =
      let rest = records_of (before ++ m ∷ []) messages (used + length front) more run in (
        passes.held
            ∷ rest.0,
        (front, more, passes.is_record, split, rest.1),
        (passes.is_next.is_message, rest.2),
        whole_both mask (m ∷ []) messages passes.is_next.whole rest.3,
      )

  run_fits : (before messages : List Sent) (used : ℕ) (bytes : List ℕ)
      → Run (masking limits mask) before used bytes messages → Fits limits (left_of mask before)
      → Fits limits (left_of mask (before ++ messages))
  unfolding Run
  run_fits before [] used bytes run fits =
      subst (λ ms. Fits limits (left_of mask ms)) (sym (append-nil before)) fits
  run_fits before (m ∷ messages) used bytes (front, more, split, passes, run) fits =
      subst (λ ms. Fits limits (left_of mask ms)) (append_assoc before (m ∷ []) messages)
      (run_fits (before ++ m ∷ []) messages (used + length front) more run passes.is_next.fits)

  pub fits_none : Fits limits []
  fits_none = record { each = tt; whole = omega arith }

  pub accepted_facts : AcceptedFacts (masking limits mask)
  accepted_facts = record {
    run_of_accepted = λ bytes messages accepted.
        run_of [] messages 0 bytes accepted.records accepted.recording accepted.read
        accepted.whole accepted.fits (let short = accepted.short in omega arith);
    accepted_of_run = λ bytes messages run.
        let records = records_of [] messages 0 bytes run in
        record {
          short = run_within (masking limits mask) bytes messages run;
          records = records.0;
          recording = records.1;
          read = records.2;
          whole = records.3;
          fits = run_fits [] messages 0 bytes run fits_none;
        };
  }

  -- A reader of records returns the records that are masked.
  pub reads_records : ReadsAs (masking limits mask) (record_items limits.frame) payload_of
  reads_records = record {
    records = readable limits.frame;
    judged = value_laws;
    accepted = accepted_facts;
    item_of = λ bytes whole is. is;
    fault_of = λ bytes cause ends. ends;
    open_of = λ bytes is_open. is_open;
  }

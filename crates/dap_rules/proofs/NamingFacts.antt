-- Named recordings satisfy the laws of runs, and the accepted recordings are the accepted runs.
use Rattle.std.proofs.Common.{◌≡◌, ◌⊎◌, inl, inr, ℕ, ◌+◌, ◌≤◌, List, [], ◌∷◌, ◌++◌, length, refl}
use Rattle.std.proofs.Common.{sym, ◌∙◌, ap, ap₂, subst, arith, append_assoc, append-nil, map}
use Rattle.std.proofs.Common.{length-append}
use Rattle.dap_tree.specs.Json.{HasOutcome, IsRead, Outcome, data_of}
use Rattle.dap_tree.specs.Json as reading
use Rattle.dap_tree.proofs.Outcomes.{read_once, some_outcome, whole_or_fraction}
use Rattle.dap_message.specs.Message.{Sent, no_reading, fraction, faulty}
use Rattle.dap_recording.proofs.Records.{readable}
use Rattle.dap_recording.specs.Recording.{IsRecording}
use Rattle.dap_mask.specs.Declarations.{Declaration}
use Rattle.dap_naming.specs.Numbers.{number}
use Rattle.dap_naming.specs.Sessions.{AreFew, declared_ids, name_sent, named_sents}
use Rattle.dap_naming.proofs.SessionsNamed.{declared-append, names_of_session_prefix}
use Rattle.dap_input.specs.ItemReading.{record_items}
use Rattle.dap_input.specs.declared.limits.Limits.{Limits}
use Rattle.dap_input.specs.Validation.{ContentError, no_message, broken, too_many_ids, grew}
use Rattle.dap_input.proofs.InputLoop.{ReadsAs}
use Rattle.dap_input.proofs.Outcomes.{one_list}
use Rattle.dap_input.proofs.Runs.{Run, run_within, ValueLaws, ValueFacts, AcceptedFacts}
use Rattle.dap_normalise.specs.Accepting.{Payload, Fits}
use Rattle.dap_normalise.specs.JudgingSteps.{payload_of}
use Rattle.dap_normalise.proofs.NormalTexts.{fits_front, fits_or_not}
use Rattle.dap_rules.specs.Naming.{AreMessages, IsMessage, IsNext, OneNamedText, Rejects}
use Rattle.dap_rules.specs.Naming.{named_text, naming}
use Rattle.dap_rules.proofs.FewValues.{few_front, few_not_many, few_or_many, none_few}

pub message_once : (held : Payload) (m n : Sent) → IsMessage held m → IsMessage held n → m ≡ n
message_once held m n one two =
    ap₂ (λ s d. record { side = s; doc = d }) (one.0 ∙ sym two.0)
    (read_once held.1 m.doc n.doc one.1 two.1)

module _ (limits : Limits) (declared : List Declaration) where
  -- ---- at most one outcome

  unread : (held : Payload) (m : Sent) → IsMessage held m
      → Rejects limits declared [] held (no_message no_reading) → ⊥
  unread held m is none = none (data_of m.doc) is.1.0

  not_whole : (held : Payload) (m : Sent) → IsMessage held m
      → Rejects limits declared [] held (no_message fraction) → ⊥
  not_whole held m is some = whole_or_fraction held.1 m.doc is.1 some

  not_both : (before : List Sent) (held : Payload) (m n : Sent) → IsMessage held m
      → IsMessage held n → AreFew limits.ids (declared_ids declared (before ++ m ∷ []))
      → Rejects limits declared before held too_many_ids → ⊥
  not_both before held m n one two few many =
      few_not_many limits.ids (declared_ids declared (before ++ many.0 ∷ []))
      (subst (λ k. AreFew limits.ids (declared_ids declared (before ++ k ∷ [])))
      (message_once held m many.0 one many.1) few) many.2

  one_objection : (before : List Sent) (held : Payload) (why because : ContentError)
      → Rejects limits declared before held why → Rejects limits declared before held because
      → why ≡ because
  one_objection before held (no_message no_reading) (no_message no_reading) one two = refl
  one_objection before held (no_message no_reading) (no_message fraction) one two =
      absurd (one two.0 two.1)
  one_objection before held (no_message no_reading) too_many_ids one two =
      absurd (unread held two.0 two.1 one)
  one_objection before held (no_message no_reading) grew one two =
      absurd (unread held two.0 two.1 one)
  one_objection before held (no_message fraction) (no_message no_reading) one two =
      absurd (two one.0 one.1)
  one_objection before held (no_message fraction) (no_message fraction) one two = refl
  one_objection before held (no_message fraction) too_many_ids one two =
      absurd (not_whole held two.0 two.1 one)
  one_objection before held (no_message fraction) grew one two =
      absurd (not_whole held two.0 two.1 one)
  one_objection before held too_many_ids (no_message no_reading) one two =
      absurd (unread held one.0 one.1 two)
  one_objection before held too_many_ids (no_message fraction) one two =
      absurd (not_whole held one.0 one.1 two)
  one_objection before held too_many_ids too_many_ids one two = refl
  one_objection before held too_many_ids grew one two =
      absurd (not_both before held two.0 one.0 two.1 one.1 two.2 one)
  one_objection before held grew (no_message no_reading) one two =
      absurd (unread held one.0 one.1 two)
  one_objection before held grew (no_message fraction) one two =
      absurd (not_whole held one.0 one.1 two)
  one_objection before held grew too_many_ids one two =
      absurd (not_both before held one.0 two.0 one.1 two.1 one.2 two)
  one_objection before held grew grew one two = refl
  one_objection before held (no_message (faulty fault)) because one two = absurd one
  one_objection before held (broken rule) because one two = absurd one
  one_objection before held why because one two = absurd two

  next_not_objected : (before : List Sent) (held : Payload) (m : Sent) (why : ContentError)
      → IsNext limits declared before held m → Rejects limits declared before held why → ⊥
  next_not_objected before held m (no_message no_reading) next objects =
      unread held m next.is_message objects
  next_not_objected before held m (no_message fraction) next objects =
      not_whole held m next.is_message objects
  next_not_objected before held m too_many_ids next objects =
      not_both before held m objects.0 next.is_message objects.1 next.few objects
  next_not_objected before held m grew next objects =
      objects.3 (subst (λ k. Fits limits (named_sents declared (before ++ k ∷ [])))
      (message_once held m objects.0 next.is_message objects.1) next.fits)
  next_not_objected before held m why next objects = absurd objects

  pub value_laws : ValueLaws (naming limits declared)
  value_laws = record {
    one_value = λ before held m n one two. message_once held m n one.is_message two.is_message;
    one_objection = one_objection;
    next_not_objected = next_not_objected;
  }

  -- ---- some outcome

  module _ (before : List Sent) (held : Payload) where
    abbrev Judgement : Type 0
    Judgement = ((m : Sent) × IsNext limits declared before held m)
        ⊎ ((why : ContentError) × Rejects limits declared before held why)

    judge_length : (m : Sent) → IsMessage held m
        → AreFew limits.ids (declared_ids declared (before ++ m ∷ []))
        → Fits limits (named_sents declared (before ++ m ∷ []))
        ⊎ (Fits limits (named_sents declared (before ++ m ∷ [])) → ⊥) → Judgement
    judge_length m is few (inl fits) =
        inl (m, record { is_message = is; few = few; fits = fits })
    judge_length m is few (inr grows) = inr (grew, (m, is, few, grows))

    judge_message : (m : Sent) → IsMessage held m → Judgement
    judge_message m is =
        elim (few_or_many limits.ids (declared_ids declared (before ++ m ∷ []))) [
          | inl few ↦ judge_length m is few
              (fits_or_not limits (named_sents declared (before ++ m ∷ [])))
          | inr many ↦ inr (too_many_ids, (m, is, many))
        ]

    judge_outcome : (o : Outcome) → HasOutcome held.1 o → Judgement
    judge_outcome (reading.document d) is =
        judge_message (record { side = held.0; doc = d }) (refl, is)
    judge_outcome reading.no_reading is = inr (no_message no_reading, is)
    judge_outcome reading.fraction is = inr (no_message fraction, is)

    judge_held : Judgement
    judge_held = let outcome = some_outcome held.1 in judge_outcome outcome.0 outcome.1

  pub value_facts : ValueFacts (naming limits declared)
  value_facts =
      record { laws = value_laws; some_judgement = λ bytes before run held. judge_held before held }

  -- ---- accepted recordings are runs

  few_before : (messages others : List Sent)
      → AreFew limits.ids (declared_ids declared (messages ++ others))
      → AreFew limits.ids (declared_ids declared messages)
  few_before messages others few =
      few_front limits.ids (declared_ids declared messages) (declared_ids declared others)
      (subst (AreFew limits.ids) (declared-append declared messages others) few)

  fits_before : (messages others : List Sent)
      → Fits limits (named_sents declared (messages ++ others))
      → Fits limits (named_sents declared messages)
  fits_before messages others fits =
      fits_front limits (named_sents declared messages)
      (map (name_sent declared (number (declared_ids declared (messages ++ others)))) others)
      (subst (Fits limits) (names_of_session_prefix declared messages others) fits)

  run_of : (before messages : List Sent) (used : ℕ) (bytes : List ℕ) (records : List Payload)
      → IsRecording limits.frame bytes records → AreMessages records messages
      → AreFew limits.ids (declared_ids declared (before ++ messages))
      → Fits limits (named_sents declared (before ++ messages))
      → used + length bytes ≤ limits.input → Run (naming limits declared) before used bytes messages
  unfolding Run
  run_of before [] used bytes [] recording read few fits short = recording
  run_of before (m ∷ messages) used bytes [] recording read few fits short = absurd read
  run_of before [] used bytes (held ∷ records) recording read few fits short = absurd read
  run_of before (m ∷ messages) used bytes (held ∷ records)
      (front, more, is_record, split, recording) (is_message, read) few fits short =
      let shift : before ++ m ∷ messages ≡ (before ++ m ∷ []) ++ messages =
      sym (append_assoc before (m ∷ []) messages) in
      let all_few = subst (λ ms. AreFew limits.ids (declared_ids declared ms)) shift few in
      let all_fit = subst (λ ms. Fits limits (named_sents declared ms)) shift fits in (
        front,
        more,
        split,
        record {
          held = held;
          is_record = is_record;
          is_next = record {
            is_message = is_message;
            few = few_before (before ++ m ∷ []) messages all_few;
            fits = fits_before (before ++ m ∷ []) messages all_fit;
          };
          in_time = omega (arith, ap length split, length-append front more);
        },
        run_of (before ++ m ∷ []) messages (used + length front) more records recording read
            all_few all_fit (omega (arith, ap length split, length-append front more)),
      )

  -- The records of a run contain its messages.
  records_of : (before messages : List Sent) (used : ℕ) (bytes : List ℕ)
      → Run (naming limits declared) before used bytes messages
      → (records : List Payload) × IsRecording limits.frame bytes records
      × AreMessages records messages
  unfolding Run
  records_of before [] used bytes run = ([], run, tt)
  records_of before (m ∷ messages) used bytes (front, more, split, passes, run) =
      let rest = records_of (before ++ m ∷ []) messages (used + length front) more run in (
        passes.held
            ∷ rest.0,
        (front, more, passes.is_record, split, rest.1),
        (passes.is_next.is_message, rest.2),
      )

  -- The messages before those of a run, and those of the run, can be written together.
  abbrev CanBeNamed : List Sent → Type 0
  CanBeNamed messages = AreFew limits.ids (declared_ids declared messages)
      × Fits limits (named_sents declared messages)

  run_can : (before messages : List Sent) (used : ℕ) (bytes : List ℕ)
      → Run (naming limits declared) before used bytes messages → CanBeNamed before
      → CanBeNamed (before ++ messages)
  unfolding Run
  run_can before [] used bytes run can = subst CanBeNamed (sym (append-nil before)) can
  run_can before (m ∷ messages) used bytes (front, more, split, passes, run) can =
      subst CanBeNamed (append_assoc before (m ∷ []) messages)
      (run_can (before ++ m ∷ []) messages (used + length front) more run
      (passes.is_next.few, passes.is_next.fits))

  none_can : CanBeNamed []
  none_can = (none_few limits.ids, record { each = tt; whole = omega arith })

  pub accepted_facts : AcceptedFacts (naming limits declared)
  accepted_facts = record {
    run_of_accepted = λ bytes messages accepted.
        run_of [] messages 0 bytes accepted.records accepted.recording accepted.read
        accepted.few accepted.fits (let short = accepted.short in omega arith);
    accepted_of_run = λ bytes messages run.
        let records = records_of [] messages 0 bytes run in
        let can = run_can [] messages 0 bytes run none_can in
        record {
          short = run_within (naming limits declared) bytes messages run;
          records = records.0;
          recording = records.1;
          read = records.2;
          few = can.0;
          fits = can.1;
        };
  }

  -- A reader of records returns the records that are named.
  pub reads_records : ReadsAs (naming limits declared) (record_items limits.frame) payload_of
  reads_records = record {
    records = readable limits.frame;
    judged = value_laws;
    accepted = accepted_facts;
    item_of = λ bytes whole is. is;
    fault_of = λ bytes cause ends. ends;
    open_of = λ bytes is_open. is_open;
  }

pub one_named_text : OneNamedText
one_named_text limits declared bytes written other one two =
    one.text_is
    ∙ ap (named_text declared)
    (one_list (naming limits declared) (readable limits.frame) (value_laws limits declared)
    (accepted_facts limits declared) bytes one.messages two.messages one.accepts two.accepts)
    ∙ sym two.text_is

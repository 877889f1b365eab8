-- The entries of records satisfy the laws of runs, and the accepted recordings are the accepted
-- runs.
use Rattle.std.proofs.Common.{◌≡◌, ◌⊎◌, inl, inr, ℕ, ◌+◌, ◌≤◌, Bool, true, false, List, [], ◌∷◌}
use Rattle.std.proofs.Common.{◌++◌, length, refl, sym, ◌∙◌, ap, subst, arith, length-append}
use Rattle.dap_message.proofs.Contents.{one_refusal, some_message, typed_not_refused}
use Rattle.dap_message.specs.Message.{HasRefusal, Refusal, Sent}
use Rattle.dap_recording.proofs.Records.{readable}
use Rattle.dap_recording.specs.Recording.{IsRecording}
use Rattle.dap_tree.proofs.Outcomes.{read_once}
use Rattle.dap_input.proofs.InputLoop.{ReadsAs}
use Rattle.dap_input.proofs.Runs.{AcceptedFacts, Run, ValueFacts, ValueLaws, run_within}
use Rattle.dap_input.specs.ItemReading.{record_items}
use Rattle.dap_input.specs.Validation.{ContentError, grew, no_message}
use Rattle.dap_normalise.proofs.AcceptingFacts.{message_once}
use Rattle.dap_normalise.specs.Accepting.{Payload}
use Rattle.dap_normalise.specs.JudgingSteps.{payload_of}
use Rattle.dap_show.specs.Viewing.{AreEntries, Entry, Fits, IsEntry, IsNext, Rejects, kept}
use Rattle.dap_show.specs.Viewing.{fits_in, lines_of, broken_rule, typed, untyped, viewing}
use Rattle.dap_show.specs.declared.detail.View.{View}

module _ (view : View) where
  abbrev Holds : List Entry → Payload → Entry → Type 0
  Holds = IsEntry view

  -- ---- a record has at most one entry, or one rejection

  entry_once : (before : List Entry) (held : Payload) (e f : Entry) → Holds before held e
      → Holds before held f → e ≡ f
  entry_once before held (typed m d rule) (typed n e other) one two =
      let same = message_once held m n one.0 two.0 in
      ap (λ x. typed x d rule) same
      ∙ ap (λ x. typed n x rule) (read_once held.1 d e one.1 two.1)
      ∙ ap (λ x. typed n e x)
      (one.2 ∙ ap (broken_rule view.marks_faults (kept before)) same ∙ sym two.2)
  entry_once before held (typed m d rule) (untyped side why) one two =
      absurd (typed_not_refused held.0 held.1 m.doc why one.0.1 two.2)
  entry_once before held (untyped side why) (typed m d rule) one two =
      absurd (typed_not_refused held.0 held.1 m.doc why two.0.1 one.2)
  entry_once before held (untyped side why) (untyped other because) one two =
      ap (λ x. untyped x why) (one.1 ∙ sym two.1)
      ∙ ap (untyped other) (one_refusal held.1 why because one.2 two.2)

  entry_not_refused : (before : List Entry) (held : Payload) (e : Entry) (why : Refusal)
      → (view.marks_faults ≡ false) × HasRefusal held.1 why → Holds before held e → ⊥
  entry_not_refused before held (typed m d rule) why refused is =
      typed_not_refused held.0 held.1 m.doc why is.0.1 refused.1
  entry_not_refused before held (untyped side because) why refused is =
      (let clash : true ≡ false = sym is.0 ∙ refused.0 in cc)

  one_objection : (before : List Entry) (held : Payload) (why because : ContentError)
      → Rejects view before held why
      → Rejects view before held because → why ≡ because
  one_objection before held (no_message why) (no_message because) one two =
      ap no_message (one_refusal held.1 why because one.1 two.1)
  one_objection before held (no_message why) grew one two =
      absurd (entry_not_refused before held two.0 why one two.1)
  one_objection before held (no_message why) because one two = absurd two
  one_objection before held grew (no_message because) one two =
      absurd (entry_not_refused before held one.0 because two one.1)
  one_objection before held grew grew one two = refl
  one_objection before held grew because one two = absurd two
  one_objection before held why because one two = absurd one

  next_not_objected : (before : List Entry) (held : Payload) (e : Entry) (why : ContentError)
      → IsNext view before held e
      → Rejects view before held why → ⊥
  next_not_objected before held e (no_message why) next objects =
      entry_not_refused before held e why objects next.0
  next_not_objected before held e grew next objects =
      let same = entry_once before held e objects.0 next.0 objects.1 in
      objects.2 (subst (λ x. Fits view (before ++ x ∷ [])) same next.1)
  next_not_objected before held e why next objects = absurd objects

  pub value_laws : ValueLaws (viewing view)
  value_laws = record {
    one_value = λ before held e f one two. entry_once before held e f one.0 two.0;
    one_objection = one_objection;
    next_not_objected = next_not_objected;
  }

  -- ---- accepted recordings are runs

  run_of : (before entries : List Entry) (used : ℕ) (bytes : List ℕ) (records : List Payload)
      → IsRecording view.limits.frame bytes records
      → AreEntries view before records entries
      → used + length bytes ≤ view.limits.input
      → Run (viewing view) before used bytes entries
  unfolding Run
  run_of before [] used bytes [] recording entered short = recording
  run_of before (e ∷ entries) used bytes [] recording entered short = absurd entered
  run_of before [] used bytes (held ∷ records) recording entered short = absurd entered
  run_of before (e ∷ entries) used bytes (held ∷ records)
      (front, more, is_record, split, recording) (is_next, entered) short = (
        front,
        more,
        split,
        record {
          held = held;
          is_record = is_record;
          is_next = is_next;
          in_time = omega (arith, ap length split, length-append front more);
        },
        run_of (before ++ e ∷ []) entries (used + length front) more records recording entered
            (omega (arith, ap length split, length-append front more)),
      )

  -- The records of a run have its entries.
  records_of : (before entries : List Entry) (used : ℕ) (bytes : List ℕ)
      → Run (viewing view) before used bytes entries
      → (records : List Payload) × IsRecording view.limits.frame bytes records
      × AreEntries view before records entries
  unfolding Run
  records_of before [] used bytes run = ([], run, tt)
  records_of before (e ∷ entries) used bytes (front, more, split, passes, run) =
      let rest = records_of (before ++ e ∷ []) entries (used + length front) more run in (
        passes.held ∷ rest.0,
        (front, more, passes.is_record, split, rest.1),
        (passes.is_next, rest.2),
      )

  pub accepted_facts : AcceptedFacts (viewing view)
  accepted_facts = record {
    run_of_accepted =
        λ bytes entries accepted. run_of [] entries 0 bytes accepted.records accepted.recording
        accepted.entered (let short = accepted.short in omega arith);
    accepted_of_run = λ bytes entries run.
        let records = records_of [] entries 0 bytes run in
        record {
          short = run_within (viewing view) bytes entries run;
          records = records.0;
          recording = records.1;
          entered = records.2;
        };
  }

  -- A reader of records returns the records that are checked.
  pub reads_entries : ReadsAs (viewing view) (record_items view.limits.frame)
      payload_of
  reads_entries = record {
    records = readable view.limits.frame;
    judged = value_laws;
    accepted = accepted_facts;
    item_of = λ bytes whole is. is;
    fault_of = λ bytes cause ends. ends;
    open_of = λ bytes is_open. is_open;
  }

  -- ---- each record is accepted or rejected

  abbrev Judgement : List Entry → Payload → Type 0
  Judgement before held =
      ((e : Entry) × IsNext view before held e)
      ⊎ ((why : ContentError) × Rejects view before held why)

  by_fit : (before : List Entry) (held : Payload) (e : Entry) → Holds before held e → (b : Bool)
      → fits_in view.detail view.limits.input (length (lines_of view.detail 1 (before ++ e ∷ [])))
      ≡ b
      → Judgement before held
  by_fit before held e is true fits = inl (e, (is, fits))
  by_fit before held e is false past =
      inr (grew, (e, is, λ fits. (let clash : false ≡ true = sym past ∙ fits in cc)))

  by_marks : (before : List Entry) (held : Payload) (why : Refusal) → HasRefusal held.1 why
      → (b : Bool) → view.marks_faults ≡ b → Judgement before held
  by_marks before held why refused true marked =
      by_fit before held (untyped held.0 why) (marked, refl, refused) _ refl
  by_marks before held why refused false strict = inr (no_message why, (strict, refused))

  pub value_facts : ValueFacts (viewing view)
  value_facts = record {
    laws = value_laws;
    some_judgement = λ bytes before run held.
        elim (some_message held.0 held.1) [
          | inl message ↦
              let m : Sent = record { side = held.0; doc = message.0 } in
              by_fit before held
              (typed m message.1.0 (broken_rule view.marks_faults (kept before) m))
              ((refl, message.1), message.1.1, refl) _ refl
          | inr refused ↦ by_marks before held refused.0 refused.1 view.marks_faults refl
        ];
  }

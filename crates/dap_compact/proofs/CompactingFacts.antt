-- Frames of JSON contents, as `compact` checks them: the obligations of its runs, and that the runs
-- are the inputs that it accepts.
use Rattle.std.proofs.Common.{◌≡◌, ◌⊎◌, inl, inr, ℕ, ◌+◌, ◌<◌, ◌≤◌, List, [], ◌∷◌, ◌++◌, length}
use Rattle.std.proofs.Common.{refl, sym, ◌∙◌, ap, subst, arith, append_assoc, append-nil}
use Rattle.std.proofs.Common.{length-append}
use Rattle.std.proofs.lemmas.Bool.{cases_lt}
use Rattle.std.specs.List.{AllByRecursion}
use Rattle.dap_tree.specs.Doc.{Doc}
use Rattle.dap_tree.specs.Json.{IsRead, Outcome, HasOutcome, data_of, text_of}
use Rattle.dap_tree.specs.Json as reading
use Rattle.dap_tree.proofs.Outcomes.{read_once, whole_or_fraction, some_outcome}
use Rattle.dap_frame.specs.Frame.{AreFrames, frame_text, frames}
use Rattle.dap_frame.proofs.Frames.{readable}
use Rattle.dap_frame.proofs.Ends.{IsReadable}
use Rattle.dap_frame.proofs.Then.{faults_as_readable}
use Rattle.dap_recording.specs.declared.record_fault.RecordCause.TheVariants.{Frame}
use Rattle.dap_input.specs.declared.limits.Limits.{Limits}
use Rattle.dap_input.specs.Limits.{AreSound}
use Rattle.dap_message.specs.Message.{no_reading, fraction, faulty}
use Rattle.dap_input.specs.Validation.{ContentError, no_message, broken, too_many_ids, grew}
use Rattle.dap_compact.specs.Compacting.{AreRead, Fits, Rejects, compacting, text}
use Rattle.dap_input.proofs.Runs.{Run, ValueLaws, ValueFacts, AcceptedFacts}

-- the frames that are read as records
pub readable_frames : (limits : Limits) → AreSound limits → IsReadable (compacting limits).records
readable_frames limits sound =
    faults_as_readable Frame (frames limits.frame) (readable limits.frame sound.frame)

module _ (limits : Limits) where
  one_objection : (values : List Doc) (content : List ℕ) (why because : ContentError)
      → Rejects limits values content why → Rejects limits values content because → why ≡ because
  one_objection values content (no_message no_reading) (no_message no_reading) one two = refl
  one_objection values content (no_message no_reading) (no_message fraction) one two =
      absurd (one two.0 two.1)
  one_objection values content (no_message no_reading) grew one two =
      absurd (one (data_of two.0) two.1.0)
  one_objection values content (no_message fraction) (no_message no_reading) one two =
      absurd (two one.0 one.1)
  one_objection values content (no_message fraction) (no_message fraction) one two = refl
  one_objection values content (no_message fraction) grew one two =
      absurd (whole_or_fraction content two.0 two.1 one)
  one_objection values content grew (no_message no_reading) one two =
      absurd (two (data_of one.0) one.1.0)
  one_objection values content grew (no_message fraction) one two =
      absurd (whole_or_fraction content one.0 one.1 two)
  one_objection values content grew grew one two = refl
  one_objection values content (no_message (faulty fault)) because one two = absurd one
  one_objection values content (broken rule) because one two = absurd one
  one_objection values content too_many_ids because one two = absurd one
  one_objection values content why because one two = absurd two

  next_not_objected : (values : List Doc) (content : List ℕ) (value : Doc) (why : ContentError)
      → IsRead content value × Fits limits (values ++ value ∷ [])
      → Rejects limits values content why → ⊥
  next_not_objected values content value (no_message no_reading) next objects =
      objects (data_of value) next.0.0
  next_not_objected values content value (no_message fraction) next objects =
      whole_or_fraction content value next.0 objects
  next_not_objected values content value grew next objects =
      let same = read_once content value objects.0 next.0 objects.1 in
      objects.2 (subst (λ v. Fits limits (values ++ v ∷ [])) same next.1)
  next_not_objected values content value why next objects = absurd objects

  pub value_laws : ValueLaws (compacting limits)
  value_laws = record {
    one_value = λ values content value other one two. read_once content value other one.0 two.0;
    one_objection = one_objection;
    next_not_objected = next_not_objected;
  }

  -- ---- accepted inputs are runs

  text-append : (values others : List Doc) → text (values ++ others) ≡ text values ++ text others
  text-append [] others = refl
  text-append (value ∷ values) others =
      ap (λ t. frame_text (text_of value) ++ t) (text-append values others)
      ∙ sym (append_assoc (frame_text (text_of value)) (text values) (text others))

  each_front : (values others : List Doc)
      → AllByRecursion (λ value. length (text_of value) ≤ limits.frame.content) (values ++ others)
      → AllByRecursion (λ value. length (text_of value) ≤ limits.frame.content) values
  each_front [] others all = tt
  each_front (value ∷ values) others all = (all.0, each_front values others all.1)

  -- if values fit, so does every prefix of them
  fits_front : (values others : List Doc) → Fits limits (values ++ others) → Fits limits values
  fits_front values others fits =
      let whole = fits.whole in
      record {
        each = each_front values others fits.each;
        whole = omega (
          arith,
          whole,
          ap length (text-append values others),
          length-append (text values) (text others),
        );
      }

  run_of : (before values : List Doc) (used : ℕ) (bytes : List ℕ) (contents : List (List ℕ))
      → AreFrames limits.frame bytes contents → AreRead contents values
      → Fits limits (before ++ values) → used + length bytes ≤ limits.input
      → Run (compacting limits) before used bytes values
  unfolding Run
  run_of before [] used bytes [] frames read fits short = frames
  run_of before (value ∷ values) used bytes [] frames read fits short = absurd read
  run_of before [] used bytes (content ∷ contents) frames read fits short = absurd read
  run_of before (value ∷ values) used bytes (content ∷ contents)
      (frame, more, is_frame, split, frames) (is_read, read) fits short =
      let shift : (before ++ value ∷ []) ++ values ≡ before ++ value ∷ values =
      append_assoc before (value ∷ []) values in
      let fits_more = subst (Fits limits) (sym shift) fits in (
        frame,
        more,
        split,
        record {
          held = content;
          is_record = is_frame;
          is_next = (is_read, fits_front (before ++ value ∷ []) values fits_more);
          in_time = omega (arith, ap length split, length-append frame more);
        },
        run_of (before ++ value ∷ []) values (used + length frame) more contents frames read
            fits_more (omega (arith, ap length split, length-append frame more)),
      )

  -- the contents of a run, which are read as its values
  contents_of : (before values : List Doc) (used : ℕ) (bytes : List ℕ)
      → Run (compacting limits) before used bytes values
      → (contents : List (List ℕ)) × AreFrames limits.frame bytes contents × AreRead contents values
  unfolding Run
  contents_of before [] used bytes run = ([], run, tt)
  contents_of before (value ∷ values) used bytes (frame, more, split, passes, run) =
      let rest = contents_of (before ++ value ∷ []) values (used + length frame) more run in (
        passes.held
            ∷ rest.0,
        (frame, more, passes.is_record, split, rest.1),
        (passes.is_next.0, rest.2),
      )

  run_fits : (before values : List Doc) (used : ℕ) (bytes : List ℕ)
      → Run (compacting limits) before used bytes values → Fits limits before → used ≤ limits.input
      → Fits limits (before ++ values) × (used + length bytes ≤ limits.input)
  unfolding Run
  run_fits before [] used bytes run fits short =
      (subst (Fits limits) (sym (append-nil before)) fits, omega (arith, ap length run))
  run_fits before (value ∷ values) used bytes (frame, more, split, passes, run) fits short =
      let rest = run_fits (before ++ value ∷ []) values (used + length frame) more run
      passes.is_next.1 passes.in_time in (
        subst (Fits limits) (append_assoc before (value ∷ []) values) rest.0,
        omega (arith, rest.1, ap length split, length-append frame more),
      )

  pub fits_none : Fits limits []
  fits_none = record { each = tt; whole = omega arith }

  pub accepted_facts : AcceptedFacts (compacting limits)
  accepted_facts = record {
    run_of_accepted =
        λ bytes values accepted. run_of [] values 0 bytes accepted.contents accepted.frames
        accepted.read accepted.fits (let short = accepted.short in omega arith);
    accepted_of_run = λ bytes values run.
        let contents = contents_of [] values 0 bytes run in
        let fits = run_fits [] values 0 bytes run fits_none (omega arith) in
        record {
          short = omega (arith, fits.1);
          contents = contents.0;
          frames = contents.1;
          read = contents.2;
          fits = fits.0;
        };
  }

  -- ---- each content is checked

  each_or_not : (values : List Doc)
      → AllByRecursion (λ value. length (text_of value) ≤ limits.frame.content) values
      ⊎ (AllByRecursion (λ value. length (text_of value) ≤ limits.frame.content) values → ⊥)
  each_or_not [] = inl tt
  each_or_not (value ∷ values) =
      both (cases_lt limits.frame.content (length (text_of value))) (each_or_not values)
    where
      Short : Doc → Type 0
      Short = λ value. length (text_of value) ≤ limits.frame.content

      both : (limits.frame.content < length (text_of value))
          ⊎ (length (text_of value) ≤ limits.frame.content)
          → AllByRecursion Short values ⊎ (AllByRecursion Short values → ⊥)
          → AllByRecursion Short (value ∷ values) ⊎ (AllByRecursion Short (value ∷ values) → ⊥)
      both (inl long) rest =
          inr (λ all. let short : length (text_of value)
          ≤ limits.frame.content = all.0 in omega arith)
      both (inr short) (inl rest) = inl (short, rest)
      both (inr short) (inr rest) = inr (λ all. rest all.1)

  fits_or_not : (values : List Doc) → Fits limits values ⊎ (Fits limits values → ⊥)
  fits_or_not values = both (each_or_not values) (cases_lt limits.input (length (text values)))
    where
      both : AllByRecursion (λ value. length (text_of value) ≤ limits.frame.content) values
          ⊎ (AllByRecursion (λ value. length (text_of value) ≤ limits.frame.content) values → ⊥)
          → (limits.input < length (text values)) ⊎ (length (text values) ≤ limits.input)
          → Fits limits values ⊎ (Fits limits values → ⊥)
      both (inl each) (inr short) = inl (record { each = each; whole = short })
      both (inr each) short = inr (λ fits. each fits.each)
      both each (inl long) = inr (λ fits. let short = fits.whole in omega arith)

  abbrev Judgement : List Doc → List ℕ → Type 0
  Judgement values content =
      ((value : Doc) × (IsRead content value × Fits limits (values ++ value ∷ [])))
      ⊎ ((why : ContentError) × Rejects limits values content why)

  judge_content : (values : List Doc) (content : List ℕ) → Judgement values content
  judge_content values content = by_outcome (some_outcome content).0 (some_outcome content).1
    where
      by_fit : (value : Doc) → IsRead content value
          → Fits limits (values ++ value ∷ []) ⊎ (Fits limits (values ++ value ∷ []) → ⊥)
          → Judgement values content
      by_fit value is_read (inl fits) = inl (value, (is_read, fits))
      by_fit value is_read (inr grows) = inr (grew, (value, is_read, grows))

      by_outcome : (o : Outcome) → HasOutcome content o → Judgement values content
      by_outcome (reading.document value) is_read =
          by_fit value is_read (fits_or_not (values ++ value ∷ []))
      by_outcome reading.no_reading none = inr (no_message no_reading, none)
      by_outcome reading.fraction fractional = inr (no_message fraction, fractional)

  pub value_facts : ValueFacts (compacting limits)
  value_facts =
      record {
        laws = value_laws;
        some_judgement = λ bytes values run content. judge_content values content;
      }

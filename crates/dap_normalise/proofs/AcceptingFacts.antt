-- Records of messages: the obligations of their runs, and that the runs are the accepted
-- recordings.
use Rattle.std.proofs.Common.{◌≡◌, ◌⊎◌, inl, inr, ℕ, ◌+◌, ◌≤◌, true, List, [], ◌∷◌, ◌++◌, length}
use Rattle.std.proofs.Common.{Option, Some, None, refl, sym, ◌∙◌, ap, ap₂, subst, arith}
use Rattle.std.proofs.Common.{append_assoc, append-nil, length-append}
use Rattle.dap_message.specs.Message.{Sent}
use Rattle.dap_message.specs.Numbers.{is_proper}
use Rattle.dap_message.proofs.Contents.{one_message, one_refusal, typed_not_refused, some_message}
use Rattle.dap_message.proofs.Contents.{content_well_formed}
use Rattle.dap_recording.specs.Recording.{IsRecording}
use Rattle.dap_rename.specs.Messages.{AreProper, HasFewIds, HasTooManyIds}
use Rattle.dap_rename.specs.Modes.{stop_in}
use Rattle.dap_rename.specs.declared.mode.Mode.{Mode}
use Rattle.dap_rename.specs.Numbering.{table}
use Rattle.dap_rename.proofs.NormalForms.{front_has_few_ids}
use Rattle.dap_session.specs.declared.rule.Rule.{Rule}
use Rattle.dap_session.specs.Rules.{KeepsRules, first_broken}
use Rattle.dap_session.proofs.RulesOneByOne.{none_keep, keeps_push}
use Rattle.dap_input.specs.declared.limits.Limits.{Limits}
use Rattle.dap_input.specs.Validation.{ContentError, no_message, broken, too_many_ids, grew}
use Rattle.dap_normalise.specs.Accepting.{Payload, IsMessage, AreMessages, Rejects, IsNext, accepting}
use Rattle.dap_normalise.specs.Accepting.{NormalFits, HasGrown, id_limit}
use Rattle.dap_normalise.proofs.NormalTexts.{few_or_many, few_not_many, fits_or_grew, fits_not_grown}
use Rattle.dap_normalise.proofs.NormalTexts.{normal, normal_fits, normal_fits_front, proper_push}
use Rattle.dap_input.proofs.Runs.{Run, run_within, ValueLaws, ValueFacts, AcceptedFacts}
use Rattle.dap_input.proofs.Runs.{none_accepted}
use Rattle.dap_normalise.specs.Normalising.{Normalises}

-- ---- the content of a record

pub message_once : (held : Payload) (m n : Sent) → IsMessage held m → IsMessage held n → m ≡ n
message_once held m n one two =
    same_sent m n (one.0 ∙ sym two.0) (one_message held.0 held.1 m.doc n.doc one.1 two.1)
  where
    same_sent : (m n : Sent) → m.side ≡ n.side → m.doc ≡ n.doc → m ≡ n
    same_sent m n side doc = ap₂ (λ s d. record { side = s; doc = d }) side doc

-- No id of a message is a variables reference of 0.
pub message_proper : (held : Payload) (m : Sent) → IsMessage held m → is_proper m.doc ≡ true
message_proper held m is = (content_well_formed held.0 held.1 m.doc is.1).proper

pub messages_proper : (records : List Payload) (messages : List Sent) → AreMessages records messages
    → AreProper messages
messages_proper [] [] typed = tt
messages_proper [] (m ∷ messages) typed = absurd typed
messages_proper (held ∷ records) [] typed = absurd typed
messages_proper (held ∷ records) (m ∷ messages) typed =
    (message_proper held m typed.0, messages_proper records messages typed.1)

module _ (limits : Limits) (mode : Mode) where
  -- ---- at most one outcome

  broken_or_kept : (before : List Sent) (held : Payload) (rule : Rule)
      → Rejects limits mode before held (broken rule) → (n : Sent) → IsMessage held n
      → first_broken before n ≡ None → ⊥
  broken_or_kept before held rule breaks n is keeps =
      let never : None ≡ Some rule =
      sym keeps ∙ ap (first_broken before) (message_once held n breaks.0 is breaks.1)
      ∙ breaks.2 in cc

  many_or_few : (before : List Sent) (held : Payload) → Rejects limits mode before held too_many_ids
      → (n : Sent) → IsMessage held n → HasFewIds (stop_in mode) (id_limit limits) (before ++ n
      ∷ []) → ⊥
  many_or_few before held many n is few =
      few_not_many limits mode (before ++ n ∷ []) few
      (subst (λ k. HasTooManyIds (stop_in mode) (id_limit limits) (before ++ k ∷ []))
      (message_once held many.0 n many.1 is) many.3)

  one_objection : (before : List Sent) (held : Payload) (why because : ContentError)
      → Rejects limits mode before held why → Rejects limits mode before held because → why
      ≡ because
  one_objection before held (no_message e) (no_message f) one two =
      ap no_message (one_refusal held.1 e f one two)
  one_objection before held (no_message e) (broken rule) one two =
      absurd (typed_not_refused held.0 held.1 two.0.doc e two.1.1 one)
  one_objection before held (no_message e) too_many_ids one two =
      absurd (typed_not_refused held.0 held.1 two.0.doc e two.1.1 one)
  one_objection before held (no_message e) grew one two =
      absurd (typed_not_refused held.0 held.1 two.0.doc e two.1.1 one)
  one_objection before held (broken rule) (no_message e) one two =
      absurd (typed_not_refused held.0 held.1 one.0.doc e one.1.1 two)
  one_objection before held (broken rule) (broken other) one two =
      ap broken (broken_once one.0 two.0 (message_once held one.0 two.0 one.1 two.1) one.2 two.2)
    where
      broken_once : (m n : Sent) → m ≡ n → first_broken before m ≡ Some rule
          → first_broken before n ≡ Some other → rule ≡ other
      broken_once m n same breaks also = let reported : Some rule ≡ Some other =
          sym breaks ∙ ap (first_broken before) same ∙ also in cc
  one_objection before held (broken rule) too_many_ids one two =
      absurd (broken_or_kept before held rule one two.0 two.1 two.2)
  one_objection before held (broken rule) grew one two =
      absurd (broken_or_kept before held rule one two.0 two.1 two.2)
  one_objection before held too_many_ids (no_message e) one two =
      absurd (typed_not_refused held.0 held.1 one.0.doc e one.1.1 two)
  one_objection before held too_many_ids (broken rule) one two =
      absurd (broken_or_kept before held rule two one.0 one.1 one.2)
  one_objection before held too_many_ids too_many_ids one two = refl
  one_objection before held too_many_ids grew one two =
      absurd (many_or_few before held one two.0 two.1 two.3)
  one_objection before held grew (no_message e) one two =
      absurd (typed_not_refused held.0 held.1 one.0.doc e one.1.1 two)
  one_objection before held grew (broken rule) one two =
      absurd (broken_or_kept before held rule two one.0 one.1 one.2)
  one_objection before held grew too_many_ids one two =
      absurd (many_or_few before held two one.0 one.1 one.3)
  one_objection before held grew grew one two = refl

  next_not_objected : (before : List Sent) (held : Payload) (m : Sent) (why : ContentError)
      → IsNext limits mode before held m → Rejects limits mode before held why → ⊥
  next_not_objected before held m (no_message e) next objects =
      typed_not_refused held.0 held.1 m.doc e next.is_message.1 objects
  next_not_objected before held m (broken rule) next objects =
      broken_or_kept before held rule objects m next.is_message next.keeps
  next_not_objected before held m too_many_ids next objects =
      many_or_few before held objects m next.is_message next.few
  next_not_objected before held m grew next objects =
      fits_not_grown limits mode (before ++ m ∷ []) next.fits
      (subst (λ k. HasGrown limits mode (before ++ k ∷ []))
      (message_once held objects.0 m objects.1 next.is_message) objects.4)

  pub value_laws : ValueLaws (accepting limits mode)
  value_laws = record {
    one_value = λ before held m n one two. message_once held m n one.is_message two.is_message;
    one_objection = one_objection;
    next_not_objected = next_not_objected;
  }

  -- ---- some outcome

  pub run_proper : (before messages : List Sent) (used : ℕ) (bytes : List ℕ)
      → Run (accepting limits mode) before used bytes messages → AreProper messages
  unfolding Run
  run_proper before [] used bytes run = tt
  run_proper before (m ∷ messages) used bytes (front, more, split, passes, run) = (
    message_proper passes.held m passes.is_next.is_message,
    run_proper (before ++ m ∷ []) messages (used + length front) more run,
  )

  module _ (before : List Sent) (proper : AreProper before) (held : Payload) where
    abbrev Judgement : Type 0
    Judgement = ((m : Sent) × IsNext limits mode before held m)
        ⊎ ((why : ContentError) × Rejects limits mode before held why)

    judge_length : (m : Sent) → IsMessage held m → first_broken before m ≡ None
        → HasFewIds (stop_in mode) (id_limit limits) (before ++ m ∷ [])
        → NormalFits limits mode (before ++ m ∷ []) ⊎ HasGrown limits mode (before ++ m ∷ [])
        → Judgement
    judge_length m is keeps few (inl fits) =
        inl (m, record { is_message = is; keeps = keeps; few = few; fits = fits })
    judge_length m is keeps few (inr grown) = inr (grew, (m, is, keeps, few, grown))

    judge_ids : (m : Sent) → IsMessage held m → first_broken before m ≡ None
        → HasFewIds (stop_in mode) (id_limit limits) (before ++ m ∷ [])
        ⊎ HasTooManyIds (stop_in mode) (id_limit limits) (before ++ m ∷ []) → Judgement
    judge_ids m is keeps (inl few) =
        judge_length m is keeps few
        (fits_or_grew limits mode (before ++ m ∷ [])
        (proper_push before m proper (message_proper held m is)))
    judge_ids m is keeps (inr many) = inr (too_many_ids, (m, is, keeps, many))

    judge_rules : (m : Sent) → IsMessage held m → (o : Option Rule) → first_broken before m ≡ o
        → Judgement
    judge_rules m is None keeps = judge_ids m is keeps (few_or_many limits mode (before ++ m ∷ []))
    judge_rules m is (Some rule) breaks = inr (broken rule, (m, is, breaks))

    judge_held : Judgement
    judge_held =
        elim (some_message held.0 held.1) [
          | inl typed ↦ let m : Sent =
              record { side = held.0; doc = typed.0 } in judge_rules m (refl, typed.1)
              (first_broken before m) refl
          | inr refused ↦ inr (no_message refused.0, refused.1)
        ]

  pub value_facts : ValueFacts (accepting limits mode)
  value_facts =
      record {
        laws = value_laws;
        some_judgement =
            λ bytes before run held. judge_held before (run_proper [] before 0 bytes run) held;
      }

  -- ---- accepted recordings are runs

  abbrev Few : List Sent → Type 0
  Few messages = HasFewIds (stop_in mode) (id_limit limits) messages

  run_of : (before messages : List Sent) (used : ℕ) (bytes : List ℕ) (records : List Payload)
      → IsRecording limits.frame bytes records → AreMessages records messages
      → KeepsRules (before ++ messages) → Few (before ++ messages)
      → NormalFits limits mode (before ++ messages) → AreProper (before ++ messages)
      → used + length bytes ≤ limits.input → Run (accepting limits mode) before used bytes messages
  unfolding Run
  run_of before [] used bytes [] recording typed keeps few fits proper short = recording
  run_of before (m ∷ messages) used bytes [] recording typed keeps few fits proper short =
      absurd typed
  run_of before [] used bytes (held ∷ records) recording typed keeps few fits proper short =
      absurd typed
  run_of before (m ∷ messages) used bytes (held ∷ records)
      (front, more, is_record, split, recording) (is_message, typed) keeps few fits proper short =
      let shift : before ++ m ∷ messages ≡ (before ++ m ∷ []) ++ messages =
      sym (append_assoc before (m ∷ []) messages) in
      let all_few = subst Few shift few in
      let all_fit = subst (NormalFits limits mode) shift fits in
      let all_proper = subst AreProper shift proper in (
        front,
        more,
        split,
        record {
          held = held;
          is_record = is_record;
          is_next = record {
            is_message = is_message;
            keeps = keeps before messages m refl;
            few = front_has_few_ids (stop_in mode) (id_limit limits) (before ++ m ∷ []) messages
                all_few;
            fits = normal_fits_front limits mode (before ++ m ∷ []) messages all_proper all_fit;
          };
          in_time = omega (arith, ap length split, length-append front more);
        },
        run_of (before ++ m ∷ []) messages (used + length front) more records recording typed
            (subst KeepsRules shift keeps) all_few all_fit all_proper
            (omega (arith, ap length split, length-append front more)),
      )

  -- the records of a run, whose contents are its messages
  records_of : (before messages : List Sent) (used : ℕ) (bytes : List ℕ)
      → Run (accepting limits mode) before used bytes messages
      → (records : List Payload) × IsRecording limits.frame bytes records
      × AreMessages records messages
  unfolding Run
  records_of before [] used bytes run = ([], run, tt)
  records_of before (m ∷ messages) used bytes (front, more, split, passes, run) =
      let rest = records_of (before ++ m ∷ []) messages (used + length front) more run in (
        passes.held
            ∷ rest.0,
        (front, more, passes.is_record, split, rest.1),
        (passes.is_next.is_message, rest.2),
      )

  -- the conditions on the messages of a run
  pub record Keeps (messages : List Sent) : Type 0 where
    pub rules : KeepsRules messages
    pub few : Few messages
    pub fits : NormalFits limits mode messages

  pub run_keeps : (before messages : List Sent) (used : ℕ) (bytes : List ℕ)
      → Run (accepting limits mode) before used bytes messages → Keeps before
      → Keeps (before ++ messages)
  unfolding Run
  run_keeps before [] used bytes run keeps = subst Keeps (sym (append-nil before)) keeps
  run_keeps before (m ∷ messages) used bytes (front, more, split, passes, run) keeps =
      let next = passes.is_next in
      subst Keeps (append_assoc before (m ∷ []) messages)
      (run_keeps (before ++ m ∷ []) messages (used + length front) more run
      (record {
        rules = keeps_push before m keeps.rules next.keeps;
        few = next.few;
        fits = next.fits;
      }))

  pub none_keeps : Keeps []
  unfolding table
  none_keeps =
      record {
        rules = none_keep;
        few = λ c. omega arith;
        fits = normal_fits limits mode [] [] tt (normal mode [] tt)
            (record { each = tt; whole = omega arith });
      }

  pub accepted_facts : AcceptedFacts (accepting limits mode)
  accepted_facts = record {
    run_of_accepted = λ bytes messages accepted.
        run_of [] messages 0 bytes accepted.records accepted.recording accepted.typed accepted.rules
        accepted.few accepted.fits
        (messages_proper accepted.records messages accepted.typed)
        (let short = accepted.short in omega arith);
    accepted_of_run = λ bytes messages run.
        let records = records_of [] messages 0 bytes run in
        let keeps = run_keeps [] messages 0 bytes run none_keeps in
        record {
          short = run_within (accepting limits mode) bytes messages run;
          records = records.0;
          recording = records.1;
          typed = records.2;
          rules = keeps.rules;
          few = keeps.few;
          fits = keeps.fits;
        };
  }

  -- The normal form of no messages has no text.
  abbrev pub none_normalised : Normalises limits mode [] []
  none_normalised = record {
    messages = [];
    accepts = none_accepted (accepting limits mode) accepted_facts;
    normal = [];
    is_normal = normal mode [] tt;
    text_is = refl;
  }

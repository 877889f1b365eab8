-- The possible errors of the text of messages in order: it is too long, or, with `Mode::PerStop`,
-- it has too many ids.
use Rattle.std.proofs.Common.{◌≡◌, ℕ, ◌+◌, ◌≤◌, List, [], ◌∷◌, ◌++◌, length, Some, None, refl}
use Rattle.std.proofs.Common.{sym, ◌∙◌, ap, subst, arith, append_assoc, append-nil, length-append}
use Rattle.std.proofs.Common.{zero-add}
use Rattle.std.proofs.lemmas.List.{append_cancel_left}
use Rattle.dap_frame.specs.Grammar.{IsItem, FailsAt}
use Rattle.dap_frame.proofs.Ends.{item_not_faulty, item_not_open, one_item}
use Rattle.dap_message.specs.Message.{Sent, no_reading, fraction, faulty as profile_fault}
use Rattle.dap_message.proofs.Contents.{typed_not_refused}
use Rattle.dap_recording.proofs.Records.{readable}
use Rattle.dap_recording.specs.Recording.{IsRecording}
use Rattle.dap_recording.specs.declared.record_fault.RecordCause.TheVariants.{Cut}
use Rattle.dap_recording.specs.declared.record_fault.RecordCause.TheVariants.{Memory as NoMemory}
use Rattle.dap_rename.specs.Messages.{HasFewIds, HasTooManyIds}
use Rattle.dap_rename.specs.Modes.{stop_in}
use Rattle.dap_rename.specs.declared.mode.Mode.{Mode}
use Rattle.dap_rename.specs.declared.mode.Mode.TheVariants.{Whole, PerStop}
use Rattle.dap_rename.proofs.NormalForms.{front_has_few_ids}
use Rattle.dap_session.specs.Rules.{KeepsRules, first_broken}
use Rattle.dap_message.specs.SwapRules.{SwapRule}
use Rattle.dap_input.specs.Validation.{Validation, IsFirstRefusal, ContentError, Reason, Refuses}
use Rattle.dap_input.specs.Validation.{broken, cut}
use Rattle.dap_input.specs.Validation.{faulty, grew, input_too_long, no_message, objected}
use Rattle.dap_input.specs.Validation.{too_many_ids}
use Rattle.dap_input.specs.Limits.{AreSound}
use Rattle.dap_input.specs.Refusals.{IsRefused}
use Rattle.dap_input.specs.declared.limits.Limits.{Limits}
use Rattle.dap_input.specs.declared.refused.Refused.{Refused}
use Rattle.dap_input.specs.declared.refused.Refused.TheVariants.{InputTooLong, Record, Json}
use Rattle.dap_input.specs.declared.refused.Refused.TheVariants.{Fraction, Message, Rule as Breaks}
use Rattle.dap_input.specs.declared.refused.Refused.TheVariants.{TooManyIds, Grew}
use Rattle.dap_input.proofs.NextRecord.{refuses_some}
use Rattle.dap_input.proofs.Runs.{Run}
use Rattle.dap_normalise.specs.Accepting.{AreMessages, Payload, IsAccepted, IsMessage, Rejects}
use Rattle.dap_normalise.specs.Accepting.{Fits, accepting, id_limit, text}
use Rattle.dap_normalise.proofs.AcceptingFacts.{accepted_facts, message_once}
use Rattle.dap_normalise.specs.RecordTexts.{contents_of}
use Rattle.dap_normalise.proofs.NormalFormLaws.{recording_of}
use Rattle.dap_normalise.proofs.NormalTexts.{few_not_many}
use Rattle.dap_order.specs.Free.{free}
use Rattle.dap_order.specs.MessageOrder.{ordered}
use Rattle.dap_order.proofs.MessageOrder.{to_ordered}
use Rattle.dap_order.proofs.SwapsKeepRules.{reordered_keeps}
use Rattle.dap_rules.specs.Ordering.{IsTextError}
use Rattle.dap_rules.proofs.DistinctCounts.{reordered_few}
use Rattle.dap_rules.proofs.WrittenTexts.{ordered_typed}

-- The remaining reasons for rejecting a record of the text.
abbrev Allowed : Mode → Reason → Type 0
Allowed mode (objected grew) = Unit {0}
Allowed mode (objected too_many_ids) = mode ≡ PerStop
Allowed mode why = ⊥

other_mode : (mode : Mode) → (mode ≡ Whole → ⊥) → mode ≡ PerStop
other_mode Whole not_whole = absurd (not_whole refl)
other_mode PerStop not_whole = refl

module _ (limits : Limits) (mode : Mode) where
  abbrev judging : Validation
  judging = accepting limits mode

  -- With `Mode::Whole`, the messages have few ids.
  abbrev FewInWhole : List Sent → Type 0
  FewInWhole ms = mode ≡ Whole → HasFewIds (stop_in mode) (id_limit limits) ms

  -- ---- one record

  module _ (before : List Sent) (held : Payload) (m : Sent) (is : IsMessage held m)
      (keeps : first_broken before m ≡ None) (few : FewInWhole (before ++ m ∷ [])) where
    objection : (why : ContentError) → Rejects limits mode before held why
        → Allowed mode (objected why)
    objection (no_message e) o = absurd (typed_not_refused held.0 held.1 m.doc e is.1 o)
    objection (broken rule) o = absurd (never (message_once held m o.0 is o.1) o.2)
      where
        never : {n : Sent} → m ≡ n → first_broken before n ≡ Some rule → ⊥
        never {n} same breaks =
            let clash : None ≡ Some rule = sym keeps ∙ ap (first_broken before) same ∙ breaks in
            cc
    objection too_many_ids o =
        other_mode mode
        (λ whole. few_not_many limits mode (before ++ m ∷ []) (few whole)
        (subst (λ k. HasTooManyIds (stop_in mode) (id_limit limits) (before ++ k ∷ []))
        (message_once held o.0 m o.1 is) o.3))
    objection grew o = tt

    module _ (used : ℕ) (rest front more : List ℕ)
        (is_record : IsItem judging.records front held) (split : rest ≡ front ++ more)
        (in_time : used + length front ≤ limits.input) where
      here : (why : Reason) → Refuses judging before used rest why → Allowed mode why
      here (faulty cause) r =
          absurd (item_not_faulty (readable limits.frame).grammar front more held cause r.place
          is_record (subst (λ t. FailsAt judging.records t cause r.place) split r.shows))
      here input_too_long r =
          let past = r.before_end front more held split is_record in
          absurd (omega (arith, past, in_time))
      here cut r =
          absurd (item_not_open (readable limits.frame).grammar front more held is_record
          (subst judging.records.IsOpen split r.is_open))
      here (objected why) r =
          let one = one_item (readable limits.frame).grammar r.front front r.more more r.held held
          (sym r.whole ∙ split) r.is_record is_record in
          objection why (subst (λ h. Rejects limits mode before h why) one.1 r.objects)

  -- ---- all records

  refused_so : (before messages values : List Sent) (used : ℕ) (bytes front rest : List ℕ)
      (records : List Payload) → IsRecording limits.frame bytes records
      → AreMessages records messages → KeepsRules (before ++ messages)
      → FewInWhole (before ++ messages) → used + length bytes ≤ limits.input
      → bytes ≡ front ++ rest → Run judging before used front values → (why : Reason)
      → Refuses judging (before ++ values) (used + length front) rest why → Allowed mode why
  unfolding Run
  refused_so before [] values used bytes front rest [] recording typed keeps few short split run
      why refuses =
      let some = refuses_some judging (readable limits.frame) (before ++ values)
      (used + length front) rest why refuses
      (omega (arith, short, ap length split, length-append front rest)) in
      absurd (omega (arith, some, ap length recording, ap length split, length-append front rest))
  refused_so before (m ∷ messages) values used bytes front rest [] recording typed keeps few short
      split run why refuses = absurd typed
  refused_so before [] values used bytes front rest (held ∷ records) recording typed keeps few
      short split run why refuses = absurd typed
  refused_so before (m ∷ messages) [] used bytes front rest (held ∷ records)
      (item, more, is_record, whole, later) (is, typed) keeps few short split run why refuses =
      let all : bytes ≡ rest = split ∙ ap (λ t. t ++ rest) run in
      let place : used + length front ≡ used = omega (arith, ap length run) in
      let first : FewInWhole (before ++ m ∷ []) =
      λ in_whole. front_has_few_ids (stop_in mode) (id_limit limits) (before ++ m ∷ []) messages
      (subst (HasFewIds (stop_in mode) (id_limit limits))
      (sym (append_assoc before (m ∷ []) messages)) (few in_whole)) in
      here before held m is (keeps before messages m refl) first used rest item more is_record
      (sym all ∙ whole) (omega (arith, short, ap length whole, length-append item more)) why
      (subst (λ ms. Refuses judging ms used rest why) (append-nil before)
      (subst (λ n. Refuses judging (before ++ []) n rest why) place refuses))
  refused_so before (m ∷ messages) (v ∷ values) used bytes front rest (held ∷ records)
      (item, more, is_record, whole, later) (is, typed) keeps few short split
      (begin, tail, front_is, passes, run) why refuses =
      let apart : begin ++ (tail ++ rest) ≡ item ++ more =
      sym (append_assoc begin tail rest) ∙ ap (λ t. t ++ rest) (sym front_is) ∙ sym split
      ∙ whole in
      let one = one_item (readable limits.frame).grammar begin item (tail ++ rest) more passes.held
      held apart passes.is_record is_record in
      let same : v ≡ m =
      message_once held v m
      (subst (λ h. IsMessage h v) one.1 passes.is_next.is_message) is in
      let left : more ≡ tail ++ rest =
      append_cancel_left item more (tail ++ rest)
      (sym apart ∙ ap (λ t. t ++ (tail ++ rest)) one.0) in
      let shift : before ++ m ∷ messages ≡ (before ++ m ∷ []) ++ messages =
      sym (append_assoc before (m ∷ []) messages) in
      let read : before ++ v ∷ values ≡ (before ++ m ∷ []) ++ values =
      ap (λ k. before ++ k ∷ values) same ∙ sym (append_assoc before (m ∷ []) values) in
      let place : used + length front ≡ (used + length begin) + length tail =
      omega (arith, ap length front_is, length-append begin tail) in
      refused_so (before ++ m ∷ []) messages values (used + length begin) more tail rest records
      later typed (subst KeepsRules shift keeps)
      (λ in_whole. subst (HasFewIds (stop_in mode) (id_limit limits)) shift (few in_whole))
      (omega (arith, short, ap length whole, length-append item more, ap length one.0)) left
      (subst (λ k. Run judging (before ++ k ∷ []) (used + length begin) tail values) same run) why
      (subst (λ ms. Refuses judging ms ((used + length begin) + length tail) rest why) read
      (subst (λ n. Refuses judging (before ++ v ∷ values) n rest why) place refuses))

  -- ---- the text in order

  module _ (sound : AreSound limits) (rules : List SwapRule) (bytes : List ℕ) (ms : List Sent)
      (accepted : IsAccepted limits mode bytes ms) (fits : Fits limits (ordered rules ms)) where
    abbrev ns : List Sent
    ns = ordered rules ms

    few_ordered : (m : Mode) → m ≡ Whole → HasFewIds (stop_in m) (id_limit limits) ms
        → HasFewIds (stop_in m) (id_limit limits) ns
    few_ordered Whole same few =
        reordered_few (free rules) (id_limit limits) ms ns (to_ordered rules ms) few
    few_ordered PerStop same few = absurd (let e = same in cc)

    allowed : (number : ℕ) (why : Reason) → IsFirstRefusal judging (text ns) number why
        → Allowed mode why
    allowed number why first =
        let run = (accepted_facts limits mode).run_of_accepted first.front first.values
        first.accepted in
        let short = fits.whole in
        refused_so [] ns first.values 0 (text ns) first.front first.rest (contents_of ns)
        (recording_of limits sound ns fits.each)
        (ordered_typed rules ms accepted.records accepted.typed)
        (reordered_keeps rules ms ns (to_ordered rules ms) accepted.rules)
        (λ whole. few_ordered mode whole accepted.few) (omega (arith, short)) first.split run why
        (subst (λ n. Refuses judging first.values n first.rest why)
        (sym (zero-add (length first.front))) first.refuses)

    pub text_error : (because : Refused) → IsRefused judging (text ns) because
        → IsTextError mode because
    text_error (Grew n) first = tt
    text_error (TooManyIds n) first = allowed n (objected too_many_ids) first
    text_error (InputTooLong n) first = allowed n input_too_long first
    text_error (Record n Cut) first = allowed n cut first
    text_error (Record n NoMemory) none = none
    text_error (Record n cause) first = allowed n (faulty cause) first
    text_error (Json n) first = allowed n (objected (no_message no_reading)) first
    text_error (Fraction n) first = allowed n (objected (no_message fraction)) first
    text_error (Message n fault) first =
        allowed n (objected (no_message (profile_fault fault))) first
    text_error (Breaks n rule) first = allowed n (objected (broken rule)) first
    text_error because none = none

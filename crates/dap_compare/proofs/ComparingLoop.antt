-- The possible results of `compare` on two inputs, each with an accepted prefix.
use Rattle.std.proofs.Common.{◌≡◌, ◌≢◌, inl, inr, ℕ, ◌+◌, List, [], ◌∷◌, ◌++◌, length, Option, Some}
use Rattle.std.proofs.Common.{None, refl, sym, ◌∙◌, ap, subst, arith, append-nil}
use Rattle.std.proofs.lemmas.List.{append_cancel_left}
use Rattle.dap_device.specs.declared.reading.Stop.{Stop}
use Rattle.dap_device.specs.declared.reading.Stop.TheVariants.{End, Full, Failed}
use Rattle.dap_message.specs.Message.{Sent}
use Rattle.dap_rename.specs.Messages.{AreSame, IsNormal, equal_places}
use Rattle.dap_rename.specs.Modes.{stop_in}
use Rattle.dap_rename.specs.declared.mode.Mode.{Mode}
use Rattle.dap_rename.proofs.Sameness.{normal_is_unique}
use Rattle.dap_input.specs.declared.limits.Limits.{Limits}
use Rattle.dap_normalise.specs.Accepting.{IsAccepted, accepting, text}
use Rattle.dap_input.specs.Inputs.{Input, IsTaken, IsNotRefusedAt, AcceptedBefore}
use Rattle.dap_compare.specs.Comparing.{AreSameBefore, are_same, differ}
use Rattle.dap_normalise.specs.JudgingSteps.{record_of}
use Rattle.dap_input.specs.Limits.{AreSound}
use Rattle.dap_input.specs.ReadTo.{IsOf}
use Rattle.dap_compare.specs.Verdicts.{IsRecordingVerdict}
use Rattle.dap_normalise.proofs.AcceptingFacts.{accepted_facts, value_laws}
use Rattle.dap_input.proofs.InputRefusals.{next_not_refused, taken_not_refused}
use Rattle.dap_normalise.proofs.JudgedRecords.{text_push}
use Rattle.dap_compare.proofs.OneVerdict.{before_same, before_some, whole_before}
use Rattle.dap_recording.proofs.Records.{readable}
use Rattle.dap_normalise.proofs.NormalFormLaws.{equal_texts}

-- ---- an input of which some bytes were read

-- The bytes read are a prefix of it.
pub front_of : (bytes : List ℕ) (stop : Option Stop) (input : Input) → IsOf bytes stop input
    → (more : List ℕ) × (input.bytes ≡ bytes ++ more)
front_of bytes None input is = is
front_of bytes (Some End) input is = ([], is.0 ∙ sym (append-nil bytes))
front_of bytes (Some Full) input is = is
front_of bytes (Some Failed) input is = ([], is.0 ∙ sym (append-nil bytes))

module _ (limits : Limits) (mode : Mode) where
  -- If the reader reached its end, the input is accepted.
  pub taken_in : (bytes : List ℕ) (input : Input) (messages : List Sent)
      → IsOf bytes (Some End) input → IsAccepted limits mode bytes messages
      → IsTaken (accepting limits mode) input messages
  taken_in bytes input messages is accepted =
      (subst (λ t. IsAccepted limits mode t messages) (sym is.0) accepted, is.1)

  -- ---- two inputs

  pub goes_on : (number : ℕ) (input : Input) → AcceptedBefore (accepting limits mode) input (number
      + 1)
      → IsNotRefusedAt (accepting limits mode) input number
  goes_on number input next =
      next_not_refused (accepting limits mode) (readable limits.frame) (value_laws limits mode)
      (accepted_facts limits mode) input number next

  pub has_ended : (number : ℕ) (input : Input) (messages : List Sent)
      → IsTaken (accepting limits mode) input messages → IsNotRefusedAt (accepting limits mode)
      input number
  has_ended number input messages taken =
      taken_not_refused (accepting limits mode) (readable limits.frame) (value_laws limits mode)
      (accepted_facts limits mode) input messages number taken

  module _ (x y : Input) (number : ℕ)
      (before : AreSameBefore (accepting limits mode) (AreSame (stop_in mode)) x y number) where
    abbrev Differ : Type 0
    Differ = IsRecordingVerdict limits mode x y (differ number)

    none_left : (input : Input) (here : AcceptedBefore (accepting limits mode) input number)
        (messages : List Sent) → IsTaken (accepting limits mode) input messages
        → number ≡ length messages + 1 → here.rest ≡ []
    none_left input here messages taken is =
        (before_same (accepting limits mode) (readable limits.frame) (value_laws limits mode)
        (accepted_facts limits mode) input number (length messages + 1) here
        (whole_before (accepting limits mode) (readable limits.frame) (value_laws limits mode)
        (accepted_facts limits mode) input messages taken) is).2

    some_left : (input : Input) (here : AcceptedBefore (accepting limits mode) input number)
        → AcceptedBefore (accepting limits mode) input (number + 1) → here.rest ≢ []
    some_left input here next =
        before_some (accepting limits mode) (readable limits.frame) (value_laws limits mode)
        (accepted_facts limits mode) input number (number + 1) here next (omega arith)

    -- Exactly one of them has ended.
    pub x_has_ended : (messages : List Sent) → IsTaken (accepting limits mode) x messages
        → number ≡ length messages + 1 → AcceptedBefore (accepting limits mode) y (number + 1)
        → Differ
    x_has_ended messages taken is next = (
      before,
      has_ended number x messages taken,
      goes_on number y next,
      inl (none_left x before.of_a messages taken is, some_left y before.of_b next),
    )

    pub y_has_ended : (messages : List Sent) → IsTaken (accepting limits mode) y messages
        → number ≡ length messages + 1 → AcceptedBefore (accepting limits mode) x (number + 1)
        → Differ
    y_has_ended messages taken is next = (
      before,
      goes_on number x next,
      has_ended number y messages taken,
      inr (inl (some_left x before.of_a next, none_left y before.of_b messages taken is)),
    )

    -- With this record they are not the same.
    pub are_apart : (next_x : AcceptedBefore (accepting limits mode) x (number + 1))
        (next_y : AcceptedBefore (accepting limits mode) y (number + 1))
        → (AreSame (stop_in mode) next_x.values next_y.values → ⊥) → Differ
    are_apart next_x next_y apart = (
      before,
      goes_on number x next_x,
      goes_on number y next_y,
      inr (inr (next_x, next_y, apart)),
    )

  pub both_have_ended : (x y : Input) (of_x of_y : List Sent) → IsTaken (accepting limits mode) x
      of_x
      → IsTaken (accepting limits mode) y of_y → AreSame (stop_in mode) of_x of_y
      → IsRecordingVerdict limits mode x y (are_same (equal_places (stop_in mode) of_x of_y))
  both_have_ended x y of_x of_y taken_x taken_y are =
      (record { of_a = of_x; of_b = of_y; taken_a = taken_x; taken_b = taken_y; same = are }, refl)

  -- ---- the records of two normal forms

  module _ (normal of_x of_y : List Sent) (p q : Sent)
      (is_x : IsNormal (stop_in mode) of_x (normal ++ p ∷ []))
      (is_y : IsNormal (stop_in mode) of_y (normal ++ q ∷ [])) where
    -- If the next records of one normal form are not equal, the messages are not the same.
    pub not_the_same : (record_of p ≡ record_of q → ⊥) → AreSame (stop_in mode) of_x of_y → ⊥
    not_the_same apart same =
        let one = normal_is_unique (stop_in mode) of_x of_y (normal ++ p ∷ []) (normal ++ q ∷ [])
        same
        is_x is_y in
        apart (append_cancel_left (text normal) (record_of p) (record_of q)
        (sym (text_push normal p) ∙ ap text one ∙ text_push normal q))

    -- If they are equal, so are the normal forms.
    pub one_form : AreSound limits → (front_x front_y : List ℕ) → IsAccepted limits mode front_x
        of_x
        → IsAccepted limits mode front_y of_y → record_of p ≡ record_of q
        → normal ++ q ∷ [] ≡ normal ++ p ∷ []
    one_form sound front_x front_y accepted_x accepted_y equal =
        let texts : text (normal ++ p ∷ []) ≡ text (normal ++ q ∷ []) =
        text_push normal p ∙ ap (λ t. text normal ++ t) equal ∙ sym (text_push normal q) in
        let same = equal_texts limits mode sound front_x front_y (text (normal ++ p ∷ []))
        (text (normal ++ q ∷ []))
        (record {
          messages = of_x;
          accepts = accepted_x;
          normal = normal ++ p
              ∷ [];
          is_normal = is_x;
          text_is = refl;
        })
        (record {
          messages = of_y;
          accepts = accepted_y;
          normal = normal ++ q
              ∷ [];
          is_normal = is_y;
          text_is = refl;
        }) texts in
        sym (normal_is_unique (stop_in mode) of_x of_y (normal ++ p ∷ []) (normal ++ q ∷ []) same
        is_x
        is_y)

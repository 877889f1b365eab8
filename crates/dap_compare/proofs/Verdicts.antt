-- Two recordings have exactly one verdict. It is that they are the same if and only if their
-- messages are.
use Rattle.std.proofs.Common.{◌≡◌, ◌⊎◌, inl, inr, ℕ, ◌<◌, ◌≤◌, ℤ, List, [], ◌∷◌, length, refl, sym}
use Rattle.std.proofs.Common.{◌∙◌, ap, subst, arith}
use Rattle.std.proofs.lemmas.Bool.{cases_lt}
use Rattle.std.proofs.lemmas.List.{length-map}
use Rattle.dap_message.specs.Message.{Sent}
use Rattle.dap_rename.specs.Messages.{Class, AreSame, message_skeleton, normal_of}
use Rattle.dap_rename.specs.Modes.{stop_in}
use Rattle.dap_rename.specs.declared.mode.Mode.{Mode}
use Rattle.dap_rename.specs.Messages.{equal_places}
use Rattle.dap_rename.proofs.Sameness.{same_as_itself, same_fronts, same_is_proper}
use Rattle.dap_rename.proofs.Sameness.{equal_places_rename, equal_places_carry}
use Rattle.dap_input.specs.declared.limits.Limits.{Limits}
use Rattle.dap_input.specs.Limits.{AreSound}
use Rattle.dap_normalise.specs.Accepting.{IsAccepted, accepting, text}
use Rattle.dap_input.specs.Inputs.{Input, IsTaken}
use Rattle.dap_compare.specs.Comparing.{are_same}
use Rattle.dap_compare.specs.Verdicts.{RecordingsHaveOneVerdict, SameHasRenaming, SameIffRenaming}
use Rattle.dap_compare.specs.Verdicts.{IsCarried, SameIsCarried, IsRecordingVerdict}
use Rattle.dap_normalise.proofs.AcceptingFacts.{accepted_facts, messages_proper, value_facts}
use Rattle.dap_normalise.proofs.AcceptingFacts.{value_laws}
use Rattle.dap_recording.proofs.Records.{readable}
use Rattle.dap_input.proofs.Outcomes.{one_list}
use Rattle.dap_normalise.specs.Normalising.{Normalises}
use Rattle.dap_normalise.proofs.NormalTexts.{normal}
use Rattle.dap_normalise.proofs.NormalFormLaws.{equal_texts, same_texts}
use Rattle.dap_input.proofs.InputRefusals.{SameFacts}
use Rattle.dap_compare.proofs.SomeVerdict.{has_one_verdict}

numbers_equal_or_not : (m n : ℕ) → (m ≡ n) ⊎ (m ≡ n → ⊥)
numbers_equal_or_not m n = here (cases_lt m n) (cases_lt n m)
  where
    here : (m < n) ⊎ (n ≤ m) → (n < m) ⊎ (m ≤ n) → (m ≡ n) ⊎ (m ≡ n → ⊥)
    here (inl less) more = inr (λ e. omega (arith, less, e))
    here (inr le) (inl less) = inr (λ e. omega (arith, less, e))
    here (inr le) (inr ge) = inl (omega (arith, le, ge))

bytes_equal_or_not : (xs ys : List ℕ) → (xs ≡ ys) ⊎ (xs ≡ ys → ⊥)
bytes_equal_or_not [] [] = inl refl
bytes_equal_or_not [] (y ∷ ys) = inr (λ e. absurd cc)
bytes_equal_or_not (x ∷ xs) [] = inr (λ e. absurd cc)
bytes_equal_or_not (x ∷ xs) (y ∷ ys) = here (numbers_equal_or_not x y) (bytes_equal_or_not xs ys)
  where
    here : (x ≡ y) ⊎ (x ≡ y → ⊥) → (xs ≡ ys) ⊎ (xs ≡ ys → ⊥)
        → (x ∷ xs ≡ y ∷ ys) ⊎ (x ∷ xs ≡ y ∷ ys → ⊥)
    here (inl a) (inl b) = inl (cc (a, b))
    here (inr a) b = inr (λ e. a (let q : x ≡ y = cc in q))
    here (inl a) (inr b) = inr (λ e. b (let q : xs ≡ ys = cc in q))

-- Lists that are the same have equal length.
pub same_lengths : (mode : Mode) (ms ns : List Sent) → AreSame (stop_in mode) ms ns → length ms
    ≡ length ns
unfolding AreSame
same_lengths mode ms ns same =
    sym (length-map ms message_skeleton) ∙ ap (λ (t : List Sent). length t) same.2.0
    ∙ length-map ns message_skeleton

module _ (limits : Limits) (mode : Mode) (sound : AreSound limits) where
  abbrev as_normalised : (bytes : List ℕ) (ms : List Sent) → IsAccepted limits mode bytes ms
      → Normalises limits mode bytes (text (normal_of (stop_in mode) ms))
  as_normalised bytes ms accepted =
      record {
        messages = ms;
        accepts = accepted;
        normal = normal_of (stop_in mode) ms;
        is_normal = normal mode ms (messages_proper accepted.records ms accepted.typed);
        text_is =
            refl;
      }

  -- Accepted messages are the same or not, and the texts of their normal forms determine which.
  pub same_or_not : (bytes other : List ℕ) (ms ns : List Sent) → IsAccepted limits mode bytes ms
      → IsAccepted limits mode other ns → AreSame (stop_in mode) ms ns ⊎ (AreSame (stop_in mode) ms
      ns → ⊥)
  same_or_not bytes other ms ns p q = here (bytes_equal_or_not x y)
    where
      x : List ℕ
      x = text (normal_of (stop_in mode) ms)

      y : List ℕ
      y = text (normal_of (stop_in mode) ns)

      here : (x ≡ y) ⊎ (x ≡ y → ⊥) → AreSame (stop_in mode) ms ns ⊎ (AreSame (stop_in mode) ms ns
          → ⊥)
      here (inl e) =
          inl (equal_texts limits mode sound bytes other x y (as_normalised bytes ms p)
          (as_normalised other ns q) e)
      here (inr e) =
          inr (λ same. e
          (same_texts limits mode sound bytes other x y (as_normalised bytes ms p)
          (as_normalised other ns q) same))

  pub same_facts : SameFacts (accepting limits mode) (AreSame (stop_in mode))
  same_facts =
      record {
        none = same_as_itself (stop_in mode) [] tt;
        lengths = same_lengths mode;
        fronts = same_fronts (stop_in mode);
        reported = same_or_not;
      }

  one_accepted : (bytes : List ℕ) (ms ns : List Sent) → IsAccepted limits mode bytes ms
      → IsAccepted limits mode bytes ns → ms ≡ ns
  one_accepted =
      one_list (accepting limits mode) (readable limits.frame) (value_laws limits mode)
      (accepted_facts limits mode)

  pub same_told : (a b : Input) (of_a of_b : List Sent) → IsTaken (accepting limits mode) a of_a
      → IsTaken (accepting limits mode) b of_b → SameHasRenaming limits mode a b of_a of_b
  same_told a b of_a of_b taken_a taken_b = record {
    if_same = λ same. (
      record { of_a = of_a; of_b = of_b; taken_a = taken_a; taken_b = taken_b; same = same },
      refl,
    );
    only_if = λ how is.
        subst (λ ms. AreSame (stop_in mode) ms of_b)
        (one_accepted a.bytes is.0.of_a of_a is.0.taken_a.0 taken_a.0)
        (subst (AreSame (stop_in mode) is.0.of_a)
        (one_accepted b.bytes is.0.of_b of_b is.0.taken_b.0 taken_b.0) is.0.same);
  }

  pub same_carried : (a b : Input) (how : List (Class × ℤ × ℤ))
      → IsRecordingVerdict limits mode a b (are_same how) → IsCarried limits mode a b how
  same_carried a b how (inputs, is) =
      let proper = same_is_proper (stop_in mode) inputs.of_a inputs.of_b inputs.same in
      subst (IsCarried limits mode a b) (sym is) (record {
        of_a = inputs.of_a;
        of_b = inputs.of_b;
        taken_a = inputs.taken_a;
        taken_b = inputs.taken_b;
        is_renaming = equal_places_rename (stop_in mode) inputs.of_a inputs.of_b proper.0 proper.1;
        carries = equal_places_carry (stop_in mode) inputs.of_a inputs.of_b inputs.same;
      })

pub recordings_have_one_verdict : RecordingsHaveOneVerdict
recordings_have_one_verdict limits mode sound =
    has_one_verdict (accepting limits mode) (readable limits.frame) (value_facts limits mode)
    (accepted_facts limits mode) (AreSame (stop_in mode)) (same_facts limits mode sound)
    (equal_places (stop_in mode))

pub same_is_told_exactly : SameIffRenaming
same_is_told_exactly limits mode sound a b of_a of_b taken_a taken_b =
    same_told limits mode sound a b of_a of_b taken_a taken_b

pub same_is_carried : SameIsCarried
same_is_carried limits mode sound a b how is = same_carried limits mode sound a b how is

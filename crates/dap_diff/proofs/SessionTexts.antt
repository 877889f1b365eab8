-- The differences of two sessions, by the texts that are stored of them.
use Rattle.std.proofs.Common.{◌≡◌, ℕ, List, [], ◌++◌, length, min, take, drop, Option, Some, None}
use Rattle.std.proofs.Common.{sym, ◌∙◌, ap, subst, length-take, take-append-drop}
use Rattle.std.specs.Option.{option_map_or}
use Rattle.dap_message.specs.Message.{Sent}
use Rattle.dap_rename.specs.{Messages.AreSame, Modes.stop_in, declared.mode.Mode.Mode}
use Rattle.dap_rename.proofs.Sameness.{same_fronts}
use Rattle.dap_input.specs.{declared.limits.Limits.Limits, Limits.AreSound}
use Rattle.dap_normalise.specs.JudgingSteps.{record_of}
use Rattle.dap_compare.specs.Sessions.{AreAccepted, DifferFirstAt, IsNumbered, IsTextOfNumber}
use Rattle.dap_compare.proofs.{SessionComparing.front_accepted, Verdicts.same_lengths}
use Rattle.dap_diff.specs.Diffs.{diff_lines}
use Rattle.dap_diff.specs.Texts.{DescribesTexts, Holds, IsLeftText}
use Rattle.dap_diff.proofs.Texts.{one_holds, record_is}

module _ (limits : Limits) (mode : Mode) (sound : AreSound limits) where
  module _ (messages : List Sent) (accepted : AreAccepted limits mode messages) (number : ℕ)
      (text : List ℕ) where
    holds_numbered : (found : Option Sent) → IsNumbered mode messages number found
        → text ≡ option_map_or record_of found [] → Holds limits text found
    holds_numbered None past is = is
    holds_numbered (Some named) (normal, count, is_normal) is =
        let front = front_accepted limits mode messages number accepted in
        record_is limits mode sound text front.0 (take number messages) normal named front.1
        is_normal is

    pub text_left : IsTextOfNumber mode messages number text → IsLeftText limits text
    text_left (found, numbered, is) = (found, holds_numbered found numbered is)

  -- The lines are those for the messages with this number.
  pub describes : (of_a of_b : List Sent) → AreAccepted limits mode of_a
      → AreAccepted limits mode of_b → (number : ℕ) (text_a text_b lines : List ℕ)
      → IsTextOfNumber mode of_a number text_a → IsTextOfNumber mode of_b number text_b
      → DescribesTexts limits text_a text_b lines
      → (a : Option Sent) × (b : Option Sent) × IsNumbered mode of_a number a
      × IsNumbered mode of_b number b × (lines ≡ diff_lines a b)
  describes of_a of_b accepted_a accepted_b number text_a text_b lines (a, numbered_a, is_a)
      (b, numbered_b, is_b) tells =
      let one : a ≡ tells.of_a =
      one_holds limits sound text_a a tells.of_a
      (holds_numbered of_a accepted_a number text_a a numbered_a is_a) tells.holds_a in
      let other : b ≡ tells.of_b =
      one_holds limits sound text_b b tells.of_b
      (holds_numbered of_b accepted_b number text_b b numbered_b is_b) tells.holds_b in (
        a,
        b,
        numbered_a,
        numbered_b,
        subst (λ x. lines ≡ diff_lines x b) (sym one)
            (subst (λ y. lines ≡ diff_lines tells.of_a y) (sym other) tells.lines_are),
      )

-- Messages that differ up to some record are not the same.
pub not_the_same : (mode : Mode) (of_a of_b : List Sent) (number : ℕ)
    → DifferFirstAt mode of_a of_b number → AreSame (stop_in mode) of_a of_b → ⊥
not_the_same mode of_a of_b number first same =
    let lengths : length (take number of_a) ≡ length (take number of_b) =
    length-take number of_a ∙ ap (min number) (same_lengths mode of_a of_b same)
    ∙ sym (length-take number of_b) in
    first.differ
    (same_fronts (stop_in mode) (take number of_a) (drop number of_a) (take number of_b)
    (drop number of_b) lengths
    (subst (AreSame (stop_in mode) (take number of_a ++ drop number of_a))
    (sym (take-append-drop number of_b))
    (subst (λ ms. AreSame (stop_in mode) ms of_b) (sym (take-append-drop number of_a)) same)))

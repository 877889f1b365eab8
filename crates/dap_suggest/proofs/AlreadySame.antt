-- Recordings that the rules that were given make the same.
use Rattle.std.proofs.Common.{◌≡◌, ℕ, min, List, ◌++◌, length, take, drop, Ok, sym, ◌∙◌, ap}
use Rattle.std.proofs.Common.{subst, refl, true, Option, Some, None, IfSome}
use Rattle.std.specs.Prelude.{is_none}
use Rattle.std.proofs.lemmas.List.{length-map, length-take, take-append-drop}
use Rattle.dap_message.specs.Message.{Sent}
use Rattle.dap_mask.specs.{Mask.Mask, RulesFile.rules_said}
use Rattle.dap_rename.specs.{Messages.{AreSame, message_skeleton}, Modes.stop_in}
use Rattle.dap_rename.specs.declared.mode.Mode.{Mode, TheVariants.{Whole}}
use Rattle.dap_rename.proofs.Sameness.{same_fronts}
use Rattle.dap_input.specs.declared.limits.Limits.{Limits}
use Rattle.dap_input.specs.declared.refused.Refused.{Refused}
use Rattle.dap_compare.specs.Sessions.{DifferFirstAt}
use Rattle.dap_compare.specs.declared.verdict.Which.{Which, TheVariants.{A, B}}
use Rattle.dap_normalise.specs.Accepting.{IsAccepted}
use Rattle.dap_normalise.specs.declared.normal_session.NormalSession.{NormalSession}
use Rattle.dap_rules.specs.Modes.{mode_by}
use Rattle.dap_rules.specs.declared.fault.ApplyRefused.TheVariants as step
use Rattle.dap_rules.specs.Applying.{MakesSession, NormalisesByRules}
use Rattle.dap_rules.proofs.OneOutcome.{applied_has_no_error, one_text_by_rules}
use Rattle.dap_rules.proofs.OrderedTexts.{one_accepted}
use Rattle.dap_suggest.specs.NotSuggested.{HasNoSuggestion, IsNotMaskable}
use Rattle.dap_suggest.specs.Suggested.{AreAlreadySame, AreSameBy, HaveOneNormal, IsOneRejected}
use Rattle.dap_suggest.specs.declared.suggestion.Inputs.{Inputs}
use Rattle.dap_suggest.specs.declared.suggestion.SuggestRefused.{SuggestRefused}
use Rattle.dap_suggest.specs.declared.suggestion.SuggestRefused.TheVariants as because

-- ---- lists that are the same

same_lengths : (stop : Sent → ℕ) (ms ns : List Sent) → AreSame stop ms ns → length ms ≡ length ns
unfolding AreSame
same_lengths stop ms ns same =
    sym (length-map ms message_skeleton) ∙ ap length same.2.0 ∙ length-map ns message_skeleton

same_starts : (stop : Sent → ℕ) (n : ℕ) (ms ns : List Sent) → AreSame stop ms ns
    → AreSame stop (take n ms) (take n ns)
same_starts stop n ms ns same =
    let count : length (take n ms) ≡ length (take n ns) =
    length-take n ms ∙ ap (min n) (same_lengths stop ms ns same) ∙ sym (length-take n ns) in
    same_fronts stop (take n ms) (drop n ms) (take n ns) (drop n ns) count
    (subst (λ xs. AreSame stop xs (take n ns ++ drop n ns)) (sym (take-append-drop n ms))
    (subst (AreSame stop ms) (sym (take-append-drop n ns)) same))

-- ---- sessions with one normal text

module _ (limits : Limits) (mode : Mode) (mask : Mask) where
  -- The messages of a session are those of its normal text.
  normal_messages : (recording : List ℕ) (ms : List Sent) (text : NormalSession)
      → MakesSession limits mode mask recording ms
      → (is : NormalisesByRules limits mode mask recording text)
      → is.2.canonical.normalises.messages ≡ ms
  normal_messages recording ms text makes (written, applies, is) =
      one_accepted limits mode written is.canonical.normalises.messages ms
      is.canonical.normalises.accepts
      (subst (λ bytes. IsAccepted limits mode bytes ms)
      (one_text_by_rules limits mode mask recording makes.written written makes.applies applies)
      makes.accepted)

  same_messages : (a b : List ℕ) (ms ns : List Sent) → HaveOneNormal limits mode mask a b
      → MakesSession limits mode mask a ms → MakesSession limits mode mask b ns
      → AreSame (stop_in mode) ms ns
  same_messages a b ms ns have makes_a makes_b =
      let of_a = have.a_is.2.canonical in
      let of_b = have.b_is.2.canonical in
      let same : AreSame (stop_in mode) of_a.normalises.messages of_b.normalises.messages =
      (of_a.tells have.b_is.0 have.of_b.bytes.items of_b.normalises).0 have.one_text in
      subst (λ xs. AreSame (stop_in mode) xs ns) (normal_messages a ms have.of_a makes_a have.a_is)
      (subst (AreSame (stop_in mode) of_a.normalises.messages)
      (normal_messages b ns have.of_b makes_b have.b_is) same)

  none_differs : (a b : List ℕ) (ms ns : List Sent) (number : ℕ)
      → HaveOneNormal limits mode mask a b
      → MakesSession limits mode mask a ms → MakesSession limits mode mask b ns
      → DifferFirstAt mode ms ns number → ⊥
  none_differs a b ms ns number have makes_a makes_b first = first.differ
      (same_starts (stop_in mode) number ms ns (same_messages a b ms ns have makes_a makes_b))

  -- No record is the first that differs.
  pub none_first : (a b : List ℕ) (ms ns : List Sent) (first : Option ℕ)
      → HaveOneNormal limits mode mask a b
      → MakesSession limits mode mask a ms → MakesSession limits mode mask b ns
      → IfSome first (DifferFirstAt mode ms ns) → is_none first ≡ true
  none_first a b ms ns None have makes_a makes_b differ = refl
  none_first a b ms ns (Some number) have makes_a makes_b differ =
      absurd (none_differs a b ms ns number have makes_a makes_b differ)

-- ---- the rules that were given

module _ (inputs : Inputs) (mask : Mask) where
  none_rejected : (which : Which) (refused : Refused) → AreAlreadySame inputs mask
      → IsOneRejected inputs.limits mask inputs.a.now inputs.b.now (which, step.Mask refused) → ⊥
  none_rejected A refused have is =
      let wrong : step.Mask refused ≡ step.Memory = applied_has_no_error inputs.limits
      (mode_by mask Whole) mask inputs.a.now have.a_is.0 (step.Mask refused) have.a_is.1 is in
      absurd (cc)
  none_rejected B refused have is =
      let wrong : step.Mask refused ≡ step.Memory = applied_has_no_error inputs.limits
      (mode_by mask Whole) mask inputs.b.now have.b_is.0 (step.Mask refused) have.b_is.1 is.1 in
      absurd (cc)

  -- The rules mask both recordings, if they make these the same.
  pub not_rejected : (refused : SuggestRefused) → rules_said inputs.given.now ≡ Ok mask
      → IsNotMaskable refused → HasNoSuggestion inputs refused → AreAlreadySame inputs mask → ⊥
  not_rejected (because.Rules fault) said is rejected have = is
  not_rejected (because.Input which (step.Mask refused)) said is (other, read, rejected) have =
      let one : other ≡ mask = cc in
      none_rejected which refused have
      (subst (λ m. IsOneRejected inputs.limits m inputs.a.now inputs.b.now
      (which, step.Mask refused)) one rejected)
  not_rejected (because.Input which (step.Order refused)) said is rejected have = is
  not_rejected (because.Input which step.ReadFault) said is rejected have = is
  not_rejected (because.Input which step.Memory) said is rejected have = is
  not_rejected (because.NoRules obstacle) said is rejected have = is
  not_rejected because.Memory said is rejected have = is

  pub already_same : (mode : Mode) → rules_said inputs.given.now ≡ Ok mask
      → AreSameBy inputs.limits mode inputs.given.now inputs.a.now inputs.b.now
      → (mode ≡ mode_by mask Whole) × AreAlreadySame inputs mask
  already_same mode said same =
      let one : same.mask ≡ mask = cc in
      let is : mode ≡ mode_by mask Whole = same.mode_is ∙ ap (λ m. mode_by m Whole) one in (
        is,
        subst (λ m. HaveOneNormal inputs.limits (mode_by mask Whole) m inputs.a.now inputs.b.now)
            one (subst (λ m. HaveOneNormal inputs.limits m same.mask inputs.a.now inputs.b.now)
            is same.one),
      )

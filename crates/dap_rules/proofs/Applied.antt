-- The result of masking bytes in memory by rules, naming their ids, and putting them in order.
use Rattle.std.proofs.Common.{◌≡◌, inl, inr, ℕ, List, [], ◌∷◌, length, nat_eq, false, true}
use Rattle.std.proofs.Common.{◌∙◌, Err, arith, refl, sym, subst, true≢false}
use Rattle.dap_mask.specs.{Declarations.Declaration, KeptRules.mask_of, Mask.Mask}
use Rattle.dap_mask.specs.declared.mask_rules.MaskRules.{MaskRules}
use Rattle.dap_message.specs.{Message.Sent, SwapRules.{SwapRule, swaps_of}}
use Rattle.dap_message.specs.declared.swap_rule.SwapRule.{SwapRule as ReadSwapRule}
use Rattle.dap_rename.specs.declared.mode.Mode.{Mode}
use Rattle.dap_input.specs.{Limits.AreSound, declared.limits.Limits.Limits}
use Rattle.dap_input.specs.declared.refused.Refused.{Refused}
use Rattle.dap_input.specs.declared.refused.Refused.TheVariants.{Memory}
use Rattle.dap_normalise.specs.{Accepting.{IsAccepted, text}, Normalising.RefusesBytes}
use Rattle.dap_normalise.specs.declared.normal_session.NormalSession.{NormalSession}
use Rattle.dap_recording.specs.Recording.{recording_text}
use Rattle.dap_rules.specs.declared.masked_session.MaskedSession.{MaskedSession}
use Rattle.dap_order.specs.MessageOrder.{ordered}
use Rattle.dap_rules.specs.OrderingSteps.{Arranges, Measures}
use Rattle.dap_rules.specs.Ordering.{IsNotOrdered, NormalisesInOrder, Orders, RefusesToOrder}
use Rattle.dap_rules.specs.Applying.{IsMaskedByRules, IsNamedByRules, IsNotOrderedBy}
use Rattle.dap_rules.specs.Applying.{IsOrderedByRules, NamesBy, NormalisesBy, OrdersBy}
use Rattle.dap_rules.specs.Applying.{RefusesNormalBy, RefusesToMaskByRules}
use Rattle.dap_rules.specs.ApplyingSteps.{IsMaskedSessionByRules, IsRefusedInOrder}
use Rattle.dap_rules.specs.ApplyingSteps.{IsRejectedInOrder, MakesOrdered, MakesSessionBy}
use Rattle.dap_rules.specs.ApplyingSteps.{mask_refusal, order_refusal}
use Rattle.dap_rules.specs.declared.fault.ApplyRefused.{ApplyRefused, TheVariants.Order}
use Rattle.dap_rules.proofs.MaskedNames.{OfRecords, named_by_rules, of_own, own_records}
use Rattle.dap_rules.proofs.{OneOrderOutcome.outcome}
use Rattle.dap_rules.proofs.OrderAnswers.{arranged_text, not_written, recording_refused}

-- Some of the rules are for the order.
pub not_empty : (ss : List ReadSwapRule) → nat_eq (length ss) 0 ≡ false → swaps_of ss ≡ [] → ⊥
not_empty [] some none = true≢false some
not_empty (s ∷ ss) some none = absurd (let e = none in cc)

pub is_empty : (ss : List ReadSwapRule) → nat_eq (length ss) 0 ≡ true → swaps_of ss ≡ []
is_empty [] none = refl
is_empty (s ∷ ss) none = absurd (grind (arith, none))

pub some_are : (ss : List ReadSwapRule) (rules : List SwapRule) → swaps_of ss ≡ rules
    → nat_eq (length ss) 0 ≡ false → rules ≡ [] → ⊥
some_are ss rules same some none = not_empty ss some (same ∙ none)

module _ (limits : Limits) (mode : Mode) (recording : List ℕ) where
  -- Without rules the recording is unchanged.
  pub unchanged : (rules : List SwapRule) → rules ≡ []
      → OrdersBy limits mode rules recording recording
  unchanged [] none = refl
  unchanged (rule ∷ rules) none = absurd (let e = none in cc)

  pub orders : (rules : List SwapRule) → (rules ≡ [] → ⊥) → (written : List ℕ)
      → Orders limits mode rules recording written
      → OrdersBy limits mode rules recording written
  orders [] some written is = absurd (some refl)
  orders (rule ∷ rules) some written is = is

  ordered_by : (rules : List SwapRule) → (rules ≡ [] → ⊥) → (written : List ℕ)
      → OrdersBy limits mode rules recording written
      → Orders limits mode rules recording written
  ordered_by [] some written is = absurd (some refl)
  ordered_by (rule ∷ rules) some written is = is

  pub normalises : (rules : List SwapRule) → (rules ≡ [] → ⊥) → (session : NormalSession)
      → NormalisesInOrder limits mode rules recording session
      → NormalisesBy limits mode rules recording session
  normalises rules some session is = (is.0, orders rules some is.0 is.1, is.2)

  pub makes : (rules : List SwapRule) → (rules ≡ [] → ⊥) → (messages : List Sent)
      → Arranges limits mode rules recording messages
      → MakesSessionBy limits mode rules recording messages
  makes rules some messages is = (is.0, orders rules some is.0 is.1, is.2)

  -- The recording is rejected.
  pub not_accepted : (rules : List SwapRule) → (because : Refused)
      → RefusesBytes limits mode recording because
      → RefusesNormalBy limits mode rules recording because
  not_accepted [] because is = is
  not_accepted (rule ∷ rules) because is =
      recording_refused limits mode (rule ∷ rules) recording because is

  pub refuses_normal : (rules : List SwapRule) → (rules ≡ [] → ⊥) → (because : Refused)
      → RefusesToOrder limits mode rules recording because
      → RefusesNormalBy limits mode rules recording because
  refuses_normal [] some because is = absurd (some refl)
  refuses_normal (rule ∷ rules) some because is = is

  module _ (mask : Mask) where
    pub cannot_mask : (because : Refused) → RefusesToMaskByRules limits mask recording because
        → IsRefusedInOrder limits mode mask recording (mask_refusal because)
    cannot_mask Memory is = tt
    cannot_mask because is = is

    pub not_masked : (because : Refused) → RefusesToMaskByRules limits mask recording because
        → IsRejectedInOrder limits mode mask recording (mask_refusal because)
    not_masked Memory is = tt
    not_masked because is = is

    module _ (named : List ℕ) (named_by : IsNamedByRules limits mask recording named) where
      is_refused : (rules : List SwapRule) → (rules ≡ [] → ⊥) → (because : Refused)
          → IsNotOrdered limits mode rules named because
          → IsNotOrderedBy limits mode rules named because
      is_refused [] some because is = absurd (some refl)
      is_refused (rule ∷ rules) some because is = is

      pub cannot_order : (mask.swaps ≡ [] → ⊥) → (because : Refused)
          → RefusesToOrder limits mode mask.swaps named because
          → IsRefusedInOrder limits mode mask recording (order_refusal because)
      cannot_order some Memory is = tt
      cannot_order some because is = (named, named_by, is_refused mask.swaps some because is)

      -- Without rules for the order, the named recording is rejected; with them, it cannot be put
      -- in order.
      by_swaps : (swaps : List SwapRule) → mask.swaps ≡ swaps → (because : Refused)
          → RefusesNormalBy limits mode swaps named because
          → IsRejectedInOrder limits mode mask recording (order_refusal because)
      by_swaps swaps same Memory is = tt
      by_swaps [] none because is = inr (
        named,
        (
          named,
          named_by,
          subst (λ rules. OrdersBy limits mode rules named named) (sym none) refl,
        ),
        is,
      )
      by_swaps (rule ∷ rules) same because is = inl (
        named,
        named_by,
        subst (λ swaps. IsNotOrderedBy limits mode swaps named because) (sym same) is,
      )

      pub not_normalised : (because : Refused)
          → RefusesNormalBy limits mode mask.swaps named because
          → IsRejectedInOrder limits mode mask recording (order_refusal because)
      not_normalised = by_swaps mask.swaps refl

-- Without declarations the masked recording is unchanged. Without rules for the order it stays so.
pub text_unordered : (limits : Limits) (mode : Mode) (mask : Mask) → mask.declared ≡ []
    → mask.swaps ≡ [] → (recording masked : List ℕ)
    → IsMaskedByRules limits mask recording masked
    → IsOrderedByRules limits mode mask recording masked
text_unordered limits mode mask none unordered recording masked masks = (
  masked,
  (
    masked,
    masks,
    subst (λ (xs : List Declaration). NamesBy limits xs masked masked) (sym none) refl,
  ),
  unchanged limits mode masked mask.swaps unordered,
)

-- A masked session, and the rules for the order.
module _ (limits : Limits) (sound : AreSound limits) (mode : Mode) (rules : MaskRules)
    (recording : List ℕ) (session : MaskedSession)
    (is : IsMaskedSessionByRules limits (mask_of rules) recording session) (swaps : List SwapRule)
    (same : swaps ≡ (mask_of rules).swaps) where
  -- The masked recording, with names.
  abbrev named_recording : List ℕ
  named_recording = recording_text (own_records limits sound rules recording session is)

  by_rules : IsNamedByRules limits (mask_of rules) recording named_recording
  by_rules = named_by_rules limits sound rules recording session is

  pub session_applied : (fact : List ℕ → Type 0)
      → OfRecords limits session (λ named. (written : List ℕ)
      × OrdersBy limits mode swaps named written × fact written)
      → MakesOrdered limits mode (mask_of rules) recording fact
  session_applied fact made =
      let result = of_own limits sound rules recording session is (λ named. (written : List ℕ)
      × OrdersBy limits mode swaps named written × fact written) made in (
        result.0,
        (
          named_recording,
          by_rules,
          subst (λ (all : List SwapRule). OrdersBy limits mode all named_recording result.0) same
              result.1,
        ),
        result.2,
      )

  pub session_refused : (because : Refused)
      → OfRecords limits session (λ named. RefusesNormalBy limits mode swaps named because)
      → IsRejectedInOrder limits mode (mask_of rules) recording (order_refusal because)
  session_refused because refuses =
      not_normalised limits mode recording (mask_of rules) named_recording by_rules because
      (subst (λ (all : List SwapRule). RefusesNormalBy limits mode all named_recording because) same
      (of_own limits sound rules recording session is
      (λ named. RefusesNormalBy limits mode swaps named because) refuses))

-- The rules have some for the order.
module _ (limits : Limits) (mode : Mode) (mask : Mask) (some : mask.swaps ≡ [] → ⊥)
    (recording : List ℕ) where
  -- The text in order is accepted.
  pub not_made : (because : ApplyRefused) → IsRejectedInOrder limits mode mask recording because
      → IsRefusedInOrder limits mode mask recording because
  not_made (Order refused) (inl is) = is
  not_made (Order refused) (inr (written, (named, named_by, made), is)) =
      let in_order = ordered_by limits mode named mask.swaps some written made in
      absurd ((outcome limits mode).not_both written (ordered mask.swaps in_order.messages) refused
      in_order.accepted is)
  not_made because is = is

  module _ (messages : List Sent) (made : MakesOrdered limits mode mask recording
      (λ written. IsAccepted limits mode written messages)) where
    abbrev named_text : List ℕ
    named_text = made.1.0

    arranges : Arranges limits mode mask.swaps named_text messages
    arranges = (
      made.0,
      ordered_by limits mode named_text mask.swaps some made.0 made.1.2,
      made.2,
    )

    pub text_applied : (written : List ℕ) → written ≡ text messages
        → IsOrderedByRules limits mode mask recording written
    text_applied written same = (
      named_text,
      made.1.1,
      orders limits mode named_text mask.swaps some written
          (arranged_text limits mode mask.swaps named_text messages arranges written same),
    )

    pub text_refused : (because : Refused) → Measures limits messages (Err because)
        → IsRefusedInOrder limits mode mask recording (order_refusal because)
    text_refused because long =
        cannot_order limits mode recording mask named_text made.1.1 some because
        (not_written limits mode mask.swaps named_text messages arranges because long)

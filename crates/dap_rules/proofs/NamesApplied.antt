-- The result of applying rules to bytes in memory, with names in the place of declared ids, before
-- and after the messages are put in order.
use Rattle.std.proofs.Common.{◌≡◌, inl, inr, ℕ, List, [], ◌∷◌, true}
use Rattle.std.proofs.Common.{refl, sym, subst}
use Rattle.dap_mask.specs.Declarations.{Declaration, are_declared}
use Rattle.dap_mask.specs.Mask.{Mask}
use Rattle.dap_message.specs.Message.{Sent}
use Rattle.dap_rename.specs.declared.mode.Mode.{Mode}
use Rattle.dap_input.specs.{Limits.AreSound, declared.limits.Limits.Limits}
use Rattle.dap_input.specs.declared.refused.Refused.{Refused}
use Rattle.dap_input.specs.declared.refused.Refused.TheVariants.{Memory}
use Rattle.dap_normalise.specs.Accepting.{IsAccepted}
use Rattle.dap_normalise.specs.NormalSession.{IsNormalSession}
use Rattle.dap_normalise.specs.Normalising.{RefusesBytes}
use Rattle.dap_normalise.specs.declared.normal_session.NormalSession.{NormalSession}
use Rattle.dap_rules.specs.Applying.{AppliesRules, IsMaskedByRules, IsNamedByRules, IsNotNamedBy}
use Rattle.dap_rules.specs.Applying.{IsNotNormalised, IsOrderedByRules}
use Rattle.dap_rules.specs.Applying.{IsRefusedByRules, MakesSession, NamesBy, NormalisesByRules}
use Rattle.dap_rules.specs.Applying.{RefusesToMaskByRules, RefusesToName}
use Rattle.dap_rules.specs.ApplyingSteps.{IsRefusedInOrder, IsRejectedInOrder, MakesOrdered}
use Rattle.dap_rules.specs.ApplyingSteps.{mask_refusal, order_refusal}
use Rattle.dap_rules.specs.NamedRecordings.{IsNamedTo}
use Rattle.dap_rules.specs.Ordering.{Orders, RefusesToOrder}
use Rattle.dap_rules.specs.declared.fault.ApplyRefused.{ApplyRefused}
use Rattle.dap_rules.specs.declared.fault.ApplyRefused.TheVariants as because
use Rattle.dap_rules.proofs.Applied.{cannot_order, orders, unchanged}
use Rattle.dap_rules.proofs.NamedForms.{named_to}

module _ (limits : Limits) where
  unnamed : (declared : List Declaration) → declared ≡ [] → (bytes : List ℕ)
      → NamesBy limits declared bytes bytes
  unnamed [] none bytes = refl
  unnamed (d ∷ declared) none bytes = absurd (let e = none in cc)

  named : (declared : List Declaration) → (declared ≡ [] → ⊥) → (bytes written : List ℕ)
      → IsNamedTo limits declared bytes written → NamesBy limits declared bytes written
  named [] some bytes written is = absurd (some refl)
  named (d ∷ declared) some bytes written is = is

  not_named : (declared : List Declaration) → (declared ≡ [] → ⊥) → (bytes : List ℕ)
      (refused : Refused) → RefusesToName limits declared bytes refused
      → (refused ≡ Memory → ⊥) → IsNotNamedBy limits declared bytes refused
  not_named [] some bytes refused is other = absurd (some refl)
  not_named (d ∷ declared) some bytes Memory is other = absurd (other refl)
  not_named (d ∷ declared) some bytes refused is other = is

module _ (limits : Limits) (mode : Mode) (mask : Mask) (recording : List ℕ) where
  applies : (ordered : List ℕ) → IsOrderedByRules limits mode mask recording ordered
      → (written : List ℕ) → NamesBy limits mask.declared ordered written
      → AppliesRules limits mode mask recording written
  applies ordered (named, (masked, (joined, numbers, joins, masks), names), orders) written
      renames = record {
        joined = joined;
        numbers = numbers;
        joins = joins;
        masked = masked;
        masks = masks;
        named = named;
        names = names;
        ordered = ordered;
        orders = orders;
        renames = renames;
      }

  pub refused_in_order : (because : ApplyRefused)
      → IsRefusedInOrder limits mode mask recording because
      → IsRefusedByRules limits mode mask recording because
  refused_in_order (because.Order refused) is = inr (inl is)
  refused_in_order because is = is

  pub refuses_mask : (refused : Refused) → RefusesToMaskByRules limits mask recording refused
      → IsRefusedByRules limits mode mask recording (mask_refusal refused)
  refuses_mask Memory is = tt
  refuses_mask refused is = is

  pub not_normalised : (because : ApplyRefused)
      → IsRefusedByRules limits mode mask recording because
      → IsNotNormalised limits mode mask recording because
  not_normalised (because.Order refused) is = inl is
  not_normalised because is = is

  -- The text with names is rejected.
  pub text_rejected : (written : List ℕ) → AppliesRules limits mode mask recording written
      → (refused : Refused) → RefusesBytes limits mode written refused
      → IsNotNormalised limits mode mask recording (order_refusal refused)
  text_rejected written made Memory is = tt
  text_rejected written made refused is = inr (written, made, is)

  -- ---- no declarations

  module _ (none : mask.declared ≡ []) where
    pub applies_unnamed : (ordered : List ℕ) → IsOrderedByRules limits mode mask recording ordered
        → AppliesRules limits mode mask recording ordered
    applies_unnamed ordered is =
        applies ordered is ordered (unnamed limits mask.declared none ordered)

    pub rejected_in_order : (because : ApplyRefused)
        → IsRejectedInOrder limits mode mask recording because
        → IsNotNormalised limits mode mask recording because
    rejected_in_order (because.Order refused) (inl is) = inl (inr (inl is))
    rejected_in_order (because.Order refused) (inr (ordered, made, is)) =
        inr (ordered, applies_unnamed ordered made, is)
    rejected_in_order because is = is

    pub makes_unnamed : (messages : List Sent)
        → MakesOrdered limits mode mask recording (λ text. IsAccepted limits mode text messages)
        → MakesSession limits mode mask recording messages
    makes_unnamed messages (ordered, made, accepted) = record {
      written = ordered;
      applies = applies_unnamed ordered made;
      accepted = accepted;
    }

    pub normalises_unnamed : (session : NormalSession)
        → MakesOrdered limits mode mask recording (λ text. IsNormalSession limits mode text session)
        → NormalisesByRules limits mode mask recording session
    normalises_unnamed session (ordered, made, is) = (ordered, applies_unnamed ordered made, is)

  -- ---- some declarations

  module _ (some : mask.declared ≡ [] → ⊥) where
    module _ (ordered : List ℕ) (made : IsOrderedByRules limits mode mask recording ordered) where
      pub applies_named : (written : List ℕ) → IsNamedTo limits mask.declared ordered written
          → AppliesRules limits mode mask recording written
      applies_named written is =
          applies ordered made written (named limits mask.declared some ordered written is)

      pub refuses_names : (refused : Refused) → RefusesToName limits mask.declared ordered refused
          → IsRefusedByRules limits mode mask recording (order_refusal refused)
      refuses_names Memory is = tt
      refuses_names refused is =
          inr (inr (
            ordered,
            made,
            not_named limits mask.declared some ordered refused is (λ e. cc),
          ))

    module _ (masked : List ℕ) (masks : IsMaskedByRules limits mask recording masked) where
      pub refuses_masked : (refused : Refused) → RefusesToName limits mask.declared masked refused
          → IsRefusedByRules limits mode mask recording (order_refusal refused)
      refuses_masked Memory is = tt
      refuses_masked refused is =
          inl (
            masked,
            masks,
            not_named limits mask.declared some masked refused is (λ e. cc),
          )

      module _ (text : List ℕ) (names : IsNamedTo limits mask.declared masked text) where
        is_named : IsNamedByRules limits mask recording text
        is_named = (masked, masks, named limits mask.declared some masked text names)

        -- Without rules for the order, the named text is named to itself.
        pub applies_unordered : AreSound limits → are_declared mask.declared ≡ true
            → mask.swaps ≡ [] → AppliesRules limits mode mask recording text
        applies_unordered sound are none =
            let again = names.again in
            applies_named text (text, is_named, unchanged limits mode text mask.swaps none) text
            (subst (IsNamedTo limits mask.declared text) (sym again.text_is)
            (named_to limits sound mask.declared are text again.messages again.accepts))

        module _ (swaps : mask.swaps ≡ [] → ⊥) where
          pub is_ordered : (ordered : List ℕ) → Orders limits mode mask.swaps text ordered
              → IsOrderedByRules limits mode mask recording ordered
          is_ordered ordered is =
              (text, is_named, orders limits mode text mask.swaps swaps ordered is)

          pub refuses_order : (refused : Refused)
              → RefusesToOrder limits mode mask.swaps text refused
              → IsRefusedByRules limits mode mask recording (order_refusal refused)
          refuses_order refused is =
              refused_in_order (order_refusal refused)
              (cannot_order limits mode recording mask text is_named swaps refused is)

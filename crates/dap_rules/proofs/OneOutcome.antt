-- Rules turn a recording into at most one text. If they do, it is not rejected.
use Rattle.std.proofs.Common.{◌≡◌, inl, inr, ℕ, List, [], ◌∷◌, refl, sym, ◌∙◌, subst}
use Rattle.dap_recording.proofs.Records.{readable}
use Rattle.dap_input.specs.declared.limits.Limits.{Limits}
use Rattle.dap_input.specs.declared.refused.Refused.{Refused}
use Rattle.dap_input.proofs.ItemReaders.{shown_cause}
use Rattle.dap_input.proofs.OneOutcome.{has_one_outcome}
use Rattle.dap_mask.specs.{Declarations.Declaration, Mask.Mask}
use Rattle.dap_rename.specs.declared.mode.Mode.{Mode}
use Rattle.dap_rules.specs.Applying.{AppliesRules, IsMaskedByRules, IsNamedByRules, IsNotNamedBy}
use Rattle.dap_rules.specs.Applying.{IsNotOrderedBy, IsOrderedByRules, NamesBy, OrdersBy}
use Rattle.dap_rules.specs.Laws.{AppliedHasNoError, OneTextByRules}
use Rattle.dap_rules.specs.{MaskedRecordings.IsMaskedTo, Naming.naming}
use Rattle.dap_rules.specs.declared.fault.ApplyRefused.TheVariants as because
use Rattle.dap_rules.proofs.JoinOutcomes.{masked_by_not_refused, names_of, one_joined_by}
use Rattle.dap_rules.proofs.MaskOutcomes.{one_masked, one_order, ordered_not_refused}
use Rattle.dap_rules.proofs.NamingFacts.{accepted_facts, one_named_text, value_facts}

module _ (limits : Limits) where
  one_names : (declared : List Declaration) (recording written other : List ℕ)
      → NamesBy limits declared recording written → NamesBy limits declared recording other
      → written ≡ other
  one_names [] recording written other one two = one ∙ sym two
  one_names (d ∷ declared) recording written other one two =
      one_named_text limits (d ∷ declared) recording written other one.names two.names

  named_not_refused : (declared : List Declaration) (recording written : List ℕ)
      (refused : Refused) → NamesBy limits declared recording written
      → IsNotNamedBy limits declared recording refused → ⊥
  named_not_refused [] recording written refused one is = is
  named_not_refused (d ∷ declared) recording written refused one is =
      (has_one_outcome (naming limits (d ∷ declared)) (shown_cause limits.frame)
      (readable limits.frame) (value_facts limits (d ∷ declared))
      (accepted_facts limits (d ∷ declared))).not_both recording one.names.messages refused
      one.names.accepts is

  module _ (mode : Mode) (mask : Mask) (recording written : List ℕ)
      (a : AppliesRules limits mode mask recording written) where
    -- The rules mask a recording to one text, name its ids in one way, and put it in one order.
    pub one_masked_by : (masked : List ℕ) → IsMaskedByRules limits mask recording masked
        → masked ≡ a.masked
    one_masked_by masked (joined, numbers, joins, masks) =
        one_masked limits mask a.joined masked a.masked
        (subst (λ bytes. IsMaskedTo limits mask bytes masked)
        (one_joined_by limits mask.joining recording joined numbers a.joined a.numbers joins
        a.joins) masks) a.masks

    pub one_named_by : (named : List ℕ) → IsNamedByRules limits mask recording named
        → named ≡ a.named
    one_named_by named (masked, masks, names) =
        one_names mask.declared a.masked named a.named
        (subst (λ bytes. NamesBy limits mask.declared bytes named) (one_masked_by masked masks)
        names) a.names

    pub one_ordered_by : (ordered : List ℕ) → IsOrderedByRules limits mode mask recording ordered
        → ordered ≡ a.ordered
    one_ordered_by ordered (named, names, orders) =
        one_order limits mode mask.swaps a.named ordered a.ordered
        (subst (λ bytes. OrdersBy limits mode mask.swaps bytes ordered) (one_named_by named names)
        orders) a.orders

pub one_text_by_rules : OneTextByRules
one_text_by_rules limits mode mask recording written other a b =
    one_names limits mask.declared a.ordered written other a.renames
    (subst (λ ordered. NamesBy limits mask.declared ordered other)
    (one_ordered_by limits mode mask recording written a b.ordered
    (b.named, names_of limits mode mask recording other b, b.orders)) b.renames)

pub applied_has_no_error : AppliedHasNoError
applied_has_no_error limits mode mask recording written (because.Mask refused) a is =
    absurd (masked_by_not_refused limits mask recording a.joined a.numbers a.joins a.masked refused
    a.masks is)
applied_has_no_error limits mode mask recording written (because.Order refused) a
    (inl (masked, masks, is)) =
    absurd (named_not_refused limits mask.declared a.masked a.named refused a.names
    (subst (λ bytes. IsNotNamedBy limits mask.declared bytes refused)
    (one_masked_by limits mode mask recording written a masked masks) is))
applied_has_no_error limits mode mask recording written (because.Order refused) a
    (inr (inl (named, names, is))) =
    absurd (ordered_not_refused limits mode mask.swaps a.named a.ordered refused a.orders
    (subst (λ bytes. IsNotOrderedBy limits mode mask.swaps bytes refused)
    (one_named_by limits mode mask recording written a named names) is))
applied_has_no_error limits mode mask recording written (because.Order refused) a
    (inr (inr (ordered, made, is))) =
    absurd (named_not_refused limits mask.declared a.ordered written refused a.renames
    (subst (λ bytes. IsNotNamedBy limits mask.declared bytes refused)
    (one_ordered_by limits mode mask recording written a ordered made) is))
applied_has_no_error limits mode mask recording written because.ReadFault a is = absurd is
applied_has_no_error limits mode mask recording written because.Memory a is = refl

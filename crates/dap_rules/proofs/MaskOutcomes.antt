-- A recording is masked to one text and put in order in one way, and then it is not rejected.
use Rattle.std.proofs.Common.{◌≡◌, ℕ, List, [], ◌∷◌, sym, ◌∙◌, ap}
use Rattle.dap_recording.proofs.Records.{readable}
use Rattle.dap_mask.specs.Mask.{Mask}
use Rattle.dap_message.specs.SwapRules.{SwapRule}
use Rattle.dap_rename.specs.declared.mode.Mode.{Mode}
use Rattle.dap_input.specs.declared.limits.Limits.{Limits}
use Rattle.dap_input.specs.declared.refused.Refused.{Refused}
use Rattle.dap_input.specs.Refusals.{IsRefused}
use Rattle.dap_input.proofs.ItemReaders.{shown_cause}
use Rattle.dap_input.proofs.OneOutcome.{has_one_outcome}
use Rattle.dap_input.proofs.Outcomes.{one_list}
use Rattle.dap_rules.specs.MaskedRecordings.{IsMaskedTo}
use Rattle.dap_rules.specs.Masking.{masked_text, masking}
use Rattle.dap_rules.proofs.MaskingFacts.{accepted_facts, value_facts, value_laws}
use Rattle.dap_rules.proofs.OneOrderOutcome.{ordered_has_no_error}
use Rattle.dap_rules.proofs.OrderedTexts.{one_ordered_text}
use Rattle.dap_rules.specs.Applying.{IsNotOrderedBy, OrdersBy}

module _ (limits : Limits) where
  pub one_masked : (mask : Mask) (recording masked other : List ℕ)
      → IsMaskedTo limits mask recording masked → IsMaskedTo limits mask recording other
      → masked ≡ other
  one_masked mask recording masked other one two =
      one.masks.text_is ∙ ap (masked_text mask)
      (one_list (masking limits mask) (readable limits.frame) (value_laws limits mask)
      (accepted_facts limits mask) recording one.masks.messages two.masks.messages
      one.masks.accepts two.masks.accepts)
      ∙ sym two.masks.text_is

  pub masked_not_refused : (mask : Mask) (recording masked : List ℕ) (refused : Refused)
      → IsMaskedTo limits mask recording masked
      → IsRefused (masking limits mask) recording refused → ⊥
  masked_not_refused mask recording masked refused is =
      (has_one_outcome (masking limits mask) (shown_cause limits.frame) (readable limits.frame)
      (value_facts limits mask) (accepted_facts limits mask)).not_both recording
      is.masks.messages refused is.masks.accepts

  module _ (mode : Mode) where
    pub one_order : (rules : List SwapRule) (recording written other : List ℕ)
        → OrdersBy limits mode rules recording written
        → OrdersBy limits mode rules recording other → written ≡ other
    one_order [] recording written other one two = one ∙ sym two
    one_order (rule ∷ rules) recording written other one two =
        one_ordered_text limits mode (rule ∷ rules) recording written other one two

    pub ordered_not_refused : (rules : List SwapRule) (recording written : List ℕ)
        (refused : Refused) → OrdersBy limits mode rules recording written
        → IsNotOrderedBy limits mode rules recording refused → ⊥
    ordered_not_refused [] recording written refused one is = is
    ordered_not_refused (rule ∷ rules) recording written refused one is =
        ordered_has_no_error limits mode (rule ∷ rules) recording written refused one is

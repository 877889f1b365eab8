-- The recording without bytes is joined, masked, named and accepted, and its text is empty.
use Rattle.std.proofs.Common.{◌≡◌, ℕ, true, List, [], ◌∷◌, length, nat_eq, refl, sym, ap, subst}
use Rattle.std.proofs.Common.{arith}
use Rattle.std.specs.Prelude.{Option, Some, None}
use Rattle.dap_mask.specs.declared.joining.Joining.{Joining}
use Rattle.dap_mask.specs.KeptRules.{mask_of}
use Rattle.dap_mask.specs.declared.mask_rules.MaskRules.{MaskRules}
use Rattle.dap_message.specs.SwapRules.{SwapRule}
use Rattle.dap_rename.specs.declared.mode.Mode.{Mode}
use Rattle.dap_words.proofs.WordsUtf8.{strings_utf8}
use Rattle.dap_mask.proofs.FilledDocs.{fills_utf8}
use Rattle.dap_input.specs.Limits.{AreSound}
use Rattle.dap_input.specs.declared.limits.Limits.{Limits}
use Rattle.dap_input.proofs.Runs.{run_none}
use Rattle.dap_normalise.specs.Accepting.{Fits, IsAccepted, accepting, text}
use Rattle.dap_normalise.proofs.AcceptingFacts as normalised
use Rattle.dap_order.specs.MessageOrder.{ordered}
use Rattle.dap_mask.specs.Declarations.{Declaration, are_declared}
use Rattle.dap_rules.specs.Applying.{AppliesRules, JoinsBy, NamesBy, OrdersBy}
use Rattle.dap_rules.specs.{NamedRecordings.IsNamedTo, Naming.naming}
use Rattle.dap_rules.proofs.NamedForms.{named_to}
use Rattle.dap_rules.proofs.NamingFacts as named
use Rattle.dap_rules.specs.MaskedRecordings.{IsMaskedTo}
use Rattle.dap_rules.specs.Masking.{masking}
use Rattle.dap_rules.specs.Ordering.{Orders}
use Rattle.dap_rules.proofs.MaskedTexts.{masked_to}
use Rattle.dap_rules.proofs.MaskingFacts as masked
use Rattle.dap_rules.proofs.MaskOutcomes.{one_masked}

pub no_bytes : (bytes : List ℕ) → nat_eq (length bytes) 0 ≡ true → bytes ≡ []
no_bytes [] empty = refl
no_bytes (b ∷ bytes) empty = absurd (grind (arith, empty))

none_in_order : (rules : List SwapRule) → ordered rules [] ≡ []
unfolding ordered
none_in_order rules = refl

none_joined : (limits : Limits) (joining : Option Joining) → JoinsBy limits joining [] [] []
none_joined limits None = (refl, refl)
none_joined limits (Some joining) = record {
  items = [];
  split = record { short = omega arith; records = []; recording = refl; are_items = tt };
  text_is = refl;
  numbers_are = refl;
  fits = record { each = tt; whole = omega arith };
}

module _ (limits : Limits) (sound : AreSound limits) where
  pub none_masked : (rules : MaskRules) → IsMaskedTo limits (mask_of rules) [] []
  none_masked rules =
      let mask = mask_of rules in
      masked_to limits sound mask rules.list.safe rules.list.settled rules.list.kept
      rules.list.full (strings_utf8 rules.list.words.list.items) (fills_utf8 rules.list.fills.items)
      rules.list.leave [] []
      ((masked.accepted_facts limits mask).accepted_of_run [] []
      (run_none (masking limits mask) [] 0))

  pub none_named : (declared : List Declaration) → are_declared declared ≡ true
      → IsNamedTo limits declared [] []
  none_named declared are =
      named_to limits sound declared are [] []
      ((named.accepted_facts limits declared).accepted_of_run [] []
      (run_none (naming limits declared) [] 0))

  pub masked_is_empty : (rules : MaskRules) (recording written : List ℕ) → recording ≡ []
      → IsMaskedTo limits (mask_of rules) recording written → written ≡ []
  masked_is_empty rules recording written none is =
      one_masked limits (mask_of rules) [] written []
      (subst (λ bytes. IsMaskedTo limits (mask_of rules) bytes written) none is)
      (none_masked rules)

  none_named_by : (declared : List Declaration) → are_declared declared ≡ true
      → NamesBy limits declared [] []
  none_named_by [] are = refl
  none_named_by (d ∷ declared) are = none_named (d ∷ declared) are

  module _ (mode : Mode) where
    none_accepted : IsAccepted limits mode [] []
    none_accepted =
        (normalised.accepted_facts limits mode).accepted_of_run [] []
        (run_none (accepting limits mode) [] 0)

    pub none_ordered : (rules : List SwapRule) → Orders limits mode rules [] []
    none_ordered rules =
        let same = sym (none_in_order rules) in
        record {
          messages = [];
          accepts = none_accepted;
          text_is = ap text same;
          fits = subst (Fits limits) same (record { each = tt; whole = omega arith });
          accepted = subst (IsAccepted limits mode []) same none_accepted;
        }

    none_in_order_by : (rules : List SwapRule) → OrdersBy limits mode rules [] []
    none_in_order_by [] = refl
    none_in_order_by (rule ∷ rules) = none_ordered (rule ∷ rules)

    pub none_applied : (rules : MaskRules) → AppliesRules limits mode (mask_of rules) [] []
    none_applied rules = record {
      joined = [];
      numbers = [];
      joins = none_joined limits (mask_of rules).joining;
      masked = [];
      masks = none_masked rules;
      named = [];
      names = none_named_by (mask_of rules).declared rules.list.labelled;
      ordered = [];
      orders = none_in_order_by (mask_of rules).swaps;
      renames = none_named_by (mask_of rules).declared rules.list.labelled;
    }

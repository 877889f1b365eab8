-- The facts about each pass over the records of a recording, as one.
use Rattle.std.proofs.Common.{◌≡◌, List, [], ◌∷◌, ◌++◌, refl, arith}
use Rattle.std.specs.Prelude.{ℕ}
use Rattle.dap_message.specs.Message.{Sent}
use Rattle.dap_mask.specs.KeptRules.{mask_of}
use Rattle.dap_mask.specs.Mask.{Mask}
use Rattle.dap_mask.specs.declared.mask_rules.MaskRules.{MaskRules}
use Rattle.dap_words.proofs.WordsUtf8.{strings_utf8}
use Rattle.dap_mask.proofs.FilledDocs.{fills_utf8}
use Rattle.dap_naming.specs.Known.{Knows, limit_of}
use Rattle.dap_naming.specs.declared.value_numbers.ValueNumbers.{ValueNumbers}
use Rattle.dap_input.specs.{ItemReading.record_items, Limits.AreSound}
use Rattle.dap_input.specs.declared.limits.Limits.{Limits}
use Rattle.dap_input.proofs.InputLoop.{ReadsAs}
use Rattle.dap_input.proofs.Runs.{AcceptedFacts, ValueLaws}
use Rattle.dap_normalise.specs.Accepting.{Fits, Payload}
use Rattle.dap_normalise.specs.JudgingSteps.{payload_of}
use Rattle.dap_rules.specs.Rewriting.{Gives, IsAccepted, IsNext, Promises, rewriting}
use Rattle.dap_rules.specs.Rewriting.{rewritten, rewritten_text}
use Rattle.dap_rules.specs.RewritingSteps.{HasNumbered}
use Rattle.dap_rules.specs.declared.passes.Pass.{Pass}
use Rattle.dap_rules.specs.declared.passes.Pass.TheVariants as pass
use Rattle.dap_rules.proofs.FewValues.{none_few}
use Rattle.dap_rules.proofs.{MaskedTexts.masked_to, NamedForms.named_to}
use Rattle.dap_rules.proofs.MaskingFacts as masked
use Rattle.dap_rules.proofs.NamingFacts as named

module _ (limits : Limits) (mask : Mask) where
  pub value_laws : (kind : Pass) → ValueLaws (rewriting kind limits mask)
  value_laws pass.Mask = masked.value_laws limits mask
  value_laws pass.Name = named.value_laws limits mask.declared

  pub accepted_facts : (kind : Pass) → AcceptedFacts (rewriting kind limits mask)
  accepted_facts pass.Mask = masked.accepted_facts limits mask
  accepted_facts pass.Name = named.accepted_facts limits mask.declared

  pub reads_records : (kind : Pass)
      → ReadsAs (rewriting kind limits mask) (record_items limits.frame) payload_of
  reads_records pass.Mask = masked.reads_records limits mask
  reads_records pass.Name = named.reads_records limits mask.declared

  -- The text of an accepted recording.
  pub gives : (kind : Pass) (bytes : List ℕ) (messages : List Sent)
      → IsAccepted kind limits mask bytes messages
      → Gives kind limits mask bytes (rewritten_text kind mask messages)
  gives pass.Mask bytes messages accepted =
      record { messages = messages; accepts = accepted; text_is = refl }
  gives pass.Name bytes messages accepted =
      record { messages = messages; accepts = accepted; text_is = refl }

  -- The text with one more message is within the limits.
  pub fits_next : (kind : Pass) (before : List Sent) (held : Payload) (message : Sent)
      → IsNext kind limits mask before held message
      → Fits limits (rewritten kind mask (before ++ message ∷ []))
  fits_next pass.Mask before held message next = next.fits
  fits_next pass.Name before held message next = next.fits

  -- ---- no messages

  pub none_left : (kind : Pass) → rewritten kind mask [] ≡ []
  none_left pass.Mask = refl
  none_left pass.Name = refl

  pub fits_none : Fits limits []
  fits_none = record { each = tt; whole = omega arith }

  pub none_numbered : (kind : Pass) (numbers : ValueNumbers) → Knows numbers []
      → limit_of numbers ≡ limits.ids → HasNumbered kind limits mask [] numbers
  none_numbered pass.Mask numbers knows limit = tt
  none_numbered pass.Name numbers knows limit =
      record { knows = knows; few = none_few limits.ids; limit = limit }

-- Everything that is promised about the text of an accepted recording.
pub promised : (kind : Pass) (limits : Limits) → AreSound limits → (rules : MaskRules)
    (bytes : List ℕ) (messages : List Sent) → IsAccepted kind limits (mask_of rules) bytes messages
    → Promises kind limits (mask_of rules) bytes (rewritten_text kind (mask_of rules) messages)
promised pass.Mask limits sound rules =
    masked_to limits sound (mask_of rules) rules.list.safe rules.list.settled rules.list.kept
    rules.list.full (strings_utf8 rules.list.words.list.items) (fills_utf8 rules.list.fills.items)
    rules.list.leave
promised pass.Name limits sound rules =
    named_to limits sound (mask_of rules).declared rules.list.labelled

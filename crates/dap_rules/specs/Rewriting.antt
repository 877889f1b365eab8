-- The passes over the records of a recording, `mask` and `name`: what each one accepts and writes.
-- Source: own.
use Rattle.std.specs.Prelude.{ℕ, List}
use Rattle.dap_message.specs.Message.{Sent}
use Rattle.dap_recording.specs.Recording.{records}
use Rattle.dap_mask.specs.Mask.{Mask}
use Rattle.dap_naming.specs.Sessions.{named_sents}
use Rattle.dap_input.specs.{declared.limits.Limits.Limits, Validation.{ContentError, Validation}}
use Rattle.dap_normalise.specs.Accepting.{Payload, text}
use Rattle.dap_rules.specs.MaskedRecordings.{IsMaskedTo, Masks}
use Rattle.dap_rules.specs.NamedRecordings.{IsNamedTo}
use Rattle.dap_rules.specs.Masking as masking
use Rattle.dap_rules.specs.Naming as naming
use Rattle.dap_rules.specs.declared.passes.Pass.{Pass}
use Rattle.dap_rules.specs.declared.passes.Pass.TheVariants as pass

-- What the pass makes of the messages.
abbrev pub rewritten : Pass → Mask → List Sent → List Sent
rewritten pass.Mask mask messages = masking.left_of mask messages
rewritten pass.Name mask messages = named_sents mask.declared messages

abbrev pub rewritten_text : Pass → Mask → List Sent → List ℕ
rewritten_text kind mask messages = text (rewritten kind mask messages)

-- ---- what the pass accepts

abbrev pub IsNext : Pass → Limits → Mask → List Sent → Payload → Sent → Type 0
IsNext pass.Mask limits mask before held message = masking.IsNext limits mask before held message
IsNext pass.Name limits mask before held message =
    naming.IsNext limits mask.declared before held message

abbrev pub Rejects : Pass → Limits → Mask → List Sent → Payload → ContentError → Type 0
Rejects pass.Mask limits mask before held why = masking.Rejects limits mask before held why
Rejects pass.Name limits mask before held why =
    naming.Rejects limits mask.declared before held why

abbrev pub IsAccepted : Pass → Limits → Mask → List ℕ → List Sent → Type 0
IsAccepted pass.Mask limits mask bytes messages = masking.IsAccepted limits mask bytes messages
IsAccepted pass.Name limits mask bytes messages =
    naming.IsAccepted limits mask.declared bytes messages

-- Recordings as the pass checks them.
abbrev pub rewriting : Pass → Limits → Mask → Validation
rewriting kind limits mask = record {
  Payload = Payload;
  Value = Sent;
  input = limits.input;
  records = records limits.frame;
  IsNext = IsNext kind limits mask;
  Rejects = Rejects kind limits mask;
  IsAccepted = IsAccepted kind limits mask;
}

-- ---- what the pass writes

-- The text of a recording.
abbrev pub Gives : Pass → Limits → Mask → List ℕ → List ℕ → Type 0
Gives pass.Mask limits mask bytes written = Masks limits mask bytes written
Gives pass.Name limits mask bytes written = naming.Names limits mask.declared bytes written

-- Everything that is promised about the text of a complete recording.
abbrev pub Promises : Pass → Limits → Mask → List ℕ → List ℕ → Type 0
Promises pass.Mask limits mask bytes written = IsMaskedTo limits mask bytes written
Promises pass.Name limits mask bytes written = IsNamedTo limits mask.declared bytes written

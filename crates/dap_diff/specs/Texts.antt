-- The texts that `compare` stores for two recordings, and the messages in them. Source: own.
use Rattle.std.specs.Prelude.{◌≡◌, ◌≤◌, ℕ, List, [], length, Option, Some, None}
use Rattle.dap_tree.specs.Json.{text_of}
use Rattle.dap_message.specs.Message.{Sent, IsTypedContent}
use Rattle.dap_input.specs.declared.limits.Limits.{Limits}
use Rattle.dap_normalise.specs.JudgingSteps.{record_of}
use Rattle.dap_diff.specs.Diffs.{diff_lines}

-- The text is the record of this message, whose content is within the limit and is that of the
-- message.
pub record IsRecordOf (limits : Limits) (text : List ℕ) (message : Sent) : Type 0 where
  pub is_record : text ≡ record_of message
  pub short : length (text_of message.doc) ≤ limits.frame.content
  pub typed : IsTypedContent message.side (text_of message.doc) message.doc

abbrev pub IsRecordText : Limits → List ℕ → Type 0
IsRecordText limits text = (message : Sent) × IsRecordOf limits text message

-- The text is the record of this message, or is empty if there is none.
abbrev pub Holds : Limits → List ℕ → Option Sent → Type 0
Holds limits text None = text ≡ []
Holds limits text (Some message) = IsRecordOf limits text message

abbrev pub IsLeftText : Limits → List ℕ → Type 0
IsLeftText limits text = (found : Option Sent) × Holds limits text found

-- The lines are those for the messages in the texts of A and of B.
pub record DescribesTexts (limits : Limits) (text_a text_b lines : List ℕ) : Type 0 where
  pub of_a : Option Sent
  pub of_b : Option Sent
  pub holds_a : Holds limits text_a of_a
  pub holds_b : Holds limits text_b of_b
  pub lines_are : lines ≡ diff_lines of_a of_b

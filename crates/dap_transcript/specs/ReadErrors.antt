-- When an error comes, and at which line. Source: own.
use Rattle.std.specs.Prelude.{◌≡◌, ◌≢◌, ℕ, suc, ◌<◌, ◌≤◌, Bool, true, false, List, ◌∷◌, ◌++◌}
use Rattle.std.specs.Prelude.{length, take, count_by, slice_get, All, ◌==◌}
use Rattle.dap_tree.specs.Json.{text_of}
use Rattle.dap_message.specs.Message.{Sent}
use Rattle.dap_transcript.specs.declared.fault.TranscriptCause.{TranscriptCause}
use Rattle.dap_transcript.specs.declared.fault.TranscriptCause.TheVariants as cause
use Rattle.dap_transcript.specs.{Transcript.transcript}

-- The error can come while records are read, before the text is compared.
abbrev pub is_of_reading : TranscriptCause → Bool
is_of_reading cause.BadLine = true
is_of_reading cause.BadValue = true
is_of_reading (cause.Message fault) = true
is_of_reading cause.Differs = false
is_of_reading cause.TooLong = false
is_of_reading cause.Memory = true

-- The end of a line: LF.
abbrev pub is_line_end : ℕ → Bool
is_line_end b = b == 10

-- The line has the first byte at which two texts differ, or at which one of them ends.
pub record FirstDiffer (text other : List ℕ) (line : ℕ) : Type 0 where
  pub at : ℕ
  pub same : take at text ≡ take at other
  pub differs : slice_get text at ≢ slice_get other at
  pub line_is : line ≡ suc (count_by is_line_end (take at text))

-- The lines before this one are those of the transcript of some messages, and this one is not.
pub record DiffersAt (text : List ℕ) (line : ℕ) : Type 0 where
  pub messages : List Sent
  pub first : FirstDiffer text (transcript messages) line

-- One of these messages has a content above the limit, and none before it has. Its record is the
-- one with this number, counted from 1.
pub record FirstTooLong (messages : List Sent) (limit number : ℕ) : Type 0 where
  pub earlier : List Sent
  pub message : Sent
  pub later : List Sent
  pub all : messages ≡ earlier ++ message ∷ later
  pub fit : All (λ (m : Sent). length (text_of m.doc) ≤ limit) earlier
  pub too_long : limit < length (text_of message.doc)
  pub number_is : number ≡ suc (length earlier)

-- The text is a transcript, and the content of one of its messages is above the limit.
pub record IsTooLong (text : List ℕ) (limit : ℕ) : Type 0 where
  pub messages : List Sent
  pub written : transcript messages ≡ text
  pub number : ℕ
  pub first : FirstTooLong messages limit number

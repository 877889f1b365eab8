-- The recording of a transcript. Source: own.
use Rattle.std.specs.Prelude.{◌≡◌, ℕ, List}
use Rattle.std.specs.List.{flat_map}
use Rattle.dap_tree.specs.Json.{text_of}
use Rattle.dap_message.specs.Message.{Sent}
use Rattle.dap_recording.specs.Recording.{record_text}
use Rattle.dap_transcript.specs.Transcript.{transcript}

-- The records of the canonical contents of messages.
abbrev pub frames : List Sent → List ℕ
frames messages = flat_map (λ m. record_text m.side (text_of m.doc)) messages

-- The text is the transcript of some messages, and this is their recording.
pub record IsRecordingOfTranscript (text recording : List ℕ) : Type 0 where
  pub messages : List Sent
  pub written : transcript messages ≡ text
  pub recording_is : recording ≡ frames messages

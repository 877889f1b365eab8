-- Records within the limits, and the messages that they contain. Source: own.
use Rattle.std.specs.Prelude.{◌≡◌, ℕ, ◌≤◌, List, ◌++◌, length, map}
use Rattle.std.specs.List.{AllByRecursion}
use Rattle.dap_tree.specs.Json.{text_of}
use Rattle.dap_message.specs.Message.{Sent}
use Rattle.dap_recording.specs.Recording.{recording_text}
use Rattle.dap_input.specs.declared.limits.Limits.{Limits}
use Rattle.dap_normalise.specs.Accepting.{Payload, AreMessages}

-- The text of the records does not exceed the input limit, and no content exceeds the content
-- limit.
pub record FitRecords (limits : Limits) (records : List Payload) : Type 0 where
  pub each : AllByRecursion (λ held. length held.1 ≤ limits.frame.content) records
  pub whole : length (recording_text records) ≤ limits.input

-- The records contain exactly these messages, in order, and their text is within the limits.
pub record Contain (limits : Limits) (messages : List Sent) (records : List Payload) : Type 0 where
  pub read : AreMessages records messages
  pub fits : FitRecords limits records

-- The first records contain exactly these messages, in order, and the text of all the records is
-- within the limits.
pub record BeginWith (limits : Limits) (messages : List Sent) (records : List Payload) : Type 0
  where
    pub front : List Payload
    pub rest : List Payload
    pub split : records ≡ front ++ rest
    pub read : AreMessages front messages
    pub fits : FitRecords limits records

-- The records of the canonical contents of messages.
abbrev pub contents_of : List Sent → List Payload
contents_of messages = map (λ message. (message.side, text_of message.doc)) messages

-- The laws that the functions of `laws` state.
use Rattle.std.specs.Prelude.{◌≡◌, ◌↔◌, ℕ, ℤ, List, [], ◌∷◌, ◌++◌, Some, true}
use Rattle.std.specs.List.{All}
use Rattle.dap_tree.specs.declared.side.Side.{Side}
use Rattle.dap_message.specs.Message.{Sent}
use Rattle.dap_stored.specs.Contents.{IsOfContent}
use Rattle.dap_transcript.specs.Expected.{IsOldestOpen, oldest_open}
use Rattle.dap_transcript.specs.Transcript.{record_text, starts_with_head, transcript}

-- The number that is expected of a response is that of the oldest open request.
abbrev pub ExpectsOldest : Type 0
ExpectsOldest = (side : Side) (command : List ℕ) (before : List Sent) (n : ℤ)
    → (oldest_open side command before ≡ Some n) ↔ IsOldestOpen side command before n

-- A message more adds its record at the end, and changes no record before it.
abbrev pub OneRecordMore : Type 0
OneRecordMore = (ms : List Sent) (m : Sent)
    → transcript (ms ++ m ∷ []) ≡ transcript ms ++ record_text ms m

-- The transcript of at least one message starts with the head of a record.
abbrev pub StartsWithHead : Type 0
StartsWithHead = (m : Sent) (ms : List Sent) → starts_with_head (transcript (m ∷ ms)) ≡ true

-- Each message is the typed message of a content. `StoredSession::push` requires this of a message,
-- and each message of an accepted recording is one.
abbrev pub AreOfContents : List Sent → Type 0
AreOfContents ms = All IsOfContent ms

-- Two lists of messages, each of a content, have equal transcripts if and only if they are equal.
abbrev pub EqualTranscripts : Type 0
EqualTranscripts = (ms ns : List Sent) → AreOfContents ms → AreOfContents ns
    → (transcript ms ≡ transcript ns) ↔ (ms ≡ ns)

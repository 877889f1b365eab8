-- The messages that a stored session represents (own).
use Rattle.std.specs.Prelude.{◌≡◌, ℕ, List, map, Some, slice_get}
use Rattle.dap_message.specs.Message.{Sent}
use Rattle.dap_stored.specs.{Contents.message_in, Heads.message_at}
use Rattle.dap_stored.specs.declared.message.StoredMessage.{StoredMessage}
use Rattle.dap_stored.specs.declared.session.StoredSession.{StoredSession}

-- The messages, in order.
abbrev pub messages_of : StoredSession → List Sent
messages_of s = map (message_at s.parts) s.heads.items

-- The message that a view represents.
abbrev pub stored_sent : StoredMessage → Sent
stored_sent m = message_in m.side m.content.now

-- These are the messages at these places of a list.
abbrev pub AreAt : List Sent → List ℕ → List Sent → Type 0
AreAt all places messages = map (slice_get all) places ≡ map Some messages

-- What the rules read of one message: six values, and tests of these values.
use Rattle.dap_tree.specs.declared.side.Side.{Side}
use Rattle.dap_tree.specs.declared.side.Side.TheVariants.{Client, Adapter}
use Rattle.dap_tree.specs.Side.{same_side}
use Rattle.std.specs.Prelude.{ℕ, ℤ, pos, Bool, true, false, ◌&&◌, ◌||◌, List, [], Option, Some}
use Rattle.std.specs.Prelude.{None, codes, unwrap_or}
use Rattle.std.specs.Str.{bytes_eq}
use Rattle.std.specs.Ordering.{int_eq}
use Rattle.dap_profile.specs.declared.profile.Kind.{Kind}
use Rattle.dap_profile.specs.declared.profile.Kind.TheVariants.{Request, Response, Event}
use Rattle.dap_message.specs.Envelope as envelope
use Rattle.dap_message.specs.Message.{Sent}

-- ---- the values

-- The side that sent the message.
unfoldable pub side_of : Sent → Side
side_of m = m.side

-- The kind of the message (DAP specification, ProtocolMessage.type).
unfoldable pub kind_of : Sent → Kind
kind_of m = envelope.kind_of m.doc

-- The command of a request or response, the name of an event. Every `Message` has a name; a
-- document without a name counts as one with the empty name.
unfoldable pub name_of : Sent → List ℕ
name_of m = unwrap_or (envelope.name_of m.doc) []

-- The sequence number (DAP specification, ProtocolMessage.seq). Every `Message` has a number; a
-- document without a number counts as one with 0.
unfoldable pub seq_of : Sent → ℤ
seq_of m = unwrap_or (envelope.seq_of m.doc) (pos 0)

-- The number of the request that a response answers (DAP specification, Response.request_seq). For
-- a request and an event it is `None`.
unfoldable pub request_seq_of : Sent → Option ℤ
request_seq_of m = envelope.request_seq_of m.doc

-- Whether a response reports success (DAP specification, Response.success). It is `None` for a
-- request and an event.
unfoldable pub success_of : Sent → Option Bool
success_of m = envelope.success_of m.doc

-- ---- the tests

-- The other side of the session.
abbrev pub other : Side → Side
other Client = Adapter
other Adapter = Client

-- The two kinds are equal.
abbrev pub same_kind : Kind → Kind → Bool
same_kind Request Request = true
same_kind Request Response = false
same_kind Request Event = false
same_kind Response Request = false
same_kind Response Response = true
same_kind Response Event = false
same_kind Event Request = false
same_kind Event Response = false
same_kind Event Event = true

-- There is a number, and it is equal to n.
abbrev pub is_number : Option ℤ → ℤ → Bool
is_number None n = false
is_number (Some k) n = int_eq k n

-- There is a value, and it is true.
abbrev pub is_yes : Option Bool → Bool
is_yes None = false
is_yes (Some b) = b

-- The message is a request, a response, an event (DAP specification, ProtocolMessage.type).
abbrev pub is_request : Sent → Bool
is_request m = same_kind Request (kind_of m)

abbrev pub is_response : Sent → Bool
is_response m = same_kind Response (kind_of m)

abbrev pub is_event : Sent → Bool
is_event m = same_kind Event (kind_of m)

-- This side sent the message.
abbrev pub is_from : Side → Sent → Bool
is_from side m = same_side side (side_of m)

-- It is a request of the client, or a response of the adapter, which answers one.
abbrev pub is_about_client : Sent → Bool
is_about_client m = (is_request m && is_from Client m) || (is_response m && is_from Adapter m)

-- The message has this command or, if it is an event, this name.
abbrev pub is_named : List ℕ → Sent → Bool
is_named name m = bytes_eq (name_of m) name

-- The message is a request of this side with this number.
abbrev pub is_request_of : Side → ℤ → Sent → Bool
is_request_of side n m = is_request m && is_from side m && int_eq n (seq_of m)

-- The message is a response to the request of this side with this number (DAP specification,
-- Response.request_seq).
abbrev pub is_response_to : Side → ℤ → Sent → Bool
is_response_to side n m = is_response m && is_from (other side) m && is_number (request_seq_of m) n

-- The message is an `initialize` request (DAP specification, InitializeRequest).
abbrev pub is_initialize : Sent → Bool
is_initialize m = is_request m && is_named (codes "initialize") m

-- The message is an `initialize` request of the client.
abbrev pub is_client_initialize : Sent → Bool
is_client_initialize m = is_from Client m && is_initialize m

-- The message is a `configurationDone` request of the client (DAP specification,
-- ConfigurationDoneRequest).
abbrev pub is_configuration_done : Sent → Bool
is_configuration_done m = is_from Client m && is_request m && is_named (codes "configurationDone") m

-- The message is an `initialized` event (DAP specification, InitializedEvent).
abbrev pub is_initialized : Sent → Bool
is_initialized m = is_event m && is_named (codes "initialized") m

-- The message is a successful `disconnect` response of the adapter (DAP specification,
-- DisconnectResponse).
abbrev pub is_disconnect_success : Sent → Bool
is_disconnect_success m =
    is_from Adapter m && is_response m && is_named (codes "disconnect") m && is_yes (success_of m)

-- The message is an `output` event of the adapter (DAP specification, OutputEvent).
abbrev pub is_output : Sent → Bool
is_output m = is_from Adapter m && is_event m && is_named (codes "output") m

-- The rules of a session, each as a test of a message and of the messages before it. `Positions`
-- states the rules without tests, over the positions of a list. `laws` proves that the two agree.
use Rattle.std.specs.Prelude.{◌≡◌, ◌++◌, ℕ, ℤ, Bool, false, cond, not, ◌&&◌, ◌||◌, List, [], ◌∷◌}
use Rattle.std.specs.Prelude.{Option, Some, None}
use Rattle.std.specs.Str.{bytes_eq}
use Rattle.std.specs.List.{list_any, count_by}
use Rattle.dap_tree.specs.declared.side.Side.{Side}
use Rattle.dap_tree.specs.declared.side.Side.TheVariants.{Client, Adapter}
use Rattle.dap_message.specs.Message.{Sent}
use Rattle.dap_session.specs.declared.rule.Rule.{Rule}
use Rattle.dap_session.specs.declared.rule.Rule.TheVariants.{EventFromClient, NotInitialized}
use Rattle.dap_session.specs.declared.rule.Rule.TheVariants.{StillInitializing, InitializeTwice}
use Rattle.dap_session.specs.declared.rule.Rule.TheVariants.{AfterDisconnect, SeqUsed}
use Rattle.dap_session.specs.declared.rule.Rule.TheVariants.{ConfiguredEarly, ConfiguredTwice}
use Rattle.dap_session.specs.declared.rule.Rule.TheVariants.{NoRequest, AnsweredTwice, OtherCommand}
use Rattle.dap_session.specs.Messages.{side_of, name_of, seq_of, request_seq_of, other, is_request}
use Rattle.dap_session.specs.Messages.{is_response, is_event, is_from, is_request_of}
use Rattle.dap_session.specs.Messages.{is_response_to, is_initialize, is_client_initialize}
use Rattle.dap_session.specs.Messages.{is_configuration_done, is_initialized, is_disconnect_success}
use Rattle.dap_session.specs.Messages.{is_output}

-- Some response in the list answers the request of this side with this number (DAP specification,
-- Response.request_seq).
abbrev pub is_answered : Side → ℤ → List Sent → Bool
is_answered side n ms = list_any (λ r. is_response_to side n r) ms

-- Some `initialize` request of the client has no response after it.
abbrev pub is_initializing : List Sent → Bool
is_initializing [] = false
is_initializing (m ∷ ms) =
    (is_client_initialize m && not (is_answered Client (seq_of m) ms)) || is_initializing ms

-- There is a number, and p holds for it.
abbrev pub at_number : Option ℤ → (ℤ → Bool) → Bool
at_number None p = false
at_number (Some n) p = p n

-- Only the adapter sends events (DAP specification, Event).
abbrev pub event_from_client : List Sent → Sent → Bool
event_from_client ms m = is_from Client m && is_event m

-- The `initialize` request of the client comes first (DAP overview, Initialization).
abbrev pub not_initialized : List Sent → Sent → Bool
not_initialized ms m = not (is_client_initialize m) && not (list_any is_client_initialize ms)

-- Until the adapter has responded to `initialize`, the client sends nothing else, and the adapter
-- neither requests nor events (DAP specification, InitializeRequest).
abbrev pub still_initializing : List Sent → Sent → Bool
still_initializing ms m = is_initializing ms && not (is_from Adapter m && is_response m)

-- `initialize` is requested once (DAP specification, InitializeRequest).
abbrev pub initialize_twice : List Sent → Sent → Bool
initialize_twice ms m = is_initialize m && list_any is_client_initialize ms

-- The client sends no request after a successful `disconnect` response (own).
abbrev pub after_disconnect : List Sent → Sent → Bool
after_disconnect ms m = is_from Client m && is_request m && list_any is_disconnect_success ms

-- No two requests of a side have the same number (DAP specification, ProtocolMessage.seq).
abbrev pub seq_used : List Sent → Sent → Bool
seq_used ms m = is_request m && list_any (λ q. is_request_of (side_of m) (seq_of m) q) ms

-- `configurationDone` follows an `initialized` event (DAP specification, InitializedEvent).
abbrev pub configured_early : List Sent → Sent → Bool
configured_early ms m = is_configuration_done m && not (list_any is_initialized ms)

-- `configurationDone` is sent once (own).
abbrev pub configured_twice : List Sent → Sent → Bool
configured_twice ms m = is_configuration_done m && list_any is_configuration_done ms

-- A response answers a request of the other side (DAP specification, Response.request_seq).
abbrev pub no_request : List Sent → Sent → Bool
no_request ms m =
    is_response m
    && not (at_number (request_seq_of m)
    (λ n. list_any (λ q. is_request_of (other (side_of m)) n q) ms))

-- A request has one response (DAP specification, Response).
abbrev pub answered_twice : List Sent → Sent → Bool
answered_twice ms m =
    is_response m && at_number (request_seq_of m) (λ n. is_answered (other (side_of m)) n ms)

-- The command of a response is that of its request (DAP specification, Response.command).
abbrev pub other_command : List Sent → Sent → Bool
other_command ms m =
    is_response m
    && at_number (request_seq_of m)
    (λ n. list_any (λ q. is_request_of (other (side_of m)) n q
    && not (bytes_eq (name_of q) (name_of m))) ms)

-- The message breaks the rule after these messages.
abbrev pub is_broken : Rule → List Sent → Sent → Bool
is_broken EventFromClient ms m = event_from_client ms m
is_broken NotInitialized ms m = not_initialized ms m
is_broken StillInitializing ms m = still_initializing ms m
is_broken InitializeTwice ms m = initialize_twice ms m
is_broken AfterDisconnect ms m = after_disconnect ms m
is_broken SeqUsed ms m = seq_used ms m
is_broken ConfiguredEarly ms m = configured_early ms m
is_broken ConfiguredTwice ms m = configured_twice ms m
is_broken NoRequest ms m = no_request ms m
is_broken AnsweredTwice ms m = answered_twice ms m
is_broken OtherCommand ms m = other_command ms m

-- The rules in the order in which they are tested and reported (own).
abbrev pub rules : List Rule
rules = EventFromClient ∷ NotInitialized ∷ StillInitializing ∷ InitializeTwice ∷ AfterDisconnect
    ∷ SeqUsed ∷ ConfiguredEarly ∷ ConfiguredTwice ∷ NoRequest ∷ AnsweredTwice ∷ OtherCommand ∷ []

-- The first rule of a list for which the test holds.
abbrev pub first_of : (Rule → Bool) → List Rule → Option Rule
first_of test [] = None
first_of test (r ∷ rs) = cond (test r) (Some r) (first_of test rs)

-- The first rule that the message breaks after these messages. An `output` event of the adapter
-- breaks no rule: an adapter may log at any time (own).
unfoldable pub first_broken : List Sent → Sent → Option Rule
first_broken ms m = cond (is_output m) None (first_of (λ r. is_broken r ms m) rules)

-- No message of the list breaks a rule after the messages before it.
abbrev pub KeepsRules : List Sent → Type 0
KeepsRules ms = (before after : List Sent) (m : Sent) → ms ≡ before ++ m ∷ after
    → first_broken before m ≡ None

-- The number of requests of a side that no response of the other side answers (own).
unfoldable pub open_requests : Side → List Sent → ℕ
open_requests side ms =
    count_by (λ q. is_request q && is_from side q && not (is_answered side (seq_of q) ms)) ms

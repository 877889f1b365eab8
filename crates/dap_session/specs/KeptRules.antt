-- For private clauses: the rules as tests of the state of a session.
use Rattle.std.specs.Prelude.{ℕ, ℤ, Bool, true, false, cond, not, ◌&&◌, List, Option, Some, None}
use Rattle.std.specs.Prelude.{[], ◌∷◌, is_some}
use Rattle.std.specs.Str.{bytes_eq}
use Rattle.dap_tree.specs.declared.side.Side.TheVariants.{Client, Adapter}
use Rattle.dap_message.specs.Message.{Sent}
use Rattle.dap_session.specs.declared.rule.Rule.{Rule}
use Rattle.dap_session.specs.declared.rule.Rule.TheVariants.{EventFromClient, NotInitialized}
use Rattle.dap_session.specs.declared.rule.Rule.TheVariants.{StillInitializing, InitializeTwice}
use Rattle.dap_session.specs.declared.rule.Rule.TheVariants.{AfterDisconnect, SeqUsed}
use Rattle.dap_session.specs.declared.rule.Rule.TheVariants.{ConfiguredEarly, ConfiguredTwice}
use Rattle.dap_session.specs.declared.rule.Rule.TheVariants.{NoRequest, AnsweredTwice, OtherCommand}
use Rattle.dap_session.specs.declared.phase.Phase.{Phase}
use Rattle.dap_session.specs.declared.phase.Phase.TheVariants.{Waiting, Asked, Answered}
use Rattle.dap_session.specs.Messages.{side_of, name_of, seq_of, request_seq_of, other, is_request}
use Rattle.dap_session.specs.Messages.{is_response, is_event, is_from, is_initialize}
use Rattle.dap_session.specs.Messages.{is_client_initialize, is_configuration_done, is_output}
use Rattle.dap_session.specs.Rules.{rules, first_of}
use Rattle.dap_session.specs.SessionState.{SessionState, Requests, RequestEntry, request_numbered}
use Rattle.dap_session.specs.SessionState.{requests_of}

-- The client has sent no `initialize` request.
abbrev pub is_waiting : Phase → Bool
is_waiting Waiting = true
is_waiting (Asked n) = false
is_waiting Answered = false

-- The client has sent one, and the adapter has not responded to it.
abbrev pub is_unanswered : Phase → Bool
is_unanswered Waiting = false
is_unanswered (Asked n) = true
is_unanswered Answered = false

-- The request with the number, if there is a number.
abbrev pub request_if_numbered : Option ℤ → Requests → Option RequestEntry
request_if_numbered None es = None
request_if_numbered (Some n) es = request_numbered n es

-- The request that a response answers.
abbrev pub asked_for : SessionState → Sent → Option RequestEntry
asked_for k m = request_if_numbered (request_seq_of m) (requests_of (other (side_of m)) k)

-- There is a request, and a response has answered it.
abbrev pub has_answer : Option RequestEntry → Bool
has_answer None = false
has_answer (Some a) = a.1

-- There is a request, and its command is not this name.
abbrev pub has_other_command : List ℕ → Option RequestEntry → Bool
has_other_command name None = false
has_other_command name (Some a) = not (bytes_eq a.0 name)

-- The message breaks the rule in this state.
unfoldable pub is_broken_in_state : Rule → SessionState → Sent → Bool
is_broken_in_state EventFromClient k m = is_from Client m && is_event m
is_broken_in_state NotInitialized k m = not (is_client_initialize m) && is_waiting k.phase
is_broken_in_state StillInitializing k m = is_unanswered k.phase && not
    (is_from Adapter m && is_response m)
is_broken_in_state InitializeTwice k m = is_initialize m && not (is_waiting k.phase)
is_broken_in_state AfterDisconnect k m = is_from Client m && is_request m && k.disconnected
is_broken_in_state SeqUsed k m =
    is_request m && is_some (request_numbered (seq_of m) (requests_of (side_of m) k))
is_broken_in_state ConfiguredEarly k m = is_configuration_done m && not k.initialized
is_broken_in_state ConfiguredTwice k m = is_configuration_done m && k.configured
is_broken_in_state NoRequest k m = is_response m && not (is_some (asked_for k m))
is_broken_in_state AnsweredTwice k m = is_response m && has_answer (asked_for k m)
is_broken_in_state OtherCommand k m = is_response m && has_other_command (name_of m) (asked_for k m)

-- The first rule that the message breaks in this state.
unfoldable pub first_broken_in_state : SessionState → Sent → Option Rule
first_broken_in_state k m = cond (is_output m) None (first_of (λ r. is_broken_in_state r k m) rules)

-- The rules on the client's `initialize` request, the rules that only requests can break, and the
-- rules that only responses can break. With `EventFromClient` before them, they are all rules.
abbrev pub start_rules : List Rule
start_rules = NotInitialized ∷ StillInitializing ∷ InitializeTwice ∷ []

abbrev pub request_rules : List Rule
request_rules = AfterDisconnect ∷ SeqUsed ∷ ConfiguredEarly ∷ ConfiguredTwice ∷ []

abbrev pub response_rules : List Rule
response_rules = NoRequest ∷ AnsweredTwice ∷ OtherCommand ∷ []

-- The first of these rules that the message breaks, by what is kept.
unfoldable pub first_of_told : List Rule → SessionState → Sent → Option Rule
first_of_told rs k m = first_of (λ r. is_broken_in_state r k m) rs

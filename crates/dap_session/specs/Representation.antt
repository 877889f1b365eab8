-- The lists of messages that a session represents.
use Rattle.std.specs.Prelude.{◌≡◌, ◌≤◌, ◌++◌, ℤ, true, false, cond, List, [], ◌∷◌, Option, Some}
use Rattle.std.specs.Prelude.{None, option_map, Result, Ok, Err}
use Rattle.std.specs.List.{list_any, count_by}
use Rattle.dap_tree.specs.declared.side.Side.{Side}
use Rattle.dap_tree.specs.declared.side.Side.TheVariants.{Client, Adapter}
use Rattle.dap_message.specs.Message.{Sent}
use Rattle.dap_session.specs.declared.rule.SessionFault.{SessionFault}
use Rattle.dap_session.specs.declared.rule.SessionFault.TheVariants.{Broken, Memory}
use Rattle.dap_session.specs.declared.phase.Phase.{Phase}
use Rattle.dap_session.specs.declared.phase.Phase.TheVariants.{Waiting, Asked, Answered}
use Rattle.dap_session.specs.Messages.{name_of, seq_of, is_request_of, is_client_initialize}
use Rattle.dap_session.specs.Messages.{is_configuration_done, is_initialized, is_disconnect_success}
use Rattle.dap_session.specs.Rules.{is_answered, is_initializing, first_broken, KeepsRules}
use Rattle.dap_session.specs.Rules.{open_requests}
use Rattle.dap_session.specs.SessionState.{SessionState, Requests, request_numbered, unanswered}

-- The first request of this side with this number.
abbrev pub request_at : Side → ℤ → List Sent → Option Sent
request_at side n [] = None
request_at side n (m ∷ ms) = cond (is_request_of side n m) (Some m) (request_at side n ms)

-- The requests are those of this side in the list: number, command, and whether it is answered.
pub record AreRequests (side : Side) (es : Requests) (ms : List Sent) : Type 0 where
  pub listed : (n : ℤ)
      → request_numbered n es
      ≡ option_map (λ q. (name_of q, is_answered side n ms)) (request_at side n ms)
  pub count : unanswered es ≡ open_requests side ms
  -- no two of them have the same number
  pub once : (n : ℤ) → count_by (λ q. is_request_of side n q) ms ≤ 1
  -- each response has its request
  pub asked : (n : ℤ) → request_at side n ms ≡ None → is_answered side n ms ≡ false

-- Each `initialize` request of the client has this number.
abbrev pub HaveNumber : ℤ → List Sent → Type 0
HaveNumber n [] = Unit {0}
HaveNumber n (m ∷ ms) = (is_client_initialize m ≡ true → seq_of m ≡ n) × HaveNumber n ms

-- The phase is that of the client's `initialize` request after the list.
abbrev pub IsPhase : Phase → List Sent → Type 0
IsPhase Waiting ms = list_any is_client_initialize ms ≡ false
IsPhase (Asked n) ms = (list_any is_client_initialize ms ≡ true) × HaveNumber n ms
    × (is_answered Client n ms ≡ false)
IsPhase Answered ms = (list_any is_client_initialize ms ≡ true) × (is_initializing ms ≡ false)

-- The session represents these messages: they obey the rules, and its state is that after them.
pub record Represents (k : SessionState) (ms : List Sent) : Type 0 where
  pub rules : KeepsRules ms
  pub client : AreRequests Client k.client ms
  pub adapter : AreRequests Adapter k.adapter ms
  pub phase : IsPhase k.phase ms
  pub initialized : k.initialized ≡ list_any is_initialized ms
  pub configured : k.configured ≡ list_any is_configuration_done ms
  pub disconnected : k.disconnected ≡ list_any is_disconnect_success ms

-- The result for the message m of a session that represents ms, and the state after it. A failed
-- allocation says nothing about m.
abbrev pub AcceptOutcome : List Sent → Sent → Result (Unit {0}) SessionFault → SessionState
    → SessionState → Type 0
AcceptOutcome ms m (Ok u) old new = (first_broken ms m ≡ None) × Represents new (ms ++ m ∷ [])
AcceptOutcome ms m (Err (Broken rule)) old new = (first_broken ms m ≡ Some rule) × (new ≡ old)
AcceptOutcome ms m (Err Memory) old new = new ≡ old

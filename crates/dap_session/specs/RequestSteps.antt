-- For private clauses: how a message may change the requests of a side.
use Rattle.std.specs.Prelude.{◌≡◌, ℤ, Bool, true, false, ◌&&◌, Some, None}
use Rattle.dap_tree.specs.declared.side.Side.{Side}
use Rattle.dap_message.specs.Message.{Sent}
use Rattle.dap_session.specs.Messages.{name_of, seq_of, request_seq_of, other, is_request}
use Rattle.dap_session.specs.Messages.{is_response, is_from}
use Rattle.dap_session.specs.SessionState.{Requests, request_numbered}

-- The message is a request of this side.
abbrev pub adds_to : Side → Sent → Bool
adds_to side m = is_request m && is_from side m

-- A request has a new number. A response answers a request that has its command and no response.
pub record FitsRequests (side : Side) (es : Requests) (m : Sent) : Type 0 where
  pub asks : is_request m && is_from side m ≡ true → request_numbered (seq_of m) es ≡ None
  pub answers : (n : ℤ) → is_response m && is_from (other side) m ≡ true → request_seq_of m ≡ Some n
      → request_numbered n es ≡ Some (name_of m, false)

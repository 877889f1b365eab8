-- The state of a session, and its state after one more message. `SessionState` is the model of
-- `Session`.
use Rattle.std.specs.Prelude.{ℕ, ℤ, pos, Bool, true, false, cond, not, ◌&&◌, ◌||◌, List, Option}
use Rattle.std.specs.Prelude.{Some, None, is_some, [], ◌∷◌, ◌++◌, ◌+◌, ◌-◌, ◌==◌, ◌-ℤ◌, nat_le}
use Rattle.std.specs.Prelude.{int_lt, unsigned_abs, length, get_or, set, replicate}
use Rattle.std.specs.List.{count_by}
use Rattle.std.specs.Map.{lookup, set_value}
use Rattle.std.specs.BTreeMap.{is_at, insert_entry}
use Rattle.std.specs.Ordering.{int_cmp}
use Rattle.dap_tree.specs.declared.side.Side.{Side}
use Rattle.dap_tree.specs.declared.side.Side.TheVariants.{Client, Adapter}
use Rattle.dap_message.specs.Message.{Sent}
use Rattle.dap_session.specs.declared.phase.Phase.{Phase}
use Rattle.dap_session.specs.declared.phase.Phase.TheVariants.{Waiting, Asked, Answered}
use Rattle.dap_session.specs.Messages.{name_of, seq_of, request_seq_of, other, is_request}
use Rattle.dap_session.specs.Messages.{is_response, is_from, is_response_to, is_client_initialize}
use Rattle.dap_session.specs.Messages.{is_configuration_done, is_initialized, is_disconnect_success}

-- The command of a request, and whether a response has answered it.
abbrev pub RequestEntry : Type 0
RequestEntry = List ℕ × Bool

-- Requests with their numbers, in ascending order.
abbrev pub Others : Type 0
Others = List (ℤ × RequestEntry)

abbrev pub other_numbered : ℤ → Others → Option RequestEntry
other_numbered n es = lookup (is_at (int_cmp n)) es

abbrev pub unanswered_others : Others → ℕ
unanswered_others es = count_by (λ e. not e.1.1) es

abbrev pub with_other : ℤ → RequestEntry → Others → Others
with_other n a es = insert_entry int_cmp es n a

abbrev pub with_other_answer : ℤ → List ℕ → Others → Others
with_other_answer n command es = set_value (is_at (int_cmp n)) es (command, true)

-- The requests of a side. The request with the number first + i is in slot i, if that contains a
-- request, and otherwise among the others.
pub record Requests : Type 0 where
  pub first : ℤ
  pub slots : List (Option RequestEntry)
  pub others : Others

abbrev pub no_requests : Requests
no_requests = record { first = pos 0; slots = []; others = [] }

-- How far the number is from the first one, if it is not less.
abbrev pub index_from : ℤ → ℤ → Option ℕ
index_from first n = cond (int_lt n first) None (Some (unsigned_abs (n -ℤ first)))

abbrev pub in_slot : List (Option RequestEntry) → Option ℕ → Option RequestEntry
in_slot ss None = None
in_slot ss (Some i) = get_or ss i None

-- The slot of the number, if it contains a request.
abbrev pub held_in : List (Option RequestEntry) → Option ℕ → Option ℕ
held_in ss i = cond (is_some (in_slot ss i)) i None

abbrev pub held_slot : ℤ → Requests → Option ℕ
held_slot n es = held_in es.slots (index_from es.first n)

abbrev pub found_at : Option ℕ → ℤ → Requests → Option RequestEntry
found_at None n es = other_numbered n es.others
found_at (Some i) n es = get_or es.slots i None

-- The request with this number.
abbrev pub request_numbered : ℤ → Requests → Option RequestEntry
request_numbered n es = found_at (held_slot n es) n es

abbrev pub is_open : Option RequestEntry → Bool
is_open None = false
is_open (Some a) = not a.1

-- How many requests have no response.
abbrev pub unanswered : Requests → ℕ
unanswered es = count_by is_open es.slots + unanswered_others es.others

-- The index, if a new slot there skips at most one number.
abbrev pub new_slot : Option ℕ → ℕ → Option ℕ
new_slot None len = None
new_slot (Some i) len = cond (nat_le len i && nat_le (i - len) 1) (Some i) None

abbrev pub put_at : Option ℕ → ℤ → RequestEntry → Requests → Requests
put_at None n a es =
    record { first = es.first; slots = es.slots; others = with_other n a es.others }
put_at (Some i) n a es = record {
  first = es.first;
  slots = es.slots ++ (replicate (i - length es.slots) None ++ Some a ∷ []);
  others = es.others;
}

-- The requests with one more, in a slot if its number is close to that of the last slot.
abbrev pub with_noted : ℤ → RequestEntry → Requests → Requests
with_noted n a es =
    cond (length es.slots == 0) (record { first = n; slots = Some a ∷ []; others = es.others })
    (put_at (new_slot (index_from es.first n) (length es.slots)) n a es)

-- The requests with one more request, which no response has answered.
abbrev pub with_request : ℤ → List ℕ → Requests → Requests
with_request n command es = with_noted n (command, false) es

abbrev pub answer_at : Option ℕ → ℤ → List ℕ → Requests → Requests
answer_at None n command es =
    record { first = es.first; slots = es.slots; others = with_other_answer n command es.others }
answer_at (Some i) n command es = record {
  first = es.first;
  slots = set es.slots i (Some (command, true));
  others = es.others;
}

-- The requests after a response to the request with this number.
abbrev pub with_answer : ℤ → List ℕ → Requests → Requests
with_answer n command es = answer_at (held_slot n es) n command es

-- The requests of both sides, the phase of the `initialize` request, and whether an `initialized`
-- event, a `configurationDone` request and a successful `disconnect` response have been received.
pub record SessionState : Type 0 where
  pub client : Requests
  pub adapter : Requests
  pub phase : Phase
  pub initialized : Bool
  pub configured : Bool
  pub disconnected : Bool

-- The requests of a side.
abbrev pub requests_of : Side → SessionState → Requests
requests_of Client k = k.client
requests_of Adapter k = k.adapter

-- The requests after a response to the request with this number, if there is a number.
abbrev pub answered_in : Option ℤ → List ℕ → Requests → Requests
answered_in None command es = es
answered_in (Some n) command es = with_answer n command es

-- The requests of a side after one more message.
abbrev pub requests_after : Side → Requests → Sent → Requests
requests_after side es m =
    cond (is_request m && is_from side m)
    (with_request (seq_of m) (name_of m) es)
    (cond (is_response m && is_from (other side) m) (answered_in (request_seq_of m) (name_of m) es)
    es)

-- The message is the response to the `initialize` request, which has no response so far.
abbrev pub answers_asked : Phase → Sent → Bool
answers_asked Waiting m = false
answers_asked (Asked n) m = is_response_to Client n m
answers_asked Answered m = false

-- The phase of the `initialize` request after one more message.
abbrev pub phase_after : Phase → Sent → Phase
phase_after phase m =
    cond (is_client_initialize m) (Asked (seq_of m)) (cond (answers_asked phase m) Answered phase)

-- The state after one more message.
abbrev pub state_after : SessionState → Sent → SessionState
state_after k m = record {
  client = requests_after Client k.client m;
  adapter = requests_after Adapter k.adapter m;
  phase = phase_after k.phase m;
  initialized = k.initialized || is_initialized m;
  configured = k.configured || is_configuration_done m;
  disconnected = k.disconnected || is_disconnect_success m;
}

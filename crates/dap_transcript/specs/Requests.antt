-- The open requests of one side, by the places of messages. Source: own. For private clauses.
use Rattle.std.specs.Prelude.{◌≡◌, ℕ, suc, ℤ, ⊤, Bool, true, false, cond, ◌&&◌, nat_lt, bytes_eq}
use Rattle.std.specs.Prelude.{List, [], ◌∷◌, ◌++◌, length, Option, Some, None}
use Rattle.std.specs.{BTreeMap.{BTreeMap, get, get_by}, Borrow.Bor, Option.option_map_or}
use Rattle.std.specs.{Cmp.Lexicographic.slice_cmp, Ordering.{int_cmp, nat_cmp}}
use Rattle.std.specs.VecDeque.{deque_items}
use Rattle.dap_tree.specs.{Side.same_side, declared.side.Side.Side}
use Rattle.dap_tree.specs.declared.side.Side.TheVariants.{Client, Adapter}
use Rattle.dap_profile.specs.declared.profile.Kind.TheVariants.{Request, Response}
use Rattle.dap_message.specs.Message.{Sent}
use Rattle.dap_session.specs.Messages.{is_number, is_response_to, kind_of, name_of, other}
use Rattle.dap_session.specs.Messages.{request_seq_of, same_kind, seq_of, side_of}
use Rattle.dap_transcript.specs.Expected.{asks, expected_seq, oldest_open}
use Rattle.dap_transcript.specs.Numbers.{CountsSides}
use Rattle.dap_transcript.specs.declared.expectations.Expectations.{Expectations}
use Rattle.dap_transcript.specs.declared.open_requests.{Asked.Asked, OpenRequests.OpenRequests}
use Rattle.dap_transcript.specs.declared.tokens.{Numbered.Numbered, Title.Title}

-- ---- requests and answers

abbrev pub request_at : ℤ → ℕ → Asked
request_at number place = record { number = number; place = place }

-- The requests of the side with the command among messages, the first of which has the place n.
abbrev pub requests_from : Side → List ℕ → ℕ → List Sent → List Asked
requests_from side command n [] = []
requests_from side command n (m ∷ ms) =
    cond (asks side command m) (request_at (seq_of m) n ∷ requests_from side command (suc n) ms)
    (requests_from side command (suc n) ms)

-- The place of the last response to a number of the side among messages, the first of which has the
-- place n; or the place o of one before them.
abbrev pub last_answer : Side → ℤ → ℕ → Option ℕ → List Sent → Option ℕ
last_answer side number n o [] = o
last_answer side number n o (m ∷ ms) =
    last_answer side number (suc n) (cond (is_response_to side number m) (Some n) o) ms

-- The place k is before that of the last response.
abbrev pub is_before : ℕ → Option ℕ → Bool
is_before k None = false
is_before k (Some a) = nat_lt k a

-- The last response to the request came after it.
abbrev pub is_closed : (ℤ → Option ℕ) → Asked → Bool
is_closed answered a = is_before a.place (answered a.number)

abbrev pub AllClosed : (ℤ → Option ℕ) → List Asked → Type 0
AllClosed answered [] = ⊤
AllClosed answered (a ∷ rest) = (is_closed answered a ≡ true) × AllClosed answered rest

-- The number of the first request that is open.
abbrev pub first_open : (ℤ → Option ℕ) → List Asked → Option ℤ
first_open answered [] = None
first_open answered (a ∷ rest) =
    cond (is_closed answered a) (first_open answered rest) (Some a.number)

-- ---- what is stored of them

-- The queue of a command.
abbrev pub queue_of : {D : Type 0} → (D → List Asked) → BTreeMap (Bor (List ℕ)) D → List ℕ
    → List Asked
queue_of items queues command =
    option_map_or items (get_by (λ k. slice_cmp nat_cmp command k.now) queues) []

abbrev pub are_answered : BTreeMap ℤ ℕ → ℤ → Option ℕ
are_answered m n = get int_cmp m n

-- The queue has all of these requests, except some first ones, which are closed.
pub record IsQueue (answered : ℤ → Option ℕ) (all queue : List Asked) : Type 0 where
  pub passed : List Asked
  pub is : all ≡ passed ++ queue
  pub closed : AllClosed answered passed

-- The requests of the side and their answers, after the messages before.
pub record Tracks (side : Side) (before : List Sent) (t : OpenRequests) : Type 0 where
  pub answers : (number : ℤ)
      → are_answered t.answered number ≡ last_answer side number 0 None before
  pub queues : (command : List ℕ) → IsQueue (are_answered t.answered)
      (requests_from side command 0 before) (queue_of deque_items t.queues command)

-- ---- one message more

-- These are the head and the numbers of the message.
pub record IsNumbered (m : Sent) (x : Numbered) : Type 0 where
  pub side : x.title.side ≡ side_of m
  pub kind : x.title.kind ≡ kind_of m
  pub name : x.title.name.now ≡ name_of m
  pub seq : x.seq ≡ seq_of m
  pub request : x.request ≡ request_seq_of m

-- The message is a request of the side.
abbrev pub requests : Side → Title → Bool
requests side title = same_kind Request title.kind && same_side side title.side

-- The message is a response to the side.
abbrev pub responds : Side → Title → Bool
responds side title = same_kind Response title.kind && same_side (other side) title.side

-- The place of a response to this number was stored.
abbrev pub Notes : BTreeMap ℤ ℕ → BTreeMap ℤ ℕ → Option ℤ → ℕ → Type 0
Notes old new number place = (n : ℤ)
    → are_answered new n ≡ cond (is_number number n) (Some place) (are_answered old n)

-- A request was added to the queue of its command.
abbrev pub AddsRequest : Side → Numbered → ℕ → (List ℕ → List Asked) → (List ℕ → List Asked)
    → Type 0
AddsRequest side x place old new = (command : List ℕ) → new command ≡ old command
    ++ cond (requests side x.title && bytes_eq x.title.name.now command)
    (request_at x.seq place ∷ []) []

-- The place of a response was stored.
abbrev pub AddsResponse : Side → Numbered → ℕ → BTreeMap ℤ ℕ → BTreeMap ℤ ℕ → Type 0
AddsResponse side x place old new = (n : ℤ) → are_answered new n
    ≡ cond (responds side x.title && is_number x.request n) (Some place) (are_answered old n)

-- ---- both sides

pub record Represents (e : Expectations) (ms : List Sent) : Type 0 where
  pub numbers : CountsSides e.numbers ms
  pub client : Tracks Client ms e.client
  pub adapter : Tracks Adapter ms e.adapter
  pub place : e.place ≡ length ms

-- These numbers are expected of a message with this title.
pub record AreExpected (ms : List Sent) (title : Title) (x : Numbered) : Type 0 where
  pub seq : x.seq ≡ expected_seq ms title.side
  pub request : same_kind Response title.kind ≡ true
      → x.request ≡ oldest_open (other title.side) title.name.now ms

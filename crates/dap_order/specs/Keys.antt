-- Keys of messages (own). Messages with equal keys have the same class, the same conversation or
-- the same look, depending on the kind of key.
use Rattle.std.specs.Prelude.{◌≡◌, ℕ, ℤ, ◌+◌, ◌*◌, ◌<◌, Bool, false, cond, ◌&&◌, ◌||◌, List, []}
use Rattle.std.specs.{Prelude.{length, Option, Some, None, is_some, slice_get}, List.list_any}
use Rattle.dap_tree.specs.declared.side.Side.{Side}
use Rattle.dap_tree.specs.declared.side.Side.TheVariants.{Client, Adapter}
use Rattle.dap_profile.specs.declared.profile.Kind.{Kind}
use Rattle.dap_profile.specs.declared.profile.Kind.TheVariants.{Request, Response, Event}
use Rattle.dap_message.specs.{Message.Sent, SwapRules.{SwapRule, swaps_of}}
use Rattle.dap_session.specs.Messages.{side_of, kind_of, name_of, seq_of, request_seq_of, other}
use Rattle.dap_session.specs.Messages.{is_request, is_response, is_named, is_output}
use Rattle.dap_session.specs.Messages.{is_configuration_done, is_initialized, is_disconnect_success}
use Rattle.dap_order.specs.Free.{class_of, class_rank, class_number, class_name, begins}
use Rattle.dap_order.specs.Free.{is_client_request}
use Rattle.dap_order.specs.declared.keys.Key.{Key as ReadKey}
use Rattle.dap_order.specs.declared.keys.By.{By}
use Rattle.dap_order.specs.declared.keys.By.TheVariants.{Class, Conversation, Look}

pub record Key : Type 0 where
  pub code : ℕ
  pub number : Option ℤ
  pub name : List ℕ

abbrev pub key_of : ReadKey → Key
key_of k = record { code = k.code; number = k.number; name = k.name.now }

-- A key has a number or a name, but not both.
abbrev pub numbered : ℕ → Option ℤ → Key
numbered code number = record { code = code; number = number; name = [] }

abbrev pub named : ℕ → List ℕ → Key
named code name = record { code = code; number = None; name = name }

-- ---- classes

abbrev pub class_key : Sent → Key
class_key m = record {
  code = class_rank (class_of m);
  number = class_number (class_of m);
  name = class_name (class_of m);
}

-- ---- conversations

abbrev pub side_code : Side → ℕ
side_code Client = 0
side_code Adapter = 1

-- The message is a response with a `request_seq`.
abbrev pub is_numbered_response : Sent → Bool
is_numbered_response m = is_response m && is_some (request_seq_of m)

-- The requests of one side with one sequence number and the responses to them form a conversation.
-- All other messages share one key.
abbrev pub conversation_key : Sent → Key
conversation_key m =
    cond (is_request m)
    (numbered (side_code (side_of m)) (Some (seq_of m)))
    (cond (is_numbered_response m)
    (numbered (side_code (other (side_of m))) (request_seq_of m))
    (numbered 2 None))

-- The key of a response is that of its conversation. All other messages have a key that is not the
-- key of a conversation.
abbrev pub response_key : Sent → Key
response_key m =
    cond (is_numbered_response m) (conversation_key m)
    (numbered 3 None)

-- ---- looks

-- The name of the half is the name of the message.
abbrev pub has_name : Option (List ℕ) → Sent → Bool
has_name None m = false
has_name (Some name) m = is_named name m

-- A half of the rule has the name of the message.
abbrev pub has_name_in : SwapRule → Sent → Bool
has_name_in r m = has_name r.one.name m || has_name r.another.name m

-- A rule has the name of the message.
abbrev pub is_mentioned : List SwapRule → Sent → Bool
is_mentioned rules m = list_any (λ r. has_name_in r m) rules

abbrev pub bit_of : Bool → ℕ
bit_of b = cond b 1 0

-- The number with one more binary digit.
abbrev pub with_bit : ℕ → Bool → ℕ
with_bit code bit = 2 * code + bit_of bit

abbrev pub kind_code : Kind → ℕ
kind_code Request = 0
kind_code Response = 1
kind_code Event = 2

-- A number that encodes the kind of the message, and the tests by which a session rule fixes its
-- order.
abbrev pub session_code : Sent → ℕ
session_code m =
    with_bit (with_bit (with_bit (with_bit (with_bit (with_bit (kind_code (kind_of m))
    (begins m)) (is_output m)) (is_initialized m)) (is_configuration_done m))
    (is_disconnect_success m))
    (is_client_request m)

-- Messages with the same look may be swapped with the same messages, unless their ids, or names
-- that no rule mentions, forbid it. The rules bound the number of looks; the recording does not
-- affect this bound.
abbrev pub look_key : List SwapRule → Sent → Key
look_key rules m = record {
  code = with_bit (session_code m) (is_mentioned rules m);
  number = None;
  name = cond (is_mentioned rules m) (name_of m) [];
}

-- ---- keys selected by `By`

-- The key of a message.
abbrev pub own_key : By → Sent → Key
own_key Class m = class_key m
own_key Conversation m = conversation_key m
own_key (Look rules) m = look_key (swaps_of rules.now) m

-- ---- places

-- p is the last place below n at which P holds.
abbrev pub IsLastBelow : (ℕ → Type 0) → ℕ → Option ℕ → Type 0
IsLastBelow P n None = (i : ℕ) → i < n → P i → ⊥
IsLastBelow P n (Some p) = (p < n) × P p × ((i : ℕ) → p < i → i < n → P i → ⊥)

-- The key k is at this place in the list.
abbrev pub IsKeyAt : List Key → Key → ℕ → Type 0
IsKeyAt ks k i = slice_get ks i ≡ Some k

-- For each place of `sought`, the last earlier place at which `own` has the same key.
pub record ArePrevious (own sought : List Key) (previous : List (Option ℕ)) : Type 0 where
  pub len : length previous ≡ length sought
  pub each : (j : ℕ) (k : Key) (o : Option ℕ) → slice_get sought j ≡ Some k
      → slice_get previous j ≡ Some o → IsLastBelow (IsKeyAt own k) j o

-- The earlier messages that a message must follow because of its class or its conversation, for
-- private clauses.
use Rattle.std.specs.Prelude.{◌≡◌, ℕ, ◌<◌, Bool, true, ◌||◌, ◌⊎◌, List, Some, map, slice_get}
use Rattle.std.specs.Prelude.{Option, Contains}
use Rattle.dap_message.specs.Message.{Sent}
use Rattle.dap_order.specs.{ByPlace.passes_both, Free.{of_one_class, answers}}
use Rattle.dap_order.specs.Keys.{Key, class_key, conversation_key, response_key, ArePrevious}
use Rattle.dap_order.specs.{Keys.{is_numbered_response, IsKeyAt}, declared.waits.Earlier.Earlier}

-- One message is a response to the other.
abbrev pub talk : Sent → Sent → Bool
talk x y = answers x y || answers y x

-- The order of the two messages is fixed, whichever of them comes first.
abbrev pub are_tied : Sent → Sent → Bool
are_tied x y = of_one_class x y || talk x y

-- The messages at the two places pass the test.
abbrev pub at_both : (Sent → Sent → Bool) → List Sent → ℕ → ℕ → Bool
at_both p ms i j = passes_both p (slice_get ms i) (slice_get ms j)

-- The place i is in the list, or the list contains a later place whose order with i is fixed.
abbrev pub IsCovered : List Sent → List ℕ → ℕ → Type 0
IsCovered ms waits i =
    Contains waits i ⊎ ((a : ℕ) × Contains waits a × (i < a) × (at_both are_tied ms i a ≡ true))

-- The listed places are before j, and their order with j is fixed. Each earlier place that passes
-- the test with j is covered.
pub record Covers (p : Sent → Sent → Bool) (ms : List Sent) (j : ℕ) (waits : List ℕ) : Type 0 where
  pub earlier : (a : ℕ) → Contains waits a → a < j
  pub tied : (a : ℕ) → Contains waits a → at_both are_tied ms a j ≡ true
  pub all : (i : ℕ) → i < j → at_both p ms i j ≡ true → IsCovered ms waits i

-- The message at this place is a response with a `request_seq`.
abbrev pub IsResponseAt : List Sent → ℕ → Type 0
IsResponseAt ms a = (x : Sent) × (slice_get ms a ≡ Some x) × (is_numbered_response x ≡ true)

-- The listed places are the earlier places with the key k, back to the last response.
pub record AreBack (ms : List Sent) (k : Key) (j : ℕ) (waits : List ℕ) : Type 0 where
  pub earlier : (a : ℕ) → Contains waits a
      → (a < j) × IsKeyAt (map conversation_key ms) k a
  pub all : (i : ℕ) → i < j → IsKeyAt (map conversation_key ms) k i
      → Contains waits i ⊎ ((a : ℕ) × Contains waits a × (i < a) × IsResponseAt ms a)

-- The last earlier place in the conversation of each message, and which messages are responses with
-- a `request_seq`.
pub record AreConversations (ms : List Sent) (previous : List (Option ℕ)) (tests : List Bool)
    : Type 0 where
  pub are_previous : ArePrevious (map conversation_key ms) (map conversation_key ms) previous
  pub are_tests : tests ≡ map is_numbered_response ms

pub record IsEarlier (ms : List Sent) (e : Earlier) : Type 0 where
  pub in_class : ArePrevious (map class_key ms) (map class_key ms) e.in_class.items
  pub in_conversation : ArePrevious (map conversation_key ms) (map conversation_key ms)
      e.in_conversation.items
  pub responses : ArePrevious (map response_key ms) (map conversation_key ms) e.responses.items
  pub are_responses : e.are_responses.items ≡ map is_numbered_response ms

-- The keys by which messages are put in order (own). Each message has a class and a number: the
-- number of earlier messages of its class. The key of a response to a request of the client is the
-- class and number of that request. The key of any other message is its own class and number.
-- Therefore no key depends on the values of ids.
use Rattle.std.specs.Prelude.{ℕ, Bool, ◌&&◌, ◌⊎◌, List}
use Rattle.dap_tree.specs.declared.side.Side.TheVariants.{Client}
use Rattle.dap_message.specs.{Message.Sent, SwapRules.SwapRule}
use Rattle.dap_session.specs.Messages.{is_from}
use Rattle.dap_order.specs.{Classes.Classes, Answers.{Answers, answer_labels}}
use Rattle.dap_order.specs.Labels.{Labels, Labelled, label, by_label, order_by_label}
use Rattle.dap_order.specs.{Order.IsOrdered, Swaps.Swaps}
use Rattle.dap_order.specs.Free.{Class, free, class_of, same_class, less_class, answers}

abbrev pub message_classes : List SwapRule → Classes Sent Class
message_classes rules = record {
  free = free rules;
  class = class_of;
  same = same_class;
  less = less_class;
}

-- q is a request of the client, and m is a response to it.
abbrev pub is_client_request_of : Sent → Sent → Bool
is_client_request_of q m = is_from Client q && answers m q

abbrev pub message_answers : List SwapRule → Answers Sent Class
message_answers rules = record {
  classes = message_classes rules;
  answered_by = is_client_request_of;
}

abbrev pub message_labels : List SwapRule → Labels Sent ((Class × ℕ) ⊎ (Class × ℕ))
message_labels rules = answer_labels (message_answers rules)

-- A message with its key.
abbrev pub KeyedMessage : Type 0
KeyedMessage = Labelled Sent ((Class × ℕ) ⊎ (Class × ℕ))

-- The messages of a list with their keys.
abbrev pub keyed : List SwapRule → List Sent → List KeyedMessage
keyed rules ms = label (message_labels rules) ms

-- Swaps of messages with their keys.
abbrev pub by_key : List SwapRule → Swaps KeyedMessage
by_key rules = by_label (message_labels rules)

-- The messages in order: the lexicographically first list, by these keys, among those that swaps of
-- free neighbours lead to.
unfoldable pub ordered : List SwapRule → List Sent → List Sent
ordered rules ms = order_by_label (message_labels rules) ms

-- If a message has a smaller key than an earlier one, it is not free with all messages from the
-- earlier one up to itself.
abbrev pub AreOrdered : List SwapRule → List Sent → Type 0
AreOrdered rules ms = IsOrdered (by_key rules) (keyed rules ms)

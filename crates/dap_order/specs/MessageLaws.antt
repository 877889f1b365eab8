-- The statements of the functions in `message_laws`.
use Rattle.std.specs.{Prelude.{◌≡◌, ◌↔◌, List, [], ◌∷◌, ◌++◌, false, true}, Bool.Decides, List.All}
use Rattle.dap_tree.specs.declared.side.Side.{Side}
use Rattle.dap_message.specs.{Message.Sent, SwapRules.SwapRule}
use Rattle.dap_session.specs.Laws.{Renaming, Renames}
use Rattle.dap_session.specs.RenamedLists.{IsNumbered, DifferInIds, IsOneToOne}
use Rattle.dap_session.specs.Rules.{KeepsRules, open_requests}
use Rattle.dap_order.specs.{Swaps.{BothWays, Reordered}, Barriers.order_by_label_after}
use Rattle.dap_order.specs.{Free.{free, names}, SameButOrder.{SameButOrder, AreSameButOrder}}
use Rattle.dap_order.specs.{Labels.items_of, Least.IsLeast, Order.{all_free, order}, Words.IsFree}
use Rattle.dap_order.specs.MessageOrder.{AreOrdered, KeyedMessage, by_key, keyed, message_labels}
use Rattle.dap_order.specs.MessageOrder.{ordered}
use Rattle.dap_rename.specs.Messages.{AreSame, IsNormal, no_stop}

-- ---- free messages

-- The test `free` decides `IsFree`.
abbrev pub FreeInWords : Type 0
FreeInWords = (rules : List SwapRule) (x y : Sent) → Decides (free rules x y) (IsFree rules x y)

-- Freeness is symmetric.
abbrev pub FreeBothWays : Type 0
FreeBothWays = (rules : List SwapRule) → BothWays (free rules)

-- ---- the session rules

-- Swaps of free neighbours violate no session rule.
abbrev pub SwapsKeepRules : Type 0
SwapsKeepRules = (rules : List SwapRule) (ms ns : List Sent) → Reordered (free rules) ms ns
    → KeepsRules ms ↔ KeepsRules ns

-- They do not change the number of unanswered requests.
abbrev pub SwapsKeepOpen : Type 0
SwapsKeepOpen = (rules : List SwapRule) (side : Side) (ms ns : List Sent)
    → Reordered (free rules) ms ns → open_requests side ms ≡ open_requests side ns

-- ---- one order

-- Swaps lead from a list to its order, which is in order.
abbrev pub OrderIsReached : Type 0
OrderIsReached = (rules : List SwapRule) (ms : List Sent)
    → Reordered (free rules) ms (ordered rules ms) × AreOrdered rules (ordered rules ms)

-- Two lists have the same order if and only if swaps lead from one to the other.
abbrev pub OneOrder : Type 0
OneOrder = (rules : List SwapRule) (ms ns : List Sent)
    → Reordered (free rules) ms ns ↔ (ordered rules ms ≡ ordered rules ns)

-- Only one of the lists that swaps lead to is in order.
abbrev pub OneOrdered : Type 0
OneOrdered = (rules : List SwapRule) (ms ns : List Sent) → Reordered (free rules) ms ns
    → AreOrdered rules ms → AreOrdered rules ns → ms ≡ ns

-- Ordering twice is ordering once.
abbrev pub OrderedAgain : Type 0
OrderedAgain = (rules : List SwapRule) (ms : List Sent)
    → ordered rules (ordered rules ms) ≡ ordered rules ms

-- The order starts with the message that has the least key of all messages that are free with all
-- messages before them. It continues with the order of the other messages, by the keys that they
-- have in the complete list.
abbrev pub OrderBegins : Type 0
OrderBegins = (rules : List SwapRule) (ms : List Sent) (m : KeyedMessage)
    (front back : List KeyedMessage) → keyed rules ms ≡ front ++ m ∷ back
    → all_free (by_key rules) m front ≡ true → IsLeast (by_key rules) m (keyed rules ms)
    → ordered rules ms
    ≡ m.item ∷ items_of (message_labels rules) (order (by_key rules) (front ++ back))

-- A message that no rule names divides the list: the messages before it and the messages after it
-- are ordered separately, by the keys that they have in the complete list.
abbrev pub UnnamedParts : Type 0
UnnamedParts = (rules : List SwapRule) (b : Sent) → names rules b ≡ false → (ms ns : List Sent)
    → ordered rules (ms ++ b ∷ ns)
    ≡ ordered rules ms ++ b ∷ order_by_label_after (message_labels rules) (ms ++ b ∷ []) ns

-- The order of a list obeys the session rules if and only if the list does.
abbrev pub OrderKeepsRules : Type 0
OrderKeepsRules = (rules : List SwapRule) (ms : List Sent)
    → KeepsRules ms ↔ KeepsRules (ordered rules ms)

-- ---- ids

-- Ordering commutes with a one-to-one renaming.
abbrev pub OrderOfRenamed : Type 0
OrderOfRenamed = (rules : List SwapRule) (pairs : Renaming) (ms ns : List Sent)
    → IsOneToOne (Renames pairs) → All IsNumbered ms → KeepsRules ms
    → DifferInIds (Renames pairs) ms ns
    → DifferInIds (Renames pairs) (ordered rules ms) (ordered rules ns)

-- Swaps and a one-to-one renaming turn the first list into the second if and only if the renaming
-- turns the order of the first into the order of the second.
abbrev pub OneOrderButIds : Type 0
OneOrderButIds = (rules : List SwapRule) (pairs : Renaming) (ms ns : List Sent)
    → IsOneToOne (Renames pairs) → All IsNumbered ms → KeepsRules ms
    → SameButOrder (Renames pairs) rules ms ns
    ↔ DifferInIds (Renames pairs) (ordered rules ms) (ordered rules ns)

-- Two lists are the same except for ids and the order of free messages if and only if their orders
-- are the same except for ids.
abbrev pub SameOrders : Type 0
SameOrders = (rules : List SwapRule) (ms ns : List Sent) → All IsNumbered ms → KeepsRules ms
    → AreSameButOrder rules ms ns ↔ AreSame no_stop (ordered rules ms) (ordered rules ns)

-- Two lists are the same except for ids and the order of free messages if and only if the normal
-- forms of their orders are equal.
abbrev pub OneNormalForm : Type 0
OneNormalForm = (rules : List SwapRule) (ms ns n k : List Sent) → All IsNumbered ms → KeepsRules ms
    → IsNormal no_stop (ordered rules ms) n → IsNormal no_stop (ordered rules ns) k
    → AreSameButOrder rules ms ns ↔ (n ≡ k)

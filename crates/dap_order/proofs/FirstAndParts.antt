-- A message that no rule names divides a list; the first message of an ordered list; ordering twice
-- is ordering once.
use Rattle.std.proofs.Common.{◌≡◌, ◌∙◌, false, not, ◌&&◌, List, [], ◌∷◌, ◌++◌, ap, subst, sym}
use Rattle.std.specs.Prelude.{◌||◌}
use Rattle.std.specs.List.{list_any}
use Rattle.std.proofs.lemmas.Bool.{and_left, and_right, or_from, or_parts}
use Rattle.dap_message.specs.Message.{Sent}
use Rattle.dap_order.specs.Barriers.{IsBarrier, order_by_label_after}
use Rattle.dap_order.proofs.Barriers.{order_by_label-barrier}
use Rattle.dap_message.specs.SwapRules.{SwapRule}
use Rattle.dap_order.specs.Free.{free, names, names_both, fits_half, depends}
use Rattle.dap_order.specs.{Labels.items_of, Least.IsLeast, MessageLaws.OrderBegins, Order.order}
use Rattle.dap_order.specs.MessageOrder.{by_key, message_labels, ordered}
use Rattle.dap_order.proofs.{Labels.are_swaps, Least.order-least}
use Rattle.dap_order.proofs.MessageOrder.{are_message_labels, to_ordered, one_ordered}

none_both : (rules : List SwapRule) (x b : Sent) → names rules b ≡ false
    → list_any (λ r. names_both r x b) rules ≡ false
none_both [] x b h = h
none_both (r ∷ rs) x b h =
    let w = or_parts (fits_half r.one b || fits_half r.another b) (names rs b) h in
    let v = or_parts (fits_half r.one b) (fits_half r.another b) w.0 in
    or_from (names_both r x b) (list_any (λ s. names_both s x b) rs)
    (or_from (fits_half r.one x && fits_half r.another b)
    (fits_half r.one b && fits_half r.another x)
    (and_right (fits_half r.one x) (fits_half r.another b) v.1)
    (and_left (fits_half r.one b) (fits_half r.another x) v.0)) (none_both rs x b w.1)

unnamed_barrier : (rules : List SwapRule) (b : Sent) → names rules b ≡ false
    → IsBarrier (free rules) b
unfolding free
unnamed_barrier rules b h x =
    and_left (list_any (λ r. names_both r x b) rules) (not (depends x b) && not (depends b x))
    (none_both rules x b h)

pub unnamed_parts : (rules : List SwapRule) (b : Sent) → names rules b ≡ false
    → (ms ns : List Sent)
    → ordered rules (ms ++ b ∷ ns)
    ≡ ordered rules ms ++ b ∷ order_by_label_after (message_labels rules) (ms ++ b ∷ []) ns
unfolding ordered
unnamed_parts rules b h =
    order_by_label-barrier (message_labels rules) (are_message_labels rules) b
    (unnamed_barrier rules b h)

pub ordered_again : (rules : List SwapRule) (ms : List Sent)
    → ordered rules (ordered rules ms) ≡ ordered rules ms
ordered_again rules ms = sym (one_ordered rules ms (ordered rules ms) (to_ordered rules ms))

pub order_begins : OrderBegins
unfolding ordered
order_begins rules ms m front back is ready least =
    let labels = message_labels rules in
    ap (λ keys. items_of labels (order (by_key rules) keys)) is
    ∙ ap (items_of labels) (order-least (by_key rules) (are_swaps labels (are_message_labels rules))
    m front back ready (subst (IsLeast (by_key rules) m) is least))

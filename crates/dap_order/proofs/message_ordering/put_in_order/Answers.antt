use Rattle.std.proofs.Common.{◌≡◌, ◌==◌, ℕ, true, List, [], map, length, sym, ap, ◌∙◌, subst, Vec}
use Rattle.std.proofs.Common.{Global, arith}
use Rattle.std.specs.Prelude.{slice_get, IsPermutation, Some}
use Rattle.std.specs.List.{range_with_len}
use Rattle.std.proofs.lemmas.List.{length-map}
use Rattle.std.proofs.lemmas.List.Sorted.{IsPermutation-refl}
use Rattle.std.proofs.lemmas.Result.{IfOk-weaker}
use Rattle.dap_message.specs.SwapRules.{SwapRule, swaps_of}
use Rattle.dap_message.specs.Message.{Sent}
use Rattle.dap_order.specs.Swaps.{Swaps}
use Rattle.dap_order.specs.Order.{order}
use Rattle.dap_order.specs.Labels.{label, by_label}
use Rattle.dap_order.specs.ByPlace.{by_place}
use Rattle.dap_order.specs.Plan.{place_count}
use Rattle.dap_order.proofs.Kept.{reordered_permutation}
use Rattle.dap_order.proofs.Moves.{order_reordered}
use Rattle.dap_order.specs.Entries.{sent_by}
use Rattle.dap_order.specs.MessageOrder.{message_labels, ordered}
use Rattle.dap_order.proofs.PlacesInOrder.{are_swaps_of_places, places_in_order}
use Rattle.dap_order.proofs.message_ordering.put_in_order.Goals as goal

-- The order of the places of these messages.
abbrev order_of : List SwapRule → List Sent → Swaps ℕ
order_of rules ms = by_place (by_label (message_labels rules)) (label (message_labels rules) ms)

no_item : {A : Type 0} (xs : List A) → true ≡ (length xs == 0) → length xs ≡ 0
no_item xs h = grind arith

pub returns-then-is_empty-clause-once : goal.returns-then-is_empty-clause-once
returns-then-is_empty-clause-once g c =
    subst (λ (n : ℕ). IsPermutation (range_with_len 0 n) c.new.result.items)
    (sym (no_item c.args.messages.now c.if-is_empty.ensures))
    (subst (IsPermutation []) (sym c.new.ensures.items) (IsPermutation-refl []))

pub returns-then-is_empty-clause-order : goal.returns-then-is_empty-clause-order
returns-then-is_empty-clause-order g c =
    let sent = g.M.AnyMessage.sent in
    let rules = swaps_of c.args.rules.now in
    let ns = map sent c.args.messages.now in
    let none : length ns ≡ 0 =
    length-map c.args.messages.now sent ∙ no_item c.args.messages.now c.if-is_empty.ensures in
    places_in_order rules ns c.new.result.items
    (c.new.ensures.items ∙ ap (λ n. order (order_of rules ns) (range_with_len 0 n)) (sym none))

pub returns-clause-once : goal.returns-clause-once
returns-clause-once g c =
    let sent = g.M.AnyMessage.sent in
    let rules = swaps_of c.args.rules.now in
    let ms = map sent_by c.in_ok-entries.entries.items in
    let are = are_swaps_of_places rules ms in
    let count : place_count c.in_ok-plan.plan ≡ length c.args.messages.now =
    c.in_ok-plan.ensures.count ∙ sym (length-map c.in_ok-entries.entries.items sent_by)
    ∙ ap length c.in_ok-entries.ensures.messages ∙ length-map c.args.messages.now sent in
    IfOk-weaker c.order_of_places.result
    (λ (places : Vec ℕ Global). places.items
    ≡ order (order_of rules ms) (range_with_len 0 (place_count c.in_ok-plan.plan)))
    (λ (places : Vec ℕ Global).
    IsPermutation (range_with_len 0 (length c.args.messages.now)) places.items)
    (λ places is.
    subst (λ (n : ℕ). IsPermutation (range_with_len 0 n) places.items) count
    (subst (IsPermutation (range_with_len 0 (place_count c.in_ok-plan.plan))) (sym is)
    (reordered_permutation (order_of rules ms).free
    (range_with_len 0 (place_count c.in_ok-plan.plan)) _
    (order_reordered (order_of rules ms) are
    (range_with_len 0 (place_count c.in_ok-plan.plan))))))
    (c.order_of_places.ensures.ordered (order_of rules ms) are c.in_ok-plan.ensures.plan)

pub returns-clause-order : goal.returns-clause-order
returns-clause-order g c =
    let sent = g.M.AnyMessage.sent in
    let rules = swaps_of c.args.rules.now in
    let ms = map sent_by c.in_ok-entries.entries.items in
    let ns = map sent c.args.messages.now in
    let same : ms ≡ ns = c.in_ok-entries.ensures.messages in
    let are = are_swaps_of_places rules ms in
    let count : place_count c.in_ok-plan.plan ≡ length ms =
    c.in_ok-plan.ensures.count ∙ sym (length-map c.in_ok-entries.entries.items sent_by) in
    IfOk-weaker c.order_of_places.result
    (λ (places : Vec ℕ Global). places.items
    ≡ order (order_of rules ms) (range_with_len 0 (place_count c.in_ok-plan.plan)))
    (λ (places : Vec ℕ Global).
    map (slice_get ns) places.items ≡ map Some (ordered rules ns))
    (λ places is. places_in_order rules ns places.items
    (is ∙ ap (λ n. order (order_of rules ms) (range_with_len 0 n)) count
    ∙ ap (λ (zs : List Sent). order (order_of rules zs) (range_with_len 0 (length zs))) same))
    (c.order_of_places.ensures.ordered (order_of rules ms) are c.in_ok-plan.ensures.plan)

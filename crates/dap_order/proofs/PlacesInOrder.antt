-- The places in order are the places of the messages in order.
use Rattle.std.proofs.Common.{◌≡◌, ℕ, List, [], Some, map, length, sym, ap, ◌∙◌}
use Rattle.std.specs.Prelude.{slice_get}
use Rattle.std.specs.List.{range_with_len}
use Rattle.dap_message.specs.Message.{Sent}
use Rattle.dap_order.specs.Swaps.{AreSwaps}
use Rattle.dap_order.specs.Order.{order}
use Rattle.dap_order.specs.Labels.{label, by_label}
use Rattle.dap_order.specs.ByPlace.{by_place}
use Rattle.dap_order.proofs.ByPlace.{are_place_swaps, order-by_place}
use Rattle.dap_order.proofs.Labels.{are_swaps, items_of-label, length-label}
use Rattle.dap_message.specs.SwapRules.{SwapRule}
use Rattle.dap_order.specs.MessageOrder.{message_labels, ordered}
use Rattle.dap_order.proofs.MessageOrder.{are_message_labels}
use Rattle.dap_order.proofs.Ranges.{picked_map}

module _ (rules : List SwapRule) (ms : List Sent) where
  pub are_swaps_of_places : AreSwaps (by_place (by_label (message_labels rules))
      (label (message_labels rules) ms))
  are_swaps_of_places =
      are_place_swaps (by_label (message_labels rules))
      (are_swaps (message_labels rules) (are_message_labels rules))
      (label (message_labels rules) ms)

  pub places_in_order : (is : List ℕ)
      → is ≡ order (by_place (by_label (message_labels rules)) (label (message_labels rules) ms))
      (range_with_len 0 (length ms)) → map (slice_get ms) is ≡ map Some (ordered rules ms)
  unfolding ordered
  places_in_order is e =
      let s = message_labels rules in
      let labelled = label s ms in
      let there : map (slice_get labelled) is ≡ map Some (order (by_label s) labelled) =
      ap (map (slice_get labelled)) (e
      ∙ ap (λ n. order (by_place (by_label s) labelled) (range_with_len 0 n))
      (sym (length-label s (are_message_labels rules) [] ms)))
      ∙ order-by_place (by_label s) labelled in
      ap (λ (zs : List Sent). map (slice_get zs) is) (sym (items_of-label s ms))
      ∙ picked_map (λ x. x.item) labelled (order (by_label s) labelled) is there

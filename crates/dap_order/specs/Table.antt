-- The order of the places of a table, for private clauses.
use Rattle.std.specs.Prelude.{ℕ, map}
use Rattle.dap_message.specs.declared.any_message.AnyMessage.{Ghosts as Form}
use Rattle.dap_message.specs.SwapRules.{swaps_of}
use Rattle.dap_order.specs.{Swaps.Swaps, Labels.{label, by_label}, ByPlace.by_place}
use Rattle.dap_order.specs.{MessageOrder.message_labels, Entries.sent_by}
use Rattle.dap_order.specs.declared.table.Table.{Table}

-- Two places are ordered in the same way as the messages at these places.
abbrev pub place_order : {M : Type 0} {form : Form M} → Table M form → Swaps ℕ
place_order t =
    let labels = message_labels (swaps_of t.rules.now) in
    by_place (by_label labels) (label labels (map sent_by t.entries.items))

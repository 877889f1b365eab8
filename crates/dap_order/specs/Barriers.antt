-- Items that divide a list.
use Rattle.std.specs.Prelude.{◌≡◌, Bool, false, List}
use Rattle.dap_order.specs.{Order.order, Labels.{Labels, label_after, by_label, items_of}}

-- No item is free with b.
abbrev pub IsBarrier : {X : Type 0} → (X → X → Bool) → X → Type 0
IsBarrier {X = X} free b = (x : X) → free x b ≡ false

-- The items in the order of the labels that they have after the items `before`.
abbrev pub order_by_label_after : {X L : Type 0} → Labels X L → List X → List X → List X
order_by_label_after s before xs = items_of s (order (by_label s) (label_after s before xs))

-- Labels: keys of items that depend on the items before them. No swap changes a label, so the order
-- by labels is well defined for lists up to swaps.
use Rattle.std.specs.Prelude.{◌≡◌, Bool, true, ◌&&◌, ◌||◌, ◌⊎◌, List, [], ◌∷◌, ◌++◌, map}
use Rattle.dap_order.specs.{Swaps.{BothWays, Swaps}, Order.order}

-- An item and its label.
pub record Labelled (X L : Type 0) : Type 0 where
  pub item : X
  pub label : L

-- Two items with labels are free if the items are free and one label is less than the other.
abbrev pub labelled_swaps : {X L : Type 0} → (X → X → Bool) → (L → L → Bool) → Swaps (Labelled X L)
labelled_swaps free less = record {
  free = λ x y. free x.item y.item && (less x.label y.label || less y.label x.label);
  less = λ x y. less x.label y.label;
}

-- Which items are free with each other, the order of the labels, and the label of an item after the
-- items before it.
pub record Labels (X L : Type 0) : Type 0 where
  pub free : X → X → Bool
  pub less : L → L → Bool
  pub label_of : List X → X → L

-- Labels are strictly ordered, and two free items after the same items have different labels. No
-- swap changes a label: the label of an item does not depend on a free item right before it
-- (`own`), nor on which of two free neighbours further ahead comes first (`after`).
pub record AreLabels {X L : Type 0} (s : Labels X L) : Type 0 where
  pub both_ways : BothWays s.free
  pub less_itself : (a : L) → s.less a a ≡ true → ⊥
  pub less_on : (a b c : L) → s.less a b ≡ true → s.less b c ≡ true → s.less a c ≡ true
  pub apart : (before : List X) (x y : X) → s.free x y ≡ true
      → (s.less (s.label_of before x) (s.label_of before y) ≡ true)
      ⊎ (s.less (s.label_of before y) (s.label_of before x) ≡ true)
  pub own : (before : List X) (x y : X) → s.free x y ≡ true
      → s.label_of (before ++ x ∷ []) y ≡ s.label_of before y
  pub after : (before between : List X) (x y z : X) → s.free x y ≡ true
      → s.label_of (before ++ x ∷ y ∷ between) z ≡ s.label_of (before ++ y ∷ x ∷ between) z

module _ {X L : Type 0} (s : Labels X L) where
  -- The second list with the labels that its items have after the first.
  abbrev pub label_after : List X → List X → List (Labelled X L)
  label_after before [] = []
  label_after before (x ∷ xs) =
      record { item = x; label = s.label_of before x } ∷ label_after (before ++ x ∷ []) xs

  abbrev pub label : List X → List (Labelled X L)
  label xs = label_after [] xs

  -- The swaps of the items with their labels.
  abbrev pub by_label : Swaps (Labelled X L)
  by_label = labelled_swaps s.free s.less

  -- The items without their labels.
  abbrev pub items_of : List (Labelled X L) → List X
  items_of = map (λ x. x.item)

  -- The items in the order of their labels.
  abbrev pub order_by_label : List X → List X
  order_by_label xs = items_of (order by_label (label xs))

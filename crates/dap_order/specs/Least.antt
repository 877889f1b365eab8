-- Items that may come first, and the least of them.
use Rattle.std.specs.Prelude.{◌≡◌, true, List, ◌∷◌, ◌++◌}
use Rattle.dap_order.specs.{Swaps.Swaps, Order.all_free}

module _ {X : Type 0} (s : Swaps X) where
  -- The item is free with all items before it.
  pub record IsReady (x : X) (xs : List X) : Type 0 where
    pub front : List X
    pub back : List X
    pub where_it_is : xs ≡ front ++ x ∷ back
    pub are_free : all_free s x front ≡ true

  -- No ready item has a smaller key.
  abbrev pub IsLeast : X → List X → Type 0
  IsLeast x xs = (y : X) → IsReady y xs → s.less y x ≡ true → ⊥

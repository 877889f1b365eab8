-- Lists up to swaps of free neighbours. In the theory of traces (Mazurkiewicz), free items are
-- called independent.
use Rattle.std.specs.Prelude.{◌≡◌, Bool, true, false, ◌⊎◌, List, ◌∷◌, ◌++◌}

-- `free x y`: x and y may be swapped if they are neighbours.
module _ {X : Type 0} (free : X → X → Bool) where
  -- Freeness is symmetric.
  abbrev pub BothWays : Type 0
  BothWays = (x y : X) → free x y ≡ true → free y x ≡ true

  -- Two free neighbours were swapped.
  pub record Swapped (xs ys : List X) : Type 0 where
    pub front : List X
    pub back : List X
    pub x : X
    pub y : X
    pub are_free : free x y ≡ true
    pub before : xs ≡ front ++ x ∷ y ∷ back
    pub after : ys ≡ front ++ y ∷ x ∷ back

  -- A number of swaps, possibly 0, turns the first list into the second.
  pub data Reordered (xs : List X) : List X → Type 0 where
    unmoved : Reordered xs xs
    swapped : {ys zs : List X} → Reordered xs ys → Swapped ys zs → Reordered xs zs

  -- No two of the chosen items are free with each other.
  abbrev pub NoneFree : (X → Bool) → Type 0
  NoneFree chosen = (x y : X) → chosen x ≡ true → chosen y ≡ true → free x y ≡ false

-- Which items are free with each other, and which of two items has the smaller key.
pub record Swaps (X : Type 0) : Type 0 where
  pub free : X → X → Bool
  pub less : X → X → Bool

-- Freeness is symmetric, `less` is a strict order, and it compares any two items that are free with
-- each other. Items that are not free with each other may have equal keys.
pub record AreSwaps {X : Type 0} (s : Swaps X) : Type 0 where
  pub both_ways : BothWays s.free
  pub apart : (x y : X) → s.free x y ≡ true → (s.less x y ≡ true) ⊎ (s.less y x ≡ true)
  pub less_itself : (x : X) → s.less x x ≡ true → ⊥
  pub less_on : (x y z : X) → s.less x y ≡ true → s.less y z ≡ true → s.less x z ≡ true

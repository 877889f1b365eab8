-- The list in order among all lists that swaps of free neighbours lead to: the lexicographic normal
-- form of a trace (Mazurkiewicz).
use Rattle.std.specs.Prelude.{◌≡◌, Bool, true, cond, ◌&&◌, List, [], ◌∷◌, ◌++◌}
use Rattle.dap_order.specs.Swaps.{Swaps}

module _ {X : Type 0} (s : Swaps X) where
  -- The item is free with each item of the list.
  abbrev pub all_free : X → List X → Bool
  all_free x [] = true
  all_free x (y ∷ ys) = s.free x y && all_free x ys

  -- If an item has a smaller key than an earlier one, it is not free with all items from the
  -- earlier one up to itself.
  pub record IsOrdered (xs : List X) : Type 0 where
    pub none : (front between back : List X) (x y : X)
        → xs ≡ front ++ x ∷ (between ++ y ∷ back) → all_free y (x ∷ between) ≡ true
        → s.less y x ≡ true → ⊥

  -- The new item x goes before y, where y followed by ys is the end of the list.
  abbrev pub goes_before : X → X → List X → Bool
  goes_before x y ys = all_free x (y ∷ ys) && s.less x y

  -- The list with a new item inserted. The item moves from the end past the items that it is free
  -- with. It is inserted before the first of them that has a greater key, or at the end if none of
  -- them has a greater key.
  abbrev pub put : List X → X → List X
  put [] x = x ∷ []
  put (y ∷ ys) x = cond (goes_before x y ys) (x ∷ y ∷ ys) (y ∷ put ys x)

  -- The list `done` with these items inserted, one after the other.
  abbrev pub put_all : List X → List X → List X
  put_all done [] = done
  put_all done (x ∷ xs) = put_all (put done x) xs

  -- The items in order.
  abbrev pub order : List X → List X
  order xs = put_all [] xs

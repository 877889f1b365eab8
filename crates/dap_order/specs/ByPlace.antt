-- The places of a list, ordered in the same way as its items.
use Rattle.std.specs.Prelude.{ℕ, suc, Bool, true, false, cond, ◌&&◌, ◌||◌, List, [], ◌∷◌, ◌++◌}
use Rattle.std.specs.Prelude.{Option, Some, None, nat_lt, option_map, slice_get}
use Rattle.dap_order.specs.{Swaps.Swaps, Answers.Answers}

-- Both items exist and pass the test.
abbrev pub passes_both : {X : Type 0} → (X → X → Bool) → Option X → Option X → Bool
passes_both p None y = false
passes_both p (Some x) None = false
passes_both p (Some x) (Some y) = p x y

-- Two places of a list are free, or ordered, if the items at these places are.
abbrev pub by_place : {X : Type 0} → Swaps X → List X → Swaps ℕ
by_place s xs = record {
  free = λ i j. passes_both s.free (slice_get xs i) (slice_get xs j);
  less = λ i j. passes_both s.less (slice_get xs i) (slice_get xs j);
}

-- The place of the first item that passes the test.
abbrev pub first_place : {X : Type 0} → (X → Bool) → List X → Option ℕ
first_place p [] = None
first_place p (x ∷ xs) = cond (p x) (Some 0) (option_map suc (first_place p xs))

module _ {X C : Type 0} (s : Answers X C) where
  -- The place of the first item in `before` that x answers.
  abbrev pub place_answered : List X → X → Option ℕ
  place_answered before x = first_place (λ y. s.answered_by y x) before

  -- These places for each item of the second list, which follows the first list.
  abbrev pub places_answered_after : List X → List X → List (Option ℕ)
  places_answered_after before [] = []
  places_answered_after before (x ∷ xs) =
      place_answered before x ∷ places_answered_after (before ++ x ∷ []) xs

  abbrev pub places_answered : List X → List (Option ℕ)
  places_answered xs = places_answered_after [] xs

  -- The order of the labels of answers, for items x at i and y at j of one list, by places. The two
  -- optional numbers are the places of the items that x and y answer.
  abbrev pub less_by_place : X → ℕ → Option ℕ → X → ℕ → Option ℕ → Bool
  less_by_place x i None y j None =
      s.classes.less (s.classes.class x) (s.classes.class y)
      || (s.classes.same (s.classes.class x) (s.classes.class y) && nat_lt i j)
  less_by_place x i None y j (Some b) = false
  less_by_place x i (Some a) y j None = true
  less_by_place x i (Some a) y j (Some b) = nat_lt a b

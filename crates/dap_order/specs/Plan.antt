-- The dependences between places: what a plan states, and the swaps that it describes. Source: own.
use Rattle.std.specs.Prelude.{◌≡◌, ℕ, ◌<◌, Bool, true, false, ◌⊎◌, List, [], length, map}
use Rattle.std.specs.List.{All, Contains, slice_index_or, range_with_len}
use Rattle.std.specs.List.Sorted.{IsPermutation}
use Rattle.dap_order.specs.{Swaps.Swaps, declared.plan.Plan.Plan}

module _ (plan : Plan) where
  -- The number of places.
  abbrev pub place_count : ℕ
  place_count = length plan.groups.items

  -- The group of a place.
  abbrev pub group_of : ℕ → ℕ
  group_of place = slice_index_or plan.groups.items place 0

  -- The rows of `blocks`.
  abbrev pub block_rows : List (List Bool)
  block_rows = map (λ row. row.items) plan.blocks.items

  -- The group of the first place blocks the group of the second place.
  abbrev pub is_blocked_by_group : ℕ → ℕ → Bool
  is_blocked_by_group i j =
      slice_index_or (slice_index_or block_rows (group_of i) []) (group_of j) false

  -- The places that a place must follow, in addition to those whose groups block its group.
  abbrev pub followed_by : ℕ → List ℕ
  followed_by place = slice_index_or (map (λ row. row.items) plan.after.items) place []

  -- The place with this rank in the order of the keys.
  abbrev pub place_at_rank : ℕ → ℕ
  place_at_rank rank = slice_index_or plan.by_key.items rank 0

  -- All parts have the same number of places and the same number of groups. Places follow only
  -- earlier places, and each place has exactly one rank.
  pub record IsWellFormed : Type 0 where
    pub groups_in_range : All (λ group. group < length plan.blocks.items) plan.groups.items
    pub square : All (λ row. length row ≡ length plan.blocks.items) block_rows
    pub after_len : length plan.after.items ≡ place_count
    pub earlier : (place : ℕ) → place < place_count → All (λ a. a < place) (followed_by place)
    pub ranks : IsPermutation (range_with_len 0 place_count) plan.by_key.items

module _ (s : Swaps ℕ) (plan : Plan) where
  -- Place j must follow place i. One of these holds: the group of i blocks that of j; j follows i
  -- by the plan; j follows by the plan a place after i that is not free with i.
  abbrev pub HasToFollow : ℕ → ℕ → Type 0
  HasToFollow i j = (is_blocked_by_group plan i j ≡ true)
      ⊎ ((a : ℕ) × Contains (followed_by plan j) a × ((i ≡ a) ⊎ ((i < a) × (s.free i a ≡ false))))

  -- The plan describes these swaps. It has the places in the order of their keys. Two places are
  -- not free with each other if and only if the later one must follow the earlier one.
  pub record IsPlan : Type 0 where
    pub keys : (u v : ℕ) → u < v → v < place_count plan
        → s.less (place_at_rank plan v) (place_at_rank plan u) ≡ false
    pub blocked : (i j : ℕ) → i < j → j < place_count plan → is_blocked_by_group plan i j ≡ true
        → s.free i j ≡ false
    pub waits : (i j : ℕ) → j < place_count plan → Contains (followed_by plan j) i
        → s.free i j ≡ false
    pub complete : (i j : ℕ) → i < j → j < place_count plan → s.free i j ≡ false → HasToFollow i j

-- The inverse lists of a plan, for private clauses.
use Rattle.std.specs.Prelude.{◌≡◌, ℕ, ◌<◌, List, length, Option, Some, None, slice_get, slice_index}
use Rattle.std.specs.List.{All, Contains, slice_index_or}
use Rattle.dap_order.specs.{Plan.{place_count, followed_by, place_at_rank}, declared.plan.Plan.Plan}
use Rattle.dap_order.specs.declared.links.{Cell.Cell, Links.Links}

-- The numbers are the ranks of the places: each place is in `by_key` at its rank.
pub record AreRanks (plan : Plan) (ranks : List ℕ) : Type 0 where
  pub len : length ranks ≡ place_count plan
  pub in_range : (place : ℕ) → place < place_count plan → slice_index ranks place < place_count plan
  pub at_rank : (place : ℕ) → place < place_count plan
      → place_at_rank plan (slice_index ranks place) ≡ place

-- If there is an index, it is less than n.
abbrev pub IsBelow : ℕ → Option ℕ → Type 0
IsBelow n None = Unit {0}
IsBelow n (Some i) = i < n

-- The list that starts with the cell at this index, if any, contains the place.
pub data HasFrom (cells : List Cell) (place : ℕ) : Option ℕ → Type 0 where
  here : {o : Option ℕ} (i : ℕ) (cell : Cell) → o ≡ Some i → slice_get cells i ≡ Some cell
      → cell.place ≡ place → HasFrom cells place o
  later : {o : Option ℕ} (i : ℕ) (cell : Cell) → o ≡ Some i → slice_get cells i ≡ Some cell
      → HasFrom cells place cell.next → HasFrom cells place o

-- Each list contains only places, and each cell has a smaller index than the cell before it. The
-- list of a place contains every place below `end` that follows it.
pub record FollowBelow (plan : Plan) (firsts : List (Option ℕ)) (cells : List Cell) (end : ℕ)
    : Type 0 where
  pub len : length firsts ≡ place_count plan
  pub first : All (IsBelow (length cells)) firsts
  pub next : (i : ℕ) (cell : Cell) → slice_get cells i ≡ Some cell
      → (cell.place < place_count plan) × IsBelow i cell.next
  pub has : (place follower : ℕ) → follower < end → Contains (followed_by plan follower) place
      → HasFrom cells follower (slice_index_or firsts place None)

-- The lists are the inverse of those of the plan.
pub record AreLinks (plan : Plan) (links : Links) : Type 0 where
  pub ranks : AreRanks plan links.ranks.items
  pub followers : FollowBelow plan links.firsts.items links.cells.items (place_count plan)

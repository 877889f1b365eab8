-- The state while the places of a plan are written one after the other, for private clauses.
use Rattle.std.specs.Prelude.{◌≡◌, ◌≢◌, ℕ, ◌+◌, ◌<◌, ◌≤◌, Bool, true, false, ◌⊎◌, List, [], length}
use Rattle.std.specs.Prelude.{slice_index, nat_lt, ◌-◌, ◌&&◌, not, replicate}
use Rattle.std.specs.{List.{All, AllWithin, Contains, slice_index_or, slice_set}, Ordering.nat_cmp}
use Rattle.std.specs.BTreeSet.{BTreeSet, contains}
use Rattle.dap_order.specs.Plan.{place_count, group_of, block_rows, followed_by, place_at_rank}
use Rattle.dap_order.specs.{declared.plan.Plan.Plan, declared.links.Links.Links}
use Rattle.dap_order.specs.declared.progress.Progress.{Progress}

-- The place has been written.
abbrev pub is_written : List Bool → ℕ → Bool
is_written written place = slice_index_or written place false

-- The set contains the rank.
abbrev pub HasRank : BTreeSet ℕ → ℕ → Type 0
HasRank ready rank = contains nat_cmp ready rank ≡ true

-- The set is empty.
abbrev pub HasNoRank : BTreeSet ℕ → Type 0
HasNoRank ready = (rank : ℕ) → HasRank ready rank → ⊥

module _ (plan : Plan) where
  -- The group of the place blocks this group.
  abbrev pub blocks_group : ℕ → ℕ → Bool
  blocks_group place group =
      slice_index_or (slice_index_or (block_rows plan) (group_of plan place) []) group false

  -- All places before this one whose group blocks this group have been written.
  abbrev pub IsUnblocked : List Bool → ℕ → ℕ → Type 0
  IsUnblocked written group place = (i : ℕ) → i < place → blocks_group i group ≡ true
      → is_written written i ≡ true

  -- The group of the place immediately before this one blocks this group, and that place has not
  -- been written.
  abbrev pub is_held : List Bool → ℕ → ℕ → Bool
  is_held written group place = nat_lt 0 place
      && (not (is_written written (place - 1)) && blocks_group (place - 1) group)

  -- The place has not been written, but all places that it must follow by the plan have been.
  pub record IsReadyPlace (written : List Bool) (place : ℕ) : Type 0 where
    pub in_range : place < place_count plan
    pub not_written : is_written written place ≡ false
    pub unblocked : IsUnblocked written (group_of plan place) place
    pub followed : All (λ a. is_written written a ≡ true) (followed_by plan place)

  -- `released` and `seen` are lower bounds: the counted places are released or written, but others
  -- may be too. `ready` contains only ranks of ready places.
  pub record Stands (p : Progress) : Type 0 where
    pub written_len : length p.written.items ≡ place_count plan
    pub released_len : length p.released.items ≡ length plan.blocks.items
    pub seen_len : length p.seen.items ≡ place_count plan
    pub released_max : (group : ℕ) → slice_index p.released.items group ≤ place_count plan
    pub released : (group place : ℕ) → place < slice_index p.released.items group
        → IsUnblocked p.written.items group place
    pub seen_max : (place : ℕ) → slice_index p.seen.items place ≤ length (followed_by plan place)
    pub seen : (place : ℕ) → AllWithin (λ a. is_written p.written.items a ≡ true)
        (followed_by plan place) 0 (slice_index p.seen.items place)
    pub ready_max : (rank : ℕ) → HasRank p.ready rank → rank < place_count plan
    pub ready : (rank : ℕ) → HasRank p.ready rank
        → IsReadyPlace p.written.items (place_at_rank plan rank)

  -- The places of the group from `released` on are blocked by a place that has not been written.
  abbrev pub IsReleased : Progress → ℕ → Type 0
  IsReleased p group = (slice_index p.released.items group ≡ place_count plan)
      ⊎ ((i : ℕ) × (i + 1 ≡ slice_index p.released.items group) × (blocks_group i group ≡ true)
      × (is_written p.written.items i ≡ false))

  -- Each group is released, unless its first place that is not released is `next`.
  abbrev pub AreReleasedBut : Progress → ℕ → Type 0
  AreReleasedBut p next = (group : ℕ) → group < length plan.blocks.items
      → slice_index p.released.items group ≢ next → IsReleased p group

  -- If the place is released but not written, and its list in `after` has been written, the set
  -- contains its rank.
  abbrev pub IsListed : Links → Progress → ℕ → Type 0
  IsListed links p place = is_written p.written.items place ≡ false
      → place < slice_index p.released.items (group_of plan place)
      → All (λ a. is_written p.written.items a ≡ true) (followed_by plan place)
      → HasRank p.ready (slice_index links.ranks.items place)

  -- One place was considered, and nothing else changed.
  pub record Considered (links : Links) (old new : Progress) (place : ℕ) : Type 0 where
    pub represents : Stands new
    pub written : new.written.items ≡ old.written.items
    pub released : new.released.items ≡ old.released.items
    pub kept : (rank : ℕ) → HasRank old.ready rank → HasRank new.ready rank
    pub listed : IsListed links new place

  -- One place was released if it is of this group, and nothing else changed.
  pub record ReleasedPlace (links : Links) (old new : Progress) (group place : ℕ) : Type 0 where
    pub represents : Stands new
    pub written : new.written.items ≡ old.written.items
    pub released : new.released.items ≡ slice_set old.released.items group (place + 1)
    pub listed : (other : ℕ) → other < place_count plan → IsListed links old other
        → IsListed links new other

  -- Places of one group were released, and nothing else changed.
  pub record Released (links : Links) (old new : Progress) (group : ℕ) : Type 0 where
    pub represents : Stands new
    pub written : new.written.items ≡ old.written.items
    pub others : (other : ℕ) → other ≢ group
        → slice_index new.released.items other ≡ slice_index old.released.items other
    pub done : IsReleased new group
    pub listed : (place : ℕ) → place < place_count plan → IsListed links old place
        → IsListed links new place

  -- Places of all groups below `end` were released, and nothing else changed.
  pub record ReleasedBelow (links : Links) (old new : Progress) (end : ℕ) : Type 0 where
    pub represents : Stands new
    pub written : new.written.items ≡ old.written.items
    pub done : (group : ℕ) → group < end → IsReleased new group
    pub listed : (place : ℕ) → place < place_count plan → IsListed links old place
        → IsListed links new place

  -- The followers of the place were considered, and nothing else changed.
  pub record ConsideredFollowers (links : Links) (old new : Progress) (place : ℕ) : Type 0 where
    pub represents : Stands new
    pub written : new.written.items ≡ old.written.items
    pub released : new.released.items ≡ old.released.items
    pub kept : (rank : ℕ) → HasRank old.ready rank → HasRank new.ready rank
    pub listed : (other : ℕ) → other < place_count plan → Contains (followed_by plan other) place
        → IsListed links new other

  -- The ready place with the smallest rank was written, and its rank was removed.
  pub record Wrote (old new : Progress) (place : ℕ) : Type 0 where
    pub represents : Stands new
    pub rank : ℕ
    pub has_rank : place_at_rank plan rank ≡ place
    pub rank_max : rank < place_count plan
    pub was_ready : IsReadyPlace old.written.items place
    pub least : (other : ℕ) → HasRank old.ready other → rank ≤ other
    pub written : new.written.items ≡ slice_set old.written.items place true
    pub released : new.released.items ≡ old.released.items
    pub kept : (other : ℕ) → other ≢ rank → HasRank old.ready other → HasRank new.ready other

  -- No place has been written or released.
  pub record StartsAt (p : Progress) : Type 0 where
    pub represents : Stands p
    pub written : p.written.items ≡ replicate (place_count plan) false
    pub released : (group : ℕ) → slice_index p.released.items group ≡ 0

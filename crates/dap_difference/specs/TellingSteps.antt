-- The effects of the steps of finding differences.
use Rattle.std.specs.Prelude.{◌≡◌, ℕ, false, List, ◌∷◌, ◌++◌, map, String, string_bytes}
use Rattle.std.specs.Prelude.{Option, Some, None}
use Rattle.std.specs.Borrow.{Bor}
use Rattle.std.specs.Cmp.Lexicographic.{slice_cmp}
use Rattle.std.specs.Ordering.{nat_cmp, is_gt}
use Rattle.std.specs.declared.alloc.Global.{Global}
use Rattle.dap_tree.specs.Doc.{Doc, Members, no_members, member}
use Rattle.dap_tree.specs.View.{members_view}
use Rattle.dap_tree.specs.declared.tree.Tree.{Tree}
use Rattle.dap_difference.specs.Differences.{Difference}
use Rattle.dap_difference.specs.Telling.{from_member, below}
use Rattle.dap_difference.specs.Shown.{path_of, shown_differences}
use Rattle.dap_difference.specs.declared.difference.Step.{Step}
use Rattle.dap_difference.specs.declared.difference.Difference.{Difference as CodeDifference}

-- These differences, at paths that start with the given one, are appended.
abbrev pub Appends : List Step → List CodeDifference → List CodeDifference → List Difference
    → Type 0
Appends steps old new xs = shown_differences new ≡ shown_differences old
    ++ map (below (path_of steps)) xs

-- The members that were passed are below the name, and are appended. With the remaining members,
-- the differences from that name on are the same as with all members.
abbrev pub PassesLower : List ℕ → List Step → List (String Global × Tree)
    → List (String Global × Tree) → List CodeDifference → List CodeDifference → Type 0
PassesLower k steps all left old new = (d : Doc) (differ : Doc → List Difference)
    (rest : Members → List Difference)
    → shown_differences new
    ++ map (below (path_of steps)) (from_member k d differ rest (members_view left))
    ≡ shown_differences old
    ++ map (below (path_of steps)) (from_member k d differ rest (members_view all))

-- The first of the members is not below the name.
abbrev pub HasNoLower : List ℕ → Members → Type 0
HasNoLower k no_members = Unit {0}
HasNoLower k (member l e ns) = is_gt (slice_cmp nat_cmp k l) ≡ false

-- The first of the members has another name.
abbrev pub HasOtherFirst : List ℕ → Members → Type 0
HasOtherFirst k no_members = Unit {0}
HasOtherFirst k (member l e ns) = l ≡ k → ⊥

-- The first of the members is returned and removed if it has the name; otherwise, nothing is
-- removed.
abbrev pub TakesNamed : List ℕ → List (String Global × Tree) → List (String Global × Tree)
    → Option (Bor Tree) → Type 0
TakesNamed k old new (Some t) = (m : String Global) × (string_bytes m ≡ k)
    × (old ≡ (m, t.now) ∷ new)
TakesNamed k old new None = (new ≡ old) × HasOtherFirst k (members_view old)

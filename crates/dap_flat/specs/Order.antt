-- For private clauses: members that are read one after another (own).
use Rattle.std.specs.Prelude.{◌≡◌, ℕ, List, Option, Some, None, true, false}
use Rattle.std.specs.{Ordering.{nat_cmp, is_lt}, Cmp.Lexicographic.slice_cmp}
use Rattle.dap_tree.specs.Doc.{Doc, Items, no_items, item, Members, no_members, member}

-- The name is greater than the last one, if there is one.
abbrev pub IsAbove : Option (List ℕ) → List ℕ → Type 0
IsAbove None k = Unit {0}
IsAbove (Some l) k = is_lt (slice_cmp nat_cmp l k) ≡ true

-- There is a last name, and the name is not greater.
abbrev pub IsNotAbove : Option (List ℕ) → List ℕ → Type 0
IsNotAbove None k = ⊥
IsNotAbove (Some l) k = is_lt (slice_cmp nat_cmp l k) ≡ false

-- Each name is less than that one.
abbrev pub AreBelow : Members → List ℕ → Type 0
AreBelow no_members k = Unit {0}
AreBelow (member l d ms) k = (is_lt (slice_cmp nat_cmp l k) ≡ true) × AreBelow ms k

-- A name that is greater than the last one is greater than each.
abbrev pub EndsAt : Option (List ℕ) → Members → Type 0
EndsAt last ms = (k : List ℕ) → IsAbove last k → AreBelow ms k

abbrev pub more_items : Items → Doc → Items
more_items no_items d = item d no_items
more_items (item e ds) d = item e (more_items ds d)

abbrev pub more_members : Members → List ℕ → Doc → Members
more_members no_members k d = member k d no_members
more_members (member l e ms) k d = member l e (more_members ms k d)

-- The members, and others after them.
abbrev pub joined : Members → Members → Members
joined no_members ns = ns
joined (member l e ms) ns = member l e (joined ms ns)

-- The name is less than the first.
abbrev pub IsBefore : List ℕ → Members → Type 0
IsBefore k no_members = Unit {0}
IsBefore k (member l e ms) = is_lt (slice_cmp nat_cmp k l) ≡ true

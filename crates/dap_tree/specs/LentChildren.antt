-- What a tree lends for writing, and the value of the tree after a write.
use Rattle.std.specs.Prelude.{◌≡◌, List, ℕ, Option, String, MatchOption, OnSome}
use Rattle.std.specs.BTreeMap.{BTreeMap}
use Rattle.std.specs.Borrow.{Fml, MutBor, LendsIf, LendsSo}
use Rattle.std.specs.declared.alloc.Global.{Global}
use denote.RattleType.{RattleType}
use Rattle.dap_tree.specs.Doc.{Doc, get, change_child}
use Rattle.dap_tree.specs.Rows.{map_row}
use Rattle.dap_tree.specs.View.{view}
use Rattle.dap_tree.specs.contracts.tree.Tree.{the_row}
use Rattle.dap_tree.specs.declared.tree.Tree.{Tree}
use Rattle.dap_tree.specs.declared.tree.Tree as tree

-- The members are borrowed mutably (own). Afterwards, the owner is an object with the final map; it
-- is unchanged if it is not an object.
abbrev pub LendsMembersOf : (R : RattleType) → (BTreeMap (String Global) Tree → R.Denot)
    → MutBor R.Denot → Option (MutBor (BTreeMap (String Global) Tree)) → Fml
LendsMembersOf R of_members s r = LendsIf R map_row s r of_members s.now

-- The same for a tree.
abbrev pub LendsMembers : MutBor Tree → Option (MutBor (BTreeMap (String Global) Tree)) → Fml
LendsMembers = LendsMembersOf the_row tree.Object

-- The member of that name is borrowed mutably (own). Afterwards, the owner has the final tree in
-- place of that member; it is unchanged if it has no such member.
abbrev pub LendsChildOf : (R : RattleType) → (R.Denot → Doc) → MutBor R.Denot → List ℕ
    → Option (MutBor Tree) → Fml
LendsChildOf R document s k r =
    LendsSo R the_row s r
    (λ n w. OnSome r (document n ≡ change_child k (λ _. view w) (document s.now))) (λ n. document n
    ≡ document s.now)

-- The same for a tree.
abbrev pub LendsChild : MutBor Tree → List ℕ → Option (MutBor Tree) → Fml
LendsChild = LendsChildOf the_row view

-- The step replaced the member of that name by another tree, and nothing else changed (own). If
-- there is no such member, nothing changed.
abbrev pub ChangesBy : (Tree → Tree → Type 0) → List ℕ → Doc → Doc → Type 0
ChangesBy Step k old new =
    MatchOption (get k old) (new ≡ old) (λ d. (t : Tree) × (u : Tree) × (view t ≡ d) × Step t u
    × (new ≡ change_child k (λ _. view u) old))

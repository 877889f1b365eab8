-- The type of an object's members in the logic, for the clauses about what a `&mut` lends.
use denote.RattleType.{RattleType}
use Rattle.std.specs.contracts.alloc.Global as global
use Rattle.std.specs.contracts.string.String as text
use Rattle.std.specs.contracts.collections.BTreeMap as tree
use Rattle.std.specs.contracts.impls.GlobalAllocator.TheImpl.{ghosts}
use Rattle.std.specs.contracts.impls.StringOrd.TheImpl as ord
use Rattle.std.specs.contracts.impls.StringPartialEq.TheImpl as eq
use Rattle.std.specs.contracts.impls.StringPartialOrd.TheImpl as partial_ord
use Rattle.dap_tree.specs.contracts.tree.Tree.{the_row}

-- `BTreeMap<String, Tree>`.
abbrev pub map_row : RattleType
map_row =
    tree.the_row (text.the_row global.the_row ghosts) the_row global.the_row
    (ord.ghosts global.the_row ghosts ord.no_dict ord.no_dict)
    (eq.ghosts global.the_row ghosts eq.no_dict eq.no_dict)
    (partial_ord.ghosts global.the_row ghosts partial_ord.no_dict partial_ord.no_dict) ghosts

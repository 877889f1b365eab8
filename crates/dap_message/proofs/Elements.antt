-- The elements of a borrowed array.
use Rattle.dap_tree.specs.Doc.{Doc}
use Rattle.dap_tree.specs.declared.tree.Tree.{Tree}
use Rattle.dap_tree.specs.View.{items_of, view}
use Rattle.dap_tree.proofs.Views.{view-List}
use Rattle.std.proofs.Common.{◌≡◌, List, [], ◌∷◌, map, refl, ap}
use Rattle.std.specs.declared.alloc.Global.{Global}
use Rattle.std.specs.Prelude.{Vec, Some}
use Rattle.dap_tree.specs.declared.tree.Tree as tree
use Rattle.dap_message.specs.Places.{elements, list_of}

pub elements-items_of : (ds : List Doc) → elements (items_of ds) ≡ ds
elements-items_of [] = refl
elements-items_of (d ∷ ds) = ap (λ es. d ∷ es) (elements-items_of ds)

pub list_view : (v : Vec Tree Global) → list_of (view (tree.List v)) ≡ Some (map view v.items)
list_view v = rw view-List (ap Some (elements-items_of (map view v.items)))

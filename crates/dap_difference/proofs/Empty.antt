-- Two arrays without items, and two objects without members.
use Rattle.std.proofs.Common.{◌≡◌, true, List, [], ◌∷◌, refl, String}
use Rattle.std.specs.declared.alloc.Global.{Global}
use Rattle.dap_tree.specs.Doc.{list, object}
use Rattle.dap_tree.specs.View.{items_view, members_view}
use Rattle.dap_tree.specs.declared.tree.Tree.{Tree}
use Rattle.dap_difference.specs.Telling.{are_empty}

pub empty_items : (ts us : List Tree)
    → are_empty (list (items_view ts)) (list (items_view us)) ≡ true → (ts ≡ []) × (us ≡ [])
empty_items [] [] h = (refl, refl)
empty_items [] (u ∷ us) h = absurd cc
empty_items (t ∷ ts) us h = absurd cc

pub empty_members : (ms ns : List (String Global × Tree))
    → are_empty (object (members_view ms)) (object (members_view ns)) ≡ true
    → (ms ≡ []) × (ns ≡ [])
empty_members [] [] h = (refl, refl)
empty_members [] (n ∷ ns) h = absurd cc
empty_members (m ∷ ms) ns h = absurd cc

-- The elements of an array without those that have a name.
use Rattle.std.proofs.Common.{◌≡◌, ℕ, Bool, true, false, cond, not, List, [], ◌∷◌, Some, refl, ap}
use Rattle.std.specs.List.{filter}
use Rattle.dap_tree.specs.Doc.{item}
use Rattle.dap_tree.specs.View.{view, items_view}
use Rattle.dap_tree.specs.declared.tree.Tree.{Tree}
use Rattle.dap_mask.specs.Omissions.{items_without}
use Rattle.dap_mask.specs.RuleSteps.{is_called}

-- The tree does not have the name.
abbrev pub is_kept : List ℕ → Tree → Bool
is_kept n t = not (is_called (Some n) (Some (view t)))

-- The trees that are kept represent the elements without those that have the name.
pub kept_items : (n : List ℕ) (ts : List Tree)
    → items_view (filter (is_kept n) ts) ≡ items_without n (items_view ts)
kept_items n [] = refl
kept_items n (t ∷ ts) = go (is_called (Some n) (Some (view t))) (kept_items n ts)
  where
    go : (b : Bool) → items_view (filter (is_kept n) ts) ≡ items_without n (items_view ts)
        → items_view (cond (not b) (t ∷ filter (is_kept n) ts) (filter (is_kept n) ts))
        ≡ cond b (items_without n (items_view ts))
        (item (view t) (items_without n (items_view ts)))
    go true h = h
    go false h = ap (item (view t)) h

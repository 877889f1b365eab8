-- For private clauses: a test whether pairs map one document, message or list of messages to
-- another.
use Rattle.std.specs.Prelude.{ℕ, ◌+◌, ℤ, Bool, true, false, ◌&&◌, List, [], ◌∷◌, bytes_eq}
use Rattle.std.specs.Bool.{beq}
use Rattle.std.specs.List.{list_any}
use Rattle.std.specs.Ordering.{int_eq}
use Rattle.dap_tree.specs.Doc.{Doc, null, boolean, whole, text, list, object, id, Items, no_items}
use Rattle.dap_tree.specs.Doc.{item, Members, no_members, member}
use Rattle.dap_tree.specs.Side.{same_side}
use Rattle.dap_message.specs.Message.{Sent}
use Rattle.dap_rename.specs.Messages.{Class, class_after, same_class}
use Rattle.dap_rename.specs.Pairs.{class_of}
use Rattle.dap_rename.specs.Sorts.{same_sort}
use Rattle.dap_rename.specs.declared.pair.Pair.{Pair}

-- Some pair of the class maps x to y.
abbrev pub has_pair : List Pair → Class → ℤ → ℤ → Bool
has_pair ps c x y =
    list_any (λ p. same_class (class_of p) c && (int_eq p.from x && int_eq p.to y)) ps

-- After k stops, the pairs map the first document to the second.
abbrev mutual
  pub carries_doc : List Pair → ℕ → Doc → Doc → Bool
  carries_doc ps k null null = true
  carries_doc ps k (boolean a) (boolean b) = beq a b
  carries_doc ps k (whole x) (whole y) = int_eq x y
  carries_doc ps k (text a) (text b) = bytes_eq a b
  carries_doc ps k (list ds) (list es) = carries_items ps k ds es
  carries_doc ps k (object ms) (object ns) = carries_members ps k ms ns
  carries_doc ps k (id s x) (id t y) = same_sort s t && has_pair ps (class_after k s) x y
  carries_doc ps k d e = false

  pub carries_items : List Pair → ℕ → Items → Items → Bool
  carries_items ps k no_items no_items = true
  carries_items ps k (item d ds) (item e es) = carries_doc ps k d e && carries_items ps k ds es
  carries_items ps k ds es = false

  pub carries_members : List Pair → ℕ → Members → Members → Bool
  carries_members ps k no_members no_members = true
  carries_members ps k (member l d ms) (member m e ns) =
      bytes_eq l m && (carries_doc ps k d e && carries_members ps k ms ns)
  carries_members ps k ms ns = false

abbrev pub carries_sent : List Pair → ℕ → Sent → Sent → Bool
carries_sent ps k m n = same_side m.side n.side && carries_doc ps k m.doc n.doc

-- The same for lists of messages after k stops, where `stop` counts the stops of a message.
abbrev pub carries_list : List Pair → (Sent → ℕ) → ℕ → List Sent → List Sent → Bool
carries_list ps stop k [] [] = true
carries_list ps stop k (m ∷ ms) (n ∷ ns) =
    carries_sent ps k m n && carries_list ps stop (k + stop m) ms ns
carries_list ps stop k ms ns = false

-- The elements that a message lists, as nodes of a flat document. Source: own, over the views of
-- `dap_message`.
use Rattle.std.specs.Prelude.{◌≡◌, ℕ, List, ◌∷◌, [], ◌++◌, filter_map, Option, Some}
use Rattle.std.specs.{Prelude.{option_and_then, codes}, List.flat_map}
use Rattle.dap_tree.specs.Doc.{Doc, Items, get}
use Rattle.dap_message.specs.Places.{elements, list_of}
use Rattle.dap_message.specs.Views.{frame_of, listed, scope_of, variable_of}
use Rattle.dap_flat.specs.{Finding.{Holds, Stand}, Pieces.{end_list, items_pieces}}
use Rattle.dap_flat.specs.declared.node.Node.{Node}
use Rattle.dap_show.specs.Showing.{frame_line, scope_line, variable_line}
use Rattle.dap_show.specs.declared.flat_lines.Element.{Element}
use Rattle.dap_show.specs.declared.flat_lines.Element.TheVariants.{Frame, Scope, Variable}

-- ---- the elements of one kind

-- The command whose response lists the elements, and the name of their array (DAP specification,
-- StackTraceResponse, ScopesResponse and VariablesResponse).
abbrev pub command_name : Element → List ℕ
command_name Frame = codes "stackTrace"
command_name Scope = codes "scopes"
command_name Variable = codes "variables"

abbrev pub array_name : Element → List ℕ
array_name Frame = codes "stackFrames"
array_name Scope = codes "scopes"
array_name Variable = codes "variables"

-- The lines of the elements that have a view.
abbrev pub element_lines : Element → List Doc → List ℕ
element_lines Frame ds = flat_map frame_line (filter_map frame_of ds)
element_lines Scope ds = flat_map scope_line (filter_map scope_of ds)
element_lines Variable ds = flat_map variable_line (filter_map variable_of ds)

-- The elements of the named array in the body, if there is one.
abbrev pub array_in : List ℕ → Doc → Option (List Doc)
array_in name d = option_and_then list_of (option_and_then (get name) (get (codes "body") d))

-- The lines of the elements of this kind that a message lists.
abbrev pub lines_of_kind : Element → Doc → List ℕ
lines_of_kind kind d = element_lines kind (listed (command_name kind) (array_name kind) d)

-- ---- elements among nodes

-- The value that the function has for the named member of the document that starts there.
abbrev pub IsMemberValue : {X : Type 0} → (Option Doc → Option X) → List Node → ℕ → List ℕ → X
    → Type 0
IsMemberValue value ns at k x = (d : Doc) → Holds ns at d → value (get k d) ≡ Some x

-- The view of the document that starts there.
abbrev pub IsViewedAs : {X : Type 0} → (Doc → Option X) → List Node → ℕ → X → Type 0
IsViewedAs view_of ns at x = (d : Doc) → Holds ns at d → view_of d ≡ Some x

-- These elements, and the end of their array, start there.
abbrev pub AreElements : List Node → ℕ → Items → Type 0
AreElements ns from ds = Stand ns from (items_pieces ds ++ end_list ∷ [])

-- The elements of the named array in the body of the document start there.
abbrev pub StartsElements : List Node → List ℕ → ℕ → Type 0
StartsElements ns name from = (d : Doc) → Holds ns 0 d
    → (ds : Items) × (array_in name d ≡ Some (elements ds)) × AreElements ns from ds

-- The lines of the elements that start there were appended.
abbrev pub AppendsElements : Element → List Node → ℕ → List ℕ → List ℕ → Type 0
AppendsElements kind ns from old new = (ds : Items) → AreElements ns from ds
    → new ≡ old ++ element_lines kind (elements ds)

-- For a loop: the lines of the elements before p were appended.
pub record ElementsLeft (kind : Element) (ns : List Node) (p : ℕ) (old now : List ℕ) (ds : Items) :
    Type 0 where
  pub left : Items
  pub holds : AreElements ns p left
  pub lines_are : old ++ element_lines kind (elements ds)
      ≡ now ++ element_lines kind (elements left)

abbrev pub AreElementsLeft : Element → List Node → ℕ → ℕ → List ℕ → List ℕ → Type 0
AreElementsLeft kind ns from p old now = (ds : Items) → AreElements ns from ds
    → ElementsLeft kind ns p old now ds

-- The declared ids of a document, and the document with names in their place.
use Rattle.std.specs.Prelude.{ℕ, suc, ℤ, pos, negsuc, Bool, true, false, cond, not, ◌&&◌}
use Rattle.std.specs.Prelude.{List, [], ◌∷◌, ◌++◌, Option, Some, None, codes, bytes_eq, decimal}
use Rattle.dap_tree.specs.Doc.{Doc, null, boolean, whole, text, list, object, id, Items, no_items}
use Rattle.dap_tree.specs.Doc.{item, Members, no_members, member}
use Rattle.dap_mask.specs.RuleSteps.{RuleStep, named as to_member, elements, is_called}
use Rattle.dap_mask.specs.Rules.{is_for_names}
use Rattle.dap_tokens.specs.{Naming.{Id, Numbering, ids, named}, Tokens.is_label}
use Rattle.dap_tokens.specs.{Models.same_form, Values.is_nothing}
use Rattle.dap_tokens.specs.declared.form.Form.{Form}
use Rattle.dap_tokens.specs.declared.form.Form.TheVariants.{Whole}

-- A rule that declares ids (own): their place below a value, the form of their tokens, and their
-- label.
pub record Declared : Type 0 where
  pub place : List RuleStep
  pub form : Form
  pub label : List ℕ

-- The steps after the first.
abbrev pub after_first : List RuleStep → List RuleStep
after_first [] = []
after_first (step ∷ steps) = steps

-- The rule without the first step of its place.
abbrev pub after_step : Declared → Declared
after_step r = record { place = after_first r.place; form = r.form; label = r.label }

-- The place is that of the value itself.
abbrev pub is_here : List RuleStep → Bool
is_here [] = true
is_here (step ∷ steps) = false

-- The labels that rules give to the forms of a value itself: each is that of the first rule for the
-- form.
abbrev pub here : List Declared → Form → Option (List ℕ)
here [] form = None
here (r ∷ rs) form = cond (is_here r.place && same_form r.form form) (Some r.label) (here rs form)

-- The first step is to the member of this name.
abbrev pub is_to_member : List ℕ → List RuleStep → Bool
is_to_member k [] = false
is_to_member k (to_member l ∷ steps) = bytes_eq k l
is_to_member k (elements n ∷ steps) = false

-- The rules for the member of this name.
abbrev pub below : List ℕ → List Declared → List Declared
below k [] = []
below k (r ∷ rs) = cond (is_to_member k r.place) (after_step r ∷ below k rs) (below k rs)

-- The first step is to this element of an array.
abbrev pub is_to_element : Doc → List RuleStep → Bool
is_to_element d [] = false
is_to_element d (to_member k ∷ steps) = false
is_to_element d (elements n ∷ steps) = is_called n (Some d)

-- The rules for this element of an array.
abbrev pub inside : Doc → List Declared → List Declared
inside d [] = []
inside d (r ∷ rs) = cond (is_to_element d r.place) (after_step r ∷ inside d rs) (inside d rs)

-- The text of an integer (JSON).
abbrev pub integer_text : ℤ → List ℕ
integer_text (pos n) = decimal n
integer_text (negsuc n) = codes "-" ++ decimal (suc n)

-- The ids of an integer with this label. An integer is an id only as a whole, and 0 is none.
abbrev pub ids_of_whole : Option (List ℕ) → ℤ → List Id
ids_of_whole None z = []
ids_of_whole (Some label) z =
    cond (is_nothing (integer_text z)) [] ((label, integer_text z) ∷ [])

-- The declared ids of a document, in the order of its text (own).
abbrev mutual
  pub ids_of : List Declared → Doc → List Id
  ids_of rs null = []
  ids_of rs (boolean b) = []
  ids_of rs (whole z) = ids_of_whole (here rs Whole) z
  ids_of rs (text s) = ids (here rs) s
  ids_of rs (list ds) = items_ids rs ds
  ids_of rs (object ms) = members_ids rs ms
  ids_of rs (id sort z) = []

  pub items_ids : List Declared → Items → List Id
  items_ids rs no_items = []
  items_ids rs (item d ds) = ids_of (inside d rs) d ++ items_ids rs ds

  pub members_ids : List Declared → Members → List Id
  members_ids rs no_members = []
  members_ids rs (member k d ms) = ids_of (below k rs) d ++ members_ids rs ms

abbrev pub named_whole : Option (List ℕ) → Numbering → ℤ → ℤ
named_whole None number z = z
named_whole (Some label) number z =
    cond (is_nothing (integer_text z)) z (pos (number label (integer_text z)))

-- The document with each declared id replaced by its name (own): an integer by its number, and
-- a token of a string by `<LABEL NUMBER>`.
abbrev mutual
  pub named_doc : List Declared → Numbering → Doc → Doc
  named_doc rs number null = null
  named_doc rs number (boolean b) = boolean b
  named_doc rs number (whole z) = whole (named_whole (here rs Whole) number z)
  named_doc rs number (text s) = text (named (here rs) number s)
  named_doc rs number (list ds) = list (named_items rs number ds)
  named_doc rs number (object ms) = object (named_members rs number ms)
  named_doc rs number (id sort z) = id sort z

  pub named_items : List Declared → Numbering → Items → Items
  named_items rs number no_items = no_items
  named_items rs number (item d ds) =
      item (named_doc (inside d rs) number d) (named_items rs number ds)

  pub named_members : List Declared → Numbering → Members → Members
  named_members rs number no_members = no_members
  named_members rs number (member k d ms) =
      member k (named_doc (below k rs) number d) (named_members rs number ms)

-- The document with each id replaced by the name of 1.
abbrev pub skeleton_doc : List Declared → Doc → Doc
skeleton_doc rs d = named_doc rs (λ label v. 1) d

-- ---- the rules that can be used together

-- No rule changes the `name` of an element, by which rules select elements, and each label is one.
abbrev pub are_sound : List Declared → Bool
are_sound [] = true
are_sound (r ∷ rs) = not (is_for_names r.place) && (is_label r.label && are_sound rs)

-- Naming the nodes of flat documents in their place (own).
use Rattle.std.specs.Prelude.{◌≡◌, ◌&&◌, ℕ, ℤ, ◌+◌, ◌==◌, Bool, true, false, cond, ◌||◌, List, []}
use Rattle.std.specs.Prelude.{◌∷◌, ◌++◌, length, Option, Some, None, is_some}
use Rattle.dap_tree.specs.Doc.{Doc, Items, Members, whole}
use Rattle.dap_tokens.specs.Naming.{Id, Numbering}
use Rattle.dap_tokens.specs.Tokens.{Labels}
use Rattle.dap_tokens.specs.declared.form.Form.TheVariants.{Whole, Digits, Long, Uuid}
use Rattle.dap_flat.specs.{declared.node.Node.Node, Finding.{Holds, Stand}}
use Rattle.dap_flat.specs.Pieces.{Piece, leaf, end_list, end_object, pieces, items_pieces}
use Rattle.dap_flat.specs.Pieces.{members_pieces, Represents}
use Rattle.dap_flat_message.specs.Marking.{Replaced}
use Rattle.dap_mask.specs.{Declarations.Declaration, Index.asks_for}
use Rattle.dap_mask.specs.RuleSteps.{RuleStep, named as to_member, elements}
use Rattle.dap_naming.specs.Documents.{Declared, after_step, here, ids_of, items_ids, members_ids}
use Rattle.dap_naming.specs.Documents.{ids_of_whole, named_doc, named_items, named_members}
use Rattle.dap_naming.specs.Documents.{named_whole}
use Rattle.dap_naming.specs.Known.{FitsLimit, Names}
use Rattle.dap_naming.specs.Sessions.{rules_for}
use Rattle.dap_naming.specs.declared.value_numbers.ValueNumbers.{ValueNumbers}

-- The nodes `after` represent the document of the nodes `before` with each declared id replaced by
-- its name, and `new` knows the ids of `old` and then those of the document.
abbrev pub NamesNodes : ValueNumbers → ValueNumbers → List Declaration → List Node → List Node
    → Type 0
NamesNodes old new xs before after = (d : Doc) → Represents before d
    → Names old new (ids_of (rules_for xs d) d)
    (λ number. Represents after (named_doc (rules_for xs d) number d))

-- If no label of the ids so far has more values than the limit, then none has with the ids of the
-- document of the nodes.
abbrev pub FitsNodes : ValueNumbers → List Declaration → List Node → Type 0
FitsNodes numbers xs nodes =
    (d : Doc) → Represents nodes d → FitsLimit numbers (ids_of (rules_for xs d) d)

-- No declaration applies to the document of the nodes.
abbrev pub NoneApply : List Declaration → List Node → Type 0
NoneApply xs nodes = (d : Doc) → Represents nodes d → rules_for xs d ≡ []

-- ---- for private clauses: the ids of a part

-- `new` knows the ids of `old` and then the ids `js`, the property holds of the numbers of the ids,
-- and no label has more values than the limit.
pub record NamesWithin (old new : ValueNumbers) (js : List Id) (P : Numbering → Type 0) : Type 0
  where
    pub names : Names old new js P
    pub few : FitsLimit old js

-- Some pieces, their declared ids, and the pieces with names in the place of the ids.
pub record Stretch : Type 0 where
  pub pieces : List Piece
  pub ids : List Id
  pub named : Numbering → List Piece

abbrev pub of_doc : List Declared → Doc → Stretch
of_doc rs d = record {
  pieces = pieces d;
  ids = ids_of rs d;
  named = λ number. pieces (named_doc rs number d);
}

-- The items of a list, and its end.
abbrev pub of_items : List Declared → Items → Stretch
of_items rs ds = record {
  pieces = items_pieces ds ++ end_list ∷ [];
  ids = items_ids rs ds;
  named = λ number. items_pieces (named_items rs number ds) ++ end_list ∷ [];
}

-- The members of an object, and its end.
abbrev pub of_members : List Declared → Members → Stretch
of_members rs ms = record {
  pieces = members_pieces ms ++ end_object ∷ [];
  ids = members_ids rs ms;
  named = λ number. members_pieces (named_members rs number ms) ++ end_object ∷ [];
}

-- The pieces that start at `at` are replaced by those with names.
abbrev pub NamesStretch : ValueNumbers → ValueNumbers → List Node → List Node → ℕ → Stretch
    → Type 0
NamesStretch old new before after at s =
    (qs : List Piece) × Replaced before after at s.pieces qs
    × NamesWithin old new s.ids (λ number. qs ≡ s.named number)

-- The document that starts at `at` is named by the rules.
abbrev pub NamesValue : List Declared → ValueNumbers → ValueNumbers → List Node → List Node → ℕ
    → Type 0
NamesValue rs old new before after at =
    (d : Doc) → Holds before at d → NamesStretch old new before after at (of_doc rs d)

abbrev pub NamesItems : List Declared → ValueNumbers → ValueNumbers → List Node → List Node → ℕ
    → Type 0
NamesItems rs old new before after at = (ds : Items) → Stand before at (of_items rs ds).pieces
    → NamesStretch old new before after at (of_items rs ds)

abbrev pub NamesMembers : List Declared → ValueNumbers → ValueNumbers → List Node → List Node → ℕ
    → Type 0
NamesMembers rs old new before after at = (ms : Members)
    → Stand before at (of_members rs ms).pieces
    → NamesStretch old new before after at (of_members rs ms)

-- For a loop: the pieces before p are named, and `left` starts at p.
pub record SoFar (old now : ValueNumbers) (before after : List Node) (from p : ℕ)
    (all left : Stretch) : Type 0 where
  pub put : List Piece
  pub done : List Id
  pub ids : all.ids ≡ done ++ left.ids
  pub here : p ≡ from + length put
  pub replaced : Replaced before after from all.pieces (put ++ left.pieces)
  pub names : NamesWithin old now done (λ number. all.named number ≡ put ++ left.named number)

abbrev pub ItemsSoFar : List Declared → ValueNumbers → ValueNumbers → List Node → List Node → ℕ
    → ℕ → Type 0
ItemsSoFar rs old now before after from p = (ds : Items)
    → Stand before from (of_items rs ds).pieces
    → (left : Items) × SoFar old now before after from p (of_items rs ds) (of_items rs left)

abbrev pub MembersSoFar : List Declared → ValueNumbers → ValueNumbers → List Node → List Node → ℕ
    → ℕ → Type 0
MembersSoFar rs old now before after from p = (ms : Members)
    → Stand before from (of_members rs ms).pieces
    → (left : Members) × SoFar old now before after from p (of_members rs ms) (of_members rs left)

-- ---- for private clauses: one node

-- The integer z is replaced by the integer of the piece.
abbrev pub NamesWhole : Option (List ℕ) → ValueNumbers → ValueNumbers → ℤ → Piece → Type 0
NamesWhole label old new z p = (y : ℤ) × (p ≡ leaf (whole y))
    × NamesWithin old new (ids_of_whole label z) (λ number. y ≡ named_whole label number z)

-- The piece p is a value without parts, and q is the value with names.
abbrev pub NamesLeaf : List Declared → ValueNumbers → ValueNumbers → Piece → Piece → Type 0
NamesLeaf rs old new p q = (d : Doc) × (p ≡ leaf d) × (e : Doc) × (q ≡ leaf e)
    × NamesWithin old new (ids_of rs d) (λ number. e ≡ named_doc rs number d)

-- The property holds for all lists of rules that give these labels to a value itself.
abbrev pub WithLabels : Labels → (List Declared → Type 0) → Type 0
WithLabels labels P = (rs : List Declared) → labels ≡ here rs → P rs

-- The byte is the first of a name, `<`, or the second of a hexadecimal number, `x` or `X` after
-- `0`.
abbrev pub is_sign : Bool → ℕ → Bool
is_sign after_zero b = (b == 60) || (after_zero && ((b == 120) || (b == 88)))

-- The text may have hexadecimal numbers or names. The flag is set if the byte before it is `0`.
abbrev pub may_have_hex : Bool → List ℕ → Bool
may_have_hex after_zero [] = false
may_have_hex after_zero (b ∷ s) = is_sign after_zero b || may_have_hex (b == 48) s

-- A form other than that of hexadecimal numbers has a label.
abbrev pub has_others : Labels → Bool
has_others labels = is_some (labels Whole)
    || (is_some (labels Digits) || (is_some (labels Long) || is_some (labels Uuid)))

-- The text may have tokens.
abbrev pub may_have_tokens : Labels → List ℕ → Bool
may_have_tokens labels s = has_others labels || may_have_hex false s

-- ---- for private clauses: elements by their name

-- The first step is to an element with this name; `None` is an element without a name.
abbrev pub is_to_named : Option (List ℕ) → List RuleStep → Bool
is_to_named t [] = false
is_to_named t (to_member k ∷ steps) = false
is_to_named t (elements n ∷ steps) = asks_for n t

-- The rules for an element with this name.
abbrev pub inside_named : Option (List ℕ) → List Declared → List Declared
inside_named t [] = []
inside_named t (r ∷ rs) =
    cond (is_to_named t r.place) (after_step r ∷ inside_named t rs) (inside_named t rs)

-- The first step is to the elements with one name.
abbrev pub names_element : List RuleStep → Bool
names_element [] = false
names_element (to_member k ∷ steps) = false
names_element (elements None ∷ steps) = false
names_element (elements (Some n) ∷ steps) = true

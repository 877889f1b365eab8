-- Words in the place of texts in all strings of a message.
use Rattle.std.specs.Prelude.{◌≡◌, ℕ, Bool, true, false, cond, ◌&&◌, ◌||◌, List, [], ◌∷◌}
use Rattle.std.specs.Prelude.{option_map, bytes_eq, codes}
use Rattle.dap_tree.specs.Doc.{Doc, null, boolean, whole, text, list, object, id, Items, no_items}
use Rattle.dap_tree.specs.Doc.{item, Members, no_members, member}
use Rattle.dap_tree.specs.Path.{Step, name, place, at}
use Rattle.dap_message.specs.Marks.{top}
use Rattle.dap_words.specs.Words.{Pair, replaced}
use Rattle.dap_words.specs.Machines.{Piece, written_by, AreFoundAtPlaces}

-- The member names the kind of the message (DAP specification, ProtocolMessage, Request, Event): it
-- is `type`, `command` or `event`. No word is put into it.
abbrev pub names_its_kind : List ℕ → Bool
names_its_kind k = bytes_eq k (codes "type") || (bytes_eq k (codes "command") || bytes_eq k (codes "event"))

-- A document with words in the place of texts in every string (own). Numbers, ids, names of members
-- and the structure are unchanged. In a message, the members that name its kind are unchanged too.
-- The flag says whether the document is a message, or only a part of one.
abbrev mutual
  pub worded : List Pair → Bool → Doc → Doc
  worded pairs m null = null
  worded pairs m (boolean b) = boolean b
  worded pairs m (whole z) = whole z
  worded pairs m (text s) = text (replaced pairs s)
  worded pairs m (list ds) = list (items_worded pairs ds)
  worded pairs m (object ms) = object (members_worded pairs m ms)
  worded pairs m (id s z) = id s z

  pub items_worded : List Pair → Items → Items
  items_worded pairs no_items = no_items
  items_worded pairs (item d ds) = item (worded pairs false d) (items_worded pairs ds)

  pub members_worded : List Pair → Bool → Members → Members
  members_worded pairs m no_members = no_members
  members_worded pairs m (member k d ms) =
      member k (cond (m && names_its_kind k) d (worded pairs false d)) (members_worded pairs m ms)

-- A message with words in the place of texts.
abbrev pub worded_message : List Pair → Doc → Doc
worded_message pairs d = worded pairs true d

-- ---- the same path by path

-- The path leads into a member that names the kind of the message.
abbrev pub is_in_kind : Bool → List Step → Bool
is_in_kind m [] = false
is_in_kind m (name k ∷ p) = m && names_its_kind k
is_in_kind m (place n ∷ p) = false

-- One value with words in the place of texts: only a string changes.
abbrev pub leaf : List Pair → Doc → Doc
leaf pairs (text s) = text (replaced pairs s)
leaf pairs d = d

-- The document e is the message d with words in the place of texts (own): at each path, e has the
-- value of d, and if it is a string outside `type`, `command` and `event`, the words are put into
-- it. For an array, `top` is the number of elements, and for an object the names of its members.
unfoldable pub IsWorded : List Pair → Doc → Doc → Type 0
IsWorded pairs d e = (p : List Step) → option_map top (at p e)
    ≡ option_map (λ x. top (cond (is_in_kind true p) x (leaf pairs x))) (at p d)

-- ---- documents of two machines

-- The two strings are equal except for texts of each machine, which a reader from left to right
-- finds exactly at their places.
pub record SameButTexts (pairs others : List Pair) (s t : List ℕ) : Type 0 where
  pub pieces : List Piece
  pub one : s ≡ written_by pairs pieces
  pub other : t ≡ written_by others pieces
  pub found : AreFoundAtPlaces pairs pieces
  pub found_other : AreFoundAtPlaces others pieces

-- The two documents are equal except for texts of each machine in their strings (own). In a
-- message, the members that name its kind are equal.
abbrev mutual
  pub AreAlike : List Pair → List Pair → Bool → Doc → Doc → Type 0
  AreAlike pairs others m (text s) (text t) = SameButTexts pairs others s t
  AreAlike pairs others m (list ds) (list es) = AreItemsAlike pairs others ds es
  AreAlike pairs others m (object ms) (object ns) = AreMembersAlike pairs others m ms ns
  AreAlike pairs others m null e = e ≡ null
  AreAlike pairs others m (boolean b) e = e ≡ boolean b
  AreAlike pairs others m (whole z) e = e ≡ whole z
  AreAlike pairs others m (id s z) e = e ≡ id s z
  AreAlike pairs others m d e = ⊥

  pub AreItemsAlike : List Pair → List Pair → Items → Items → Type 0
  AreItemsAlike pairs others no_items no_items = Unit {0}
  AreItemsAlike pairs others (item d ds) (item e es) =
      AreAlike pairs others false d e × AreItemsAlike pairs others ds es
  AreItemsAlike pairs others ds es = ⊥

  pub AreMembersAlike : List Pair → List Pair → Bool → Members → Members → Type 0
  AreMembersAlike pairs others m no_members no_members = Unit {0}
  AreMembersAlike pairs others m (member k d ms) (member l e ns) =
      (k ≡ l) × cond (m && names_its_kind k) (d ≡ e) (AreAlike pairs others false d e)
      × AreMembersAlike pairs others m ms ns
  AreMembersAlike pairs others m ms ns = ⊥

-- The lines of the values of canonical texts. Source: own. For private clauses.
use Rattle.std.specs.Prelude.{◌≡◌, ℕ, Bool, true, false, List, ◌∷◌, ◌++◌, codes}
use Rattle.serde_json.specs.Written.{items_text, members_text}
use Rattle.dap_tree.specs.Doc.{Doc, text, list, object, Items, item, Members, member}
use Rattle.dap_tree.specs.Json.{items_data, members_data, text_of}
use Rattle.dap_transcript.specs.Canonical.{ends_value}
use Rattle.dap_transcript.specs.{Names.name_text, Scalars.{string_text}}
use Rattle.dap_transcript.specs.Lines.{item_lines, margin, member_lines, part_text, scalar_line}

-- A line of an element, and of a member, up to their values.
abbrev pub item_text : ℕ → Doc → List ℕ
item_text n d = margin n ++ codes "-" ++ part_text false n d

abbrev pub member_text : ℕ → ℕ → List ℕ → Doc → List ℕ
member_text first n k d = margin first ++ name_text k ++ codes ":" ++ part_text true n d

-- The canonical texts of elements and of members, up to the bracket that closes them. They start
-- with a comma if one came before.
abbrev pub elements_text : Bool → Items → List ℕ
elements_text later ds = items_text later (items_data ds)

abbrev pub entries_text : Bool → Members → List ℕ
entries_text later ms = members_text later (members_data ms)

-- The text starts with this value, which is inside a list or an object, and this follows it.
abbrev pub StartsWith : List ℕ → Doc → List ℕ → Type 0
StartsWith s d more = (s ≡ text_of d ++ more) × (ends_value more ≡ true)

-- The text starts with this name and its colon, and this follows them.
abbrev pub StartsWithName : List ℕ → List ℕ → List ℕ → Type 0
StartsWithName s k more = s ≡ text_of (text k) ++ 58 ∷ more

-- If the text starts with a name and its colon, then this is the name as it is written, and this
-- follows the colon.
abbrev pub StartsWithPlain : List ℕ → List ℕ → List ℕ → Type 0
StartsWithPlain s name value = (k more : List ℕ) → StartsWithName s k more
    → (name ≡ name_text k) × (value ≡ more)

-- The string that the text starts with was appended as it is written, and `rest` follows it in the
-- text.
abbrev pub WritesString : List ℕ → List ℕ → List ℕ → List ℕ → Type 0
WritesString s rest old new = (t more : List ℕ) → s ≡ text_of (text t) ++ more
    → (new ≡ old ++ string_text t) × (rest ≡ more)

-- The same for the line of the string or other scalar that the text starts with.
abbrev pub PushesString : List ℕ → List ℕ → List ℕ → List ℕ → Type 0
PushesString s rest old new = (t more : List ℕ) → s ≡ text_of (text t) ++ more
    → (new ≡ old ++ scalar_line (string_text t)) × (rest ≡ more)

abbrev pub PushesPlain : List ℕ → List ℕ → List ℕ → List ℕ → Type 0
PushesPlain s rest old new = (d : Doc) (more : List ℕ) → StartsWith s d more
    → (new ≡ old ++ scalar_line (text_of d)) × (rest ≡ more)

-- The same for the lines of a value.
abbrev pub PushesPart : Bool → ℕ → List ℕ → List ℕ → List ℕ → List ℕ → Type 0
PushesPart named n s rest old new = (d : Doc) (more : List ℕ) → StartsWith s d more
    → (new ≡ old ++ part_text named n d) × (rest ≡ more)

-- The same for a list and an object after their opening brackets.
abbrev pub PushesList : Bool → ℕ → List ℕ → List ℕ → List ℕ → List ℕ → Type 0
PushesList named n s rest old new = (ds : Items) (more : List ℕ)
    → s ≡ elements_text false ds ++ more
    → (new ≡ old ++ part_text named n (list ds)) × (rest ≡ more)

abbrev pub PushesObject : Bool → ℕ → List ℕ → List ℕ → List ℕ → List ℕ → Type 0
PushesObject named n s rest old new = (ms : Members) (more : List ℕ)
    → s ≡ entries_text false ms ++ more
    → (new ≡ old ++ part_text named n (object ms)) × (rest ≡ more)

-- The same for an element.
abbrev pub PushesItem : ℕ → List ℕ → List ℕ → List ℕ → List ℕ → Type 0
PushesItem n s rest old new = (d : Doc) (more : List ℕ) → StartsWith s d more
    → (new ≡ old ++ item_text n d) × (rest ≡ more)

-- The same for one or more elements and the end of their list.
abbrev pub PushesItems : ℕ → List ℕ → List ℕ → List ℕ → List ℕ → Type 0
PushesItems n s rest old new = (d : Doc) (ds : Items) (more : List ℕ)
    → s ≡ elements_text false (item d ds) ++ more
    → (new ≡ old ++ item_lines n (item d ds)) × (rest ≡ more)

-- The same for a member: its name and its value are these texts.
abbrev pub PushesNamed : ℕ → ℕ → List ℕ → List ℕ → List ℕ → List ℕ → List ℕ → Type 0
PushesNamed first n name value rest old new = (k : List ℕ) (d : Doc) (more : List ℕ)
    → name ≡ text_of (text k) → StartsWith value d more
    → (new ≡ old ++ member_text first n k d) × (rest ≡ more)

abbrev pub PushesMember : ℕ → ℕ → List ℕ → List ℕ → List ℕ → List ℕ → Type 0
PushesMember first n s rest old new = (k : List ℕ) (d : Doc) (more : List ℕ)
    → StartsWithName s k (text_of d ++ more) → ends_value more ≡ true
    → (new ≡ old ++ member_text first n k d) × (rest ≡ more)

-- The same for one or more members and the end of their object.
abbrev pub PushesMembers : ℕ → ℕ → List ℕ → List ℕ → List ℕ → List ℕ → Type 0
PushesMembers first n s rest old new = (k : List ℕ) (d : Doc) (ms : Members) (more : List ℕ)
    → s ≡ entries_text false (member k d ms) ++ more
    → (new ≡ old ++ member_lines first n (member k d ms)) × (rest ≡ more)

-- For loops: if what is left is appended, then all of the text is.
abbrev pub CompletesItems : ℕ → List ℕ → List ℕ → List ℕ → List ℕ → Type 0
CompletesItems n s old left now = (rest new : List ℕ) → PushesItems n left rest now new
    → PushesItems n s rest old new

-- `first` is the indentation of the first member, `next` that of the next one.
abbrev pub CompletesMembers : ℕ → ℕ → ℕ → List ℕ → List ℕ → List ℕ → List ℕ → Type 0
CompletesMembers first n next s old left now = (rest new : List ℕ)
    → PushesMembers next n left rest now new → PushesMembers first n s rest old new

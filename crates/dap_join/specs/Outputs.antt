-- The `output` events of a recording, which an adapter divides as it likes, and what each record is
-- for joining. Source: the events `output` and `stopped` of the DAP specification, and the default
-- category `console`; own, if a comment says so.
use Rattle.std.specs.Prelude.{◌≡◌, ◌⊎◌, ℕ, ◌+◌, ℤ, pos, Bool, true, false, cond, ◌&&◌}
use Rattle.std.specs.Prelude.{nat_eq, List, [], ◌∷◌, Option, Some, None, codes}
use Rattle.dap_tree.specs.Doc.{Doc, whole, text, get}
use Rattle.dap_tree.specs.{Json.IsRead, declared.side.Side.Side}
use Rattle.dap_tree.specs.declared.side.Side.TheVariants.{Client, Adapter}
use Rattle.dap_profile.specs.declared.profile.Kind.TheVariants.{Event}
use Rattle.dap_message.specs.Envelope.{text_value}
use Rattle.dap_message.specs.Rows.{is_id_number, is_of_kind, is_text, name_key}
use Rattle.dap_normalise.specs.Accepting.{Payload}

-- The text of an `output` event, with its category and its `seq`, if it has one.
pub record Output : Type 0 where
  pub seq : Option ℤ
  pub category : List ℕ
  pub text : List ℕ

-- What a record is for joining.
pub data Part : Type 0 where
  output : Output → Part
  stopped : Part
  other : Part

-- ---- one event

-- The document is an event of this name.
abbrev pub is_event : List ℕ → Doc → Bool
is_event name d = is_of_kind Event d && is_text name (get (name_key Event) d)

-- The member of a document, if there is a document.
abbrev pub get_in : List ℕ → Option Doc → Option Doc
get_in k None = None
get_in k (Some d) = get k d

-- The `seq`, which may be absent. `None` if it is not an integer of 64 bits with a sign.
abbrev pub seq_in : Option Doc → Option (Option ℤ)
seq_in None = Some None
seq_in (Some (whole z)) = cond (is_id_number z) (Some (Some z)) None
seq_in (Some _) = None

-- The category. An absent one is `console` (DAP specification, OutputEvent).
abbrev pub category_in : Option Doc → Option (List ℕ)
category_in None = Some (codes "console")
category_in (Some (text s)) = Some s
category_in (Some _) = None

-- The variables reference is absent or 0: the output is without children.
abbrev pub has_no_children : Option Doc → Bool
has_no_children None = true
has_no_children (Some (whole (pos n))) = nat_eq n 0
has_no_children (Some _) = false

-- The output of these members, if each of them is as joining requires.
abbrev pub output_of : Option (Option ℤ) → Option (List ℕ) → Option (List ℕ) → Bool → Option Output
output_of (Some seq) (Some category) (Some s) true =
    Some (record { seq = seq; category = category; text = s })
output_of _ _ _ _ = None

-- The output of the event `output` that has this document and this body.
abbrev pub output_with : Doc → Option Doc → Option Output
output_with d body =
    output_of (seq_in (get (codes "seq") d)) (category_in (get_in (codes "category") body))
    (text_value (get_in (codes "output") body))
    (has_no_children (get_in (codes "variablesReference") body))

-- The output of an event `output` that can be joined (own). Its `body.output` is a string, its
-- category is a string or absent, it is without children, and its `seq` is absent or an integer of
-- 64 bits with a sign. Other members are allowed.
abbrev pub output_in : Doc → Option Output
output_in d =
    cond (is_event (codes "output") d) (output_with d (get (codes "body") d)) None

-- ---- the records of a recording

-- What a message of the adapter is for joining.
abbrev pub part_with : Option Output → Doc → Part
part_with (Some o) d = output o
part_with None d = cond (is_event (codes "stopped") d) stopped other

-- What a message is for joining (own). Only the adapter sends these events.
abbrev pub part_of : Side → Doc → Part
part_of Client d = other
part_of Adapter d = part_with (output_in d) d

-- What the record is for joining. A content that is not read as a document is not output.
abbrev pub IsPart : Payload → Part → Type 0
IsPart held part =
    ((d : Doc) × IsRead held.1 d × (part ≡ part_of held.0 d))
    ⊎ (((d : Doc) → IsRead held.1 d → ⊥) × (part ≡ other))

-- A record, with its number in the recording.
pub record Item : Type 0 where
  pub number : ℕ
  pub held : Payload
  pub part : Part

-- The items of these records, which are numbered from this number on.
abbrev pub AreItems : ℕ → List Payload → List Item → Type 0
AreItems n [] [] = Unit {0}
AreItems n [] (item ∷ items) = ⊥
AreItems n (held ∷ records) [] = ⊥
AreItems n (held ∷ records) (item ∷ items) =
    (item.number ≡ n) × (item.held ≡ held) × IsPart held item.part × AreItems (n + 1) records items

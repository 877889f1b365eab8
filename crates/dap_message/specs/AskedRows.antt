-- The rows that apply to a message, found by its kind and its name, and the errors and marks that
-- they define.
use Rattle.dap_tree.specs.Doc.{Doc, get}
use Rattle.dap_tree.specs.declared.side.Side.{Side}
use Rattle.std.specs.Prelude.{ℕ, cond, List, [], ◌∷◌, Option, Some, None, option_map}
use Rattle.std.specs.Prelude.{option_and_then, bytes_eq, codes}
use Rattle.std.specs.List.{filter}
use Rattle.std.specs.Option.{option_or, option_map_or}
use Rattle.dap_profile.specs.Profile.{profile}
use Rattle.dap_profile.specs.ProfileRows.{ProfileRow}
use Rattle.dap_profile.specs.declared.profile.Kind.{Kind}
use Rattle.dap_profile.specs.declared.profile.Kind.TheVariants.{Request, Response, Event}
use Rattle.dap_message.specs.Envelope.{text_value}
use Rattle.dap_message.specs.Marks.{sort_of, marked, edit}
use Rattle.dap_message.specs.Rows.{row_applies, type_name, name_key, may_have_body, of_row}
use Rattle.dap_message.specs.Rows.{broken_at}
use Rattle.dap_message.specs.declared.fault.MessageFault.{MessageFault}

-- The rows that apply to the document, in order.
unfoldable pub asked_rows : Doc → List ProfileRow
asked_rows d = filter (λ r. row_applies r.kind r.name d) profile

-- ---- by kind and name

-- The kind of a message with this `type`.
abbrev pub kind_typed : List ℕ → Option Kind
kind_typed s =
    cond (bytes_eq (type_name Request) s) (Some Request)
    (cond (bytes_eq (type_name Response) s) (Some Response)
    (cond (bytes_eq (type_name Event) s) (Some Event) None))

-- The kind of a document, if it has one.
abbrev pub kind_of_tree : Doc → Option Kind
kind_of_tree d = option_and_then kind_typed (text_value (get (codes "type") d))

-- The name that decides which rows apply to a document of a kind, or `None` if it has no name or
-- may not have a body.
abbrev pub name_of_tree : Kind → Doc → Option (List ℕ)
name_of_tree k d = cond (may_have_body k d) (text_value (get (name_key k) d)) None

-- ---- the effect of rows that apply

-- The error of a message for one row that applies to it.
abbrev pub fault_by : ProfileRow → Doc → Option MessageFault
fault_by r d = option_map (of_row r.number) (broken_at r.place r.want r.needed d)

-- The error for the first of these rows that is violated.
abbrev pub first_by : List ProfileRow → Doc → Option MessageFault
first_by [] d = None
first_by (r ∷ rs) d = option_or (fault_by r d) (first_by rs d)

-- The document with the ids that one row defines.
abbrev pub mark_by : ProfileRow → Side → Doc → Doc
mark_by r side d = option_map_or (λ s. edit r.place (marked s) d) (sort_of side r.want) d

-- The document with the ids that these rows define.
abbrev pub marks_by : List ProfileRow → Side → Doc → Doc
marks_by [] side d = d
marks_by (r ∷ rs) side d = marks_by rs side (mark_by r side d)

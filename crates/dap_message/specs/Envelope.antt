-- The members that every message of a kind has.
use Rattle.dap_tree.specs.Doc.{Doc, boolean, text, id, get}
use Rattle.std.specs.Prelude.{ℕ, ℤ, Bool, cond, ◌&&◌, ◌||◌, List, Option, Some, None, is_some}
use Rattle.std.specs.Prelude.{codes}
use Rattle.dap_profile.specs.declared.profile.Kind.{Kind}
use Rattle.dap_profile.specs.declared.profile.Kind.TheVariants.{Request, Response, Event}
use Rattle.dap_message.specs.Rows.{is_of_kind, name_key}

-- The number of an id, the value of a boolean, the bytes of a string, if there is such a value.
abbrev pub id_number : Option Doc → Option ℤ
id_number (Some (id s z)) = Some z
id_number _ = None

abbrev pub boolean_value : Option Doc → Option Bool
boolean_value (Some (boolean b)) = Some b
boolean_value _ = None

abbrev pub text_value : Option Doc → Option (List ℕ)
text_value (Some (text s)) = Some s
text_value _ = None

-- The kind of a message. A document without a kind counts as an event.
abbrev pub kind_of : Doc → Kind
kind_of d = cond (is_of_kind Request d) Request (cond (is_of_kind Response d) Response Event)

-- The command of a request or response, or the name of an event.
abbrev pub name_of : Doc → Option (List ℕ)
name_of d = text_value (get (name_key (kind_of d)) d)

-- The message's own sequence number (DAP specification, ProtocolMessage.seq).
abbrev pub seq_of : Doc → Option ℤ
seq_of d = id_number (get (codes "seq") d)

-- The sequence number of the request that a response answers (DAP specification,
-- Response.request_seq), or `None` if the message is not a response.
abbrev pub request_seq_of : Doc → Option ℤ
request_seq_of d = cond (is_of_kind Response d) (id_number (get (codes "request_seq") d)) None

-- Whether a response reports success (DAP specification, Response.success), or `None` if the
-- message is not a response.
abbrev pub success_of : Doc → Option Bool
success_of d = cond (is_of_kind Response d) (boolean_value (get (codes "success") d)) None

-- A message of this kind that has a name.
abbrev pub is_named : Kind → Doc → Bool
is_named k d = is_of_kind k d && is_some (text_value (get (name_key k) d))

-- A message has a `seq`, a kind and a name. A response also has the number of its request and says
-- whether it succeeded (DAP specification, ProtocolMessage, Request, Event and Response).
abbrev pub has_envelope : Doc → Bool
has_envelope d =
    is_some (seq_of d)
    && (is_named Request d
    || (is_named Response d && is_some (id_number (get (codes "request_seq") d))
    && is_some (boolean_value (get (codes "success") d))) || is_named Event d)

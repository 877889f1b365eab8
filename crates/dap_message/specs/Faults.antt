-- The error of a message, and the messages without errors.
use Rattle.dap_tree.specs.Doc.{Doc}
use Rattle.std.specs.Prelude.{◌≡◌, Bool, cond, ◌||◌, List, Option, Some, None}
use Rattle.dap_profile.specs.Profile.{profile}
use Rattle.dap_profile.specs.ProfileRows.{ProfileRow}
use Rattle.dap_profile.specs.declared.profile.Kind.TheVariants.{Request, Response, Event}
use Rattle.dap_message.specs.Places.{is_object}
use Rattle.dap_message.specs.Rows.{is_of_kind, first_fault}
use Rattle.dap_message.specs.declared.fault.MessageFault.{MessageFault}
use Rattle.dap_message.specs.declared.fault.MessageFault.TheVariants.{NotObject, UnknownType}

-- A message is a request, a response or an event (DAP specification, ProtocolMessage).
abbrev pub has_kind : Doc → Bool
has_kind d = is_of_kind Request d || is_of_kind Response d || is_of_kind Event d

-- ---- by a list of rows

-- The error for the first of these rows that is violated.
unfoldable pub broken_by_rows : List ProfileRow → Doc → Option MessageFault
broken_by_rows rows d = first_fault rows d

-- The first error (own order): not an object, an unknown type, the first violated row.
abbrev pub fault_by_rows : List ProfileRow → Doc → Option MessageFault
fault_by_rows rows d =
    cond (is_object d) (cond (has_kind d) (broken_by_rows rows d) (Some UnknownType))
    (Some NotObject)

-- The document is a message that violates none of these rows.
abbrev pub FitsRows : List ProfileRow → Doc → Type 0
FitsRows rows d = fault_by_rows rows d ≡ None

-- ---- by the profile

-- The error for the violated row of the profile with the lowest number.
abbrev pub row_broken : Doc → Option MessageFault
row_broken d = broken_by_rows profile d

-- The first error by the profile.
abbrev pub fault : Doc → Option MessageFault
fault d = fault_by_rows profile d

-- The document is a message that violates no row of the profile.
abbrev pub Fits : Doc → Type 0
Fits d = FitsRows profile d

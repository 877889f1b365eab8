-- The rows of the profile: the messages to which a row applies, the values at its path, and whether
-- they are as it requires.
use Rattle.dap_tree.specs.Doc.{Doc, null, boolean, whole, text, list, object, get}
use Rattle.std.specs.Prelude.{ℕ, ◌^◌, ℤ, pos, negsuc, Bool, true, false, cond, not, ◌&&◌, nat_lt}
use Rattle.std.specs.Prelude.{List, [], ◌∷◌, map, Option, Some, None, option_map, codes, bytes_eq}
use Rattle.std.specs.Option.{option_or}
use Rattle.dap_profile.specs.PlaceSteps.{PlaceStep}
use Rattle.dap_profile.specs.ProfileRows.{ProfileRow}
use Rattle.dap_profile.specs.declared.profile.Kind.{Kind}
use Rattle.dap_profile.specs.declared.profile.Kind.TheVariants.{Request, Response, Event}
use Rattle.dap_profile.specs.declared.profile.Want.{Want}
use Rattle.dap_profile.specs.declared.profile.Want.TheVariants.{Bool as WantBool, Whole, Text}
use Rattle.dap_profile.specs.declared.profile.Want.TheVariants.{Object, List as WantList}
use Rattle.dap_profile.specs.Profile.{wants_id}
use Rattle.dap_message.specs.Places.{parts_at}
use Rattle.dap_message.specs.declared.broken_rows.Cause.{Cause}
use Rattle.dap_message.specs.declared.broken_rows.Cause.TheVariants.{Missing, WrongType}
use Rattle.dap_message.specs.declared.fault.MessageFault.{MessageFault}
use Rattle.dap_message.specs.declared.fault.MessageFault.TheVariants.{Missing as MissingRow}
use Rattle.dap_message.specs.declared.fault.MessageFault.TheVariants.{WrongType as WrongTypeRow}

-- ---- the messages to which a row applies

-- The value is that string.
abbrev pub is_text : List ℕ → Option Doc → Bool
is_text k (Some (text s)) = bytes_eq k s
is_text k _ = false

-- The value is `true`.
abbrev pub is_true : Option Doc → Bool
is_true (Some (boolean b)) = b
is_true _ = false

-- The `type` of a message of a kind (DAP specification, ProtocolMessage).
abbrev pub type_name : Kind → List ℕ
type_name Request = codes "request"
type_name Response = codes "response"
type_name Event = codes "event"

-- The member that names a message of a kind (DAP specification, Request, Response and Event).
abbrev pub name_key : Kind → List ℕ
name_key Request = codes "command"
name_key Response = codes "command"
name_key Event = codes "event"

-- The message has the `type` of a kind.
abbrev pub is_of_kind : Kind → Doc → Bool
is_of_kind k d = is_text (type_name k) (get (codes "type") d)

-- A response that does not report success has the body of an error (DAP specification,
-- ErrorResponse), so no row with a name applies to it.
abbrev pub may_have_body : Kind → Doc → Bool
may_have_body Request d = true
may_have_body Response d = is_true (get (codes "success") d)
may_have_body Event d = true

-- A row of this kind and name applies to the message (own); `None` means any kind or name.
abbrev pub row_applies : Option Kind → Option (List ℕ) → Doc → Bool
row_applies None n d = true
row_applies (Some k) None d = is_of_kind k d
row_applies (Some k) (Some n) d = is_of_kind k d && is_text n (get (name_key k) d) && may_have_body
    k d

-- ---- how a row is violated

-- An id is a signed 64-bit number (own).
abbrev pub is_id_number : ℤ → Bool
is_id_number (pos n) = nat_lt n (2 ^ 63)
is_id_number (negsuc n) = nat_lt n (2 ^ 63)

-- The document has the expected type (schema of the DAP specification). For an id this is an
-- integer that may be an id.
abbrev pub has_type : Want → Doc → Bool
has_type WantBool (boolean b) = true
has_type Whole (whole n) = true
has_type Text (text s) = true
has_type Object (object ms) = true
has_type WantList (list ds) = true
has_type w (whole n) = wants_id w && is_id_number n
has_type _ _ = false

-- The document is null.
abbrev pub is_null : Doc → Bool
is_null null = true
is_null _ = false

-- How a value at a row's path violates it (own). A value that is not required may be absent or
-- null.
abbrev pub cause_against : Want → Bool → Option Doc → Option Cause
cause_against w needed None = cond needed (Some Missing) None
cause_against w needed (Some d) =
    cond (has_type w d) None (cond (is_null d && not needed) None (Some WrongType))

-- The first cause in the list.
abbrev pub first_cause : List (Option Cause) → Option Cause
first_cause [] = None
first_cause (c ∷ cs) = option_or c (first_cause cs)

-- How a row's path is violated: by the first value that violates it.
abbrev pub broken_at : List PlaceStep → Want → Bool → Doc → Option Cause
broken_at p w needed d = first_cause (map (cause_against w needed) (parts_at p d))

-- The error that names a row.
abbrev pub of_row : ℕ → Cause → MessageFault
of_row n Missing = MissingRow n
of_row n WrongType = WrongTypeRow n

-- The error of a message for one row: an error if the row applies to the message and is violated.
abbrev pub row_fault : ProfileRow → Doc → Option MessageFault
row_fault r d =
    cond (row_applies r.kind r.name d)
    (option_map (of_row r.number) (broken_at r.place r.want r.needed d)) None

-- The error for the first violated row.
abbrev pub first_fault : List ProfileRow → Doc → Option MessageFault
first_fault [] d = None
first_fault (r ∷ rs) d = option_or (row_fault r d) (first_fault rs d)

-- The views of a message: the stack frames, scopes or variables that its body lists.
use Rattle.dap_tree.specs.Doc.{Doc, whole, id, get}
use Rattle.std.specs.Prelude.{ℕ, ℤ, Bool, cond, ◌&&◌, List, [], filter_map, Option, Some, None}
use Rattle.std.specs.Prelude.{is_some, option_and_then, unwrap_or, codes}
use Rattle.std.specs.List.{list_all}
use Rattle.dap_profile.specs.declared.profile.Kind.TheVariants.{Response}
use Rattle.dap_message.specs.Envelope.{text_value}
use Rattle.dap_message.specs.Places.{list_of}
use Rattle.dap_message.specs.Rows.{row_applies, is_id_number}

-- The views of a stack frame, a scope and a variable (DAP specification, StackFrame, Scope and
-- Variable).
pub record StackFrame : Type 0 where
  pub id : ℤ
  pub name : List ℕ
  pub line : ℤ
  pub column : ℤ

pub record Scope : Type 0 where
  pub name : List ℕ
  pub reference : ℤ

pub record Variable : Type 0 where
  pub name : List ℕ
  pub value : List ℕ
  pub reference : ℤ

-- The number at a path, whether it is marked as an id or not.
abbrev pub number_value : Option Doc → Option ℤ
number_value (Some (whole z)) = Some z
number_value (Some (id s z)) = Some z
number_value _ = None

-- The number of an id, or a number that may be one. A variables reference of 0, which refers to
-- nothing, yields 0.
abbrev pub reference_value : Option Doc → Option ℤ
reference_value (Some (whole z)) = cond (is_id_number z) (Some z) None
reference_value (Some (id s z)) = Some z
reference_value _ = None

-- The view, if each of its parts exists.
abbrev pub frame_from : Option ℤ → Option (List ℕ) → Option ℤ → Option ℤ → Option StackFrame
frame_from (Some i) (Some n) (Some l) (Some c) =
    Some (record { id = i; name = n; line = l; column = c })
frame_from _ _ _ _ = None

abbrev pub scope_from : Option (List ℕ) → Option ℤ → Option Scope
scope_from (Some n) (Some r) = Some (record { name = n; reference = r })
scope_from _ _ = None

abbrev pub variable_from : Option (List ℕ) → Option (List ℕ) → Option ℤ → Option Variable
variable_from (Some n) (Some v) (Some r) = Some (record { name = n; value = v; reference = r })
variable_from _ _ _ = None

-- The view of an element, by the names of its members (DAP specification).
abbrev pub frame_of : Doc → Option StackFrame
frame_of d =
    frame_from (reference_value (get (codes "id") d)) (text_value (get (codes "name") d))
    (number_value (get (codes "line") d)) (number_value (get (codes "column") d))

abbrev pub scope_of : Doc → Option Scope
scope_of d =
    scope_from (text_value (get (codes "name") d))
    (reference_value (get (codes "variablesReference") d))

abbrev pub variable_of : Doc → Option Variable
variable_of d =
    variable_from (text_value (get (codes "name") d)) (text_value (get (codes "value") d))
    (reference_value (get (codes "variablesReference") d))

-- The elements of the named array in the body of a successful response to the command, and no
-- elements for any other message.
abbrev pub listed : List ℕ → List ℕ → Doc → List Doc
listed command name d =
    cond (row_applies (Some Response) (Some command) d)
    (unwrap_or (option_and_then list_of (option_and_then (get name) (get (codes "body") d))) []) []

-- The elements that are viewed as frames, scopes and variables (DAP specification,
-- StackTraceResponse, ScopesResponse and VariablesResponse).
abbrev pub listed_frames : Doc → List Doc
listed_frames d = listed (codes "stackTrace") (codes "stackFrames") d

abbrev pub listed_scopes : Doc → List Doc
listed_scopes d = listed (codes "scopes") (codes "scopes") d

abbrev pub listed_variables : Doc → List Doc
listed_variables d = listed (codes "variables") (codes "variables") d

-- The frames, scopes and variables of a message, in the order of its array. `shows_all` states that
-- no element of a message is omitted.
abbrev pub frames_of : Doc → List StackFrame
frames_of d = filter_map frame_of (listed_frames d)

abbrev pub scopes_of : Doc → List Scope
scopes_of d = filter_map scope_of (listed_scopes d)

abbrev pub variables_of : Doc → List Variable
variables_of d = filter_map variable_of (listed_variables d)

-- Each element has a view as a frame, a scope, a variable.
abbrev pub are_frames : List Doc → Bool
are_frames ds = list_all (λ d. is_some (frame_of d)) ds

abbrev pub are_scopes : List Doc → Bool
are_scopes ds = list_all (λ d. is_some (scope_of d)) ds

abbrev pub are_variables : List Doc → Bool
are_variables ds = list_all (λ d. is_some (variable_of d)) ds

-- Each element that the message lists has a view.
abbrev pub shows_all : Doc → Bool
shows_all d =
    are_frames (listed_frames d) && are_scopes (listed_scopes d)
    && are_variables (listed_variables d)

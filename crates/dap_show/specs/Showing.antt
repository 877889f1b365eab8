-- The lines of a message, and of the frames, scopes and variables that it lists. Source: own, over
-- the messages of the DAP specification.
use Rattle.std.specs.Prelude.{ℕ, ℤ, Bool, cond, List, [], ◌++◌, Option, codes, decimal}
use Rattle.std.specs.{Fmt.signed_decimal, List.flat_map, Option.option_map_or}
use Rattle.dap_tree.specs.{Doc.{Doc, text}, Json.text_of, declared.side.Side.Side}
use Rattle.dap_tree.specs.declared.side.Side.TheVariants.{Client, Adapter}
use Rattle.dap_profile.specs.Profile.{kind_name}
use Rattle.dap_message.specs.Envelope.{kind_of, name_of, seq_of, request_seq_of, success_of}
use Rattle.dap_message.specs.Message.{Sent}
use Rattle.dap_message.specs.Views.{StackFrame, Scope, Variable, frames_of, scopes_of, variables_of}

-- A string as JSON, in quotes.
abbrev pub in_quotes : List ℕ → List ℕ
in_quotes s = text_of (text s)

-- The id, line and column of a stack frame.
abbrev pub place_words : StackFrame → List ℕ
place_words f =
    codes "  frame " ++ signed_decimal f.id ++ codes " " ++ signed_decimal f.line ++ codes ":"
    ++ signed_decimal f.column

-- The lines of a stack frame, a scope and a variable.
abbrev pub frame_line : StackFrame → List ℕ
frame_line f = place_words f ++ codes " " ++ in_quotes f.name ++ codes "\n"

abbrev pub scope_line : Scope → List ℕ
scope_line s =
    codes "  scope " ++ signed_decimal s.reference ++ codes " " ++ in_quotes s.name ++ codes "\n"

abbrev pub variable_line : Variable → List ℕ
variable_line v =
    codes "  variable " ++ signed_decimal v.reference ++ codes " " ++ in_quotes v.name ++ codes " "
    ++ in_quotes v.value ++ codes "\n"

-- The marker of a side.
abbrev pub side_words : Side → List ℕ
side_words Client = codes " > "
side_words Adapter = codes " < "

-- The `request_seq` and the success of a response. Empty for any other message.
abbrev pub answered_words : Option ℤ → List ℕ
answered_words answered = option_map_or (λ n. codes " request_seq=" ++ signed_decimal n) answered []

abbrev pub success_words : Option Bool → List ℕ
success_words success = option_map_or (λ ok. cond ok (codes " ok") (codes " failed")) success []

-- The number of a record and the marker of its side; the kind, the name and the sequence number of
-- its message, which every message has; the outcome of a response.
abbrev pub start_words : ℕ → Side → List ℕ
start_words n side = decimal n ++ side_words side

abbrev pub title_words : Doc → List ℕ
title_words d =
    kind_name (kind_of d) ++ codes " " ++ option_map_or in_quotes (name_of d) [] ++ codes " seq="
    ++ option_map_or signed_decimal (seq_of d) []

abbrev pub outcome_words : Doc → List ℕ
outcome_words d = answered_words (request_seq_of d) ++ success_words (success_of d)

-- The line of a record's message.
abbrev pub message_line : ℕ → Sent → List ℕ
message_line n message =
    start_words n message.side ++ title_words message.doc ++ outcome_words message.doc ++ codes "\n"

-- The lines of the frames, scopes and variables that a message lists.
abbrev pub listed_lines : Doc → List ℕ
listed_lines d =
    flat_map frame_line (frames_of d) ++ flat_map scope_line (scopes_of d)
    ++ flat_map variable_line (variables_of d)

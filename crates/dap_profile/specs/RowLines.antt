-- The lines in which `dapnorm rows` prints the profile. Source: own; the words for types are those
-- of JSON Schema, which the DAP specification uses.
use Rattle.std.specs.Prelude.{ℕ, Bool, true, false, List, [], ◌∷◌, ◌++◌, Option, Some, None, codes}
use Rattle.std.specs.Prelude.{decimal, if◌then◌else◌}
use Rattle.std.specs.List.{flat_map}
use Rattle.std.specs.Option.{option_map_or}
use Rattle.std.specs.Str.{bytes_eq}
use Rattle.dap_profile.specs.PlaceSteps.{PlaceStep, named, each}
use Rattle.dap_profile.specs.Profile.{kind_name, profile, want_word}
use Rattle.dap_profile.specs.ProfileRows.{ProfileRow}
use Rattle.dap_profile.specs.declared.profile.Kind.{Kind}

-- The kind of message to which a row applies; `*` for any.
abbrev pub kind_word : Option Kind → List ℕ
kind_word None = codes "*"
kind_word (Some kind) = kind_name kind

-- The kind and the name of the messages; `*` for any.
abbrev pub messages_words : ProfileRow → List ℕ
messages_words row =
    kind_word row.kind ++ codes " " ++ option_map_or (λ name. name) row.name (codes "*")

-- A path from its second step on: `.a` for a member, `[]` for each element.
abbrev pub further_words : List PlaceStep → List ℕ
further_words [] = []
further_words (named name ∷ steps) = codes "." ++ name ++ further_words steps
further_words (each ∷ steps) = codes "[]" ++ further_words steps

-- A path, such as `body.stackFrames[].id`.
abbrev pub place_words : List PlaceStep → List ℕ
place_words (named name ∷ steps) = name ++ further_words steps
place_words steps = further_words steps

abbrev pub need_word : Bool → List ℕ
need_word true = codes " needed "
need_word false = codes " optional "

-- The line of a row.
abbrev pub row_line : ProfileRow → List ℕ
row_line row =
    decimal row.number ++ codes " " ++ messages_words row ++ codes " " ++ place_words row.place
    ++ need_word row.needed ++ want_word row.want ++ codes "\n"

-- The argument writes the row's number, or there is no argument.
abbrev pub has_number : Option (List ℕ) → ProfileRow → Bool
has_number text row = option_map_or (bytes_eq (decimal row.number)) text true

-- The line of a row if it is requested.
abbrev pub asked_line : Option (List ℕ) → ProfileRow → List ℕ
asked_line text row = if has_number text row then row_line row else []

-- The lines of the requested rows, in the order of the profile.
abbrev pub lines_of : Option (List ℕ) → List ℕ
lines_of text = flat_map (asked_line text) profile

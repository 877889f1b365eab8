-- Differences as lines. Source: own. A path is written like a path of a mask rule, with the index
-- of an item in brackets.
use Rattle.std.specs.Prelude.{ℕ, ◌==◌, Bool, true, false, ◌&&◌, ◌||◌, List}
use Rattle.std.specs.Prelude.{[], ◌∷◌, ◌++◌, Option, Some, None, codes, decimal}
use Rattle.std.specs.Prelude.{if◌then◌else◌}
use Rattle.std.specs.Char.{is_ascii_alphanumeric}
use Rattle.std.specs.List.{flat_map}
use Rattle.dap_tree.specs.Doc.{Doc, text, is_sound}
use Rattle.dap_tree.specs.Json.{text_of}
use Rattle.dap_tree.specs.Path.{Step, name, place}
use Rattle.dap_difference.specs.Differences.{Difference}
use Rattle.dap_difference.specs.Windows.{cut, window}

-- A byte of a name that is printed without quoting: a letter, a digit, `_`, `-` or `$`.
abbrev pub is_plain : ℕ → Bool
is_plain b = is_ascii_alphanumeric b || ((b == 95) || ((b == 45) || (b == 36)))

abbrev pub are_plain : List ℕ → Bool
are_plain [] = true
are_plain (b ∷ s) = is_plain b && are_plain s

-- A nonempty name that consists only of these bytes.
abbrev pub is_plain_name : List ℕ → Bool
is_plain_name [] = false
is_plain_name (b ∷ s) = are_plain (b ∷ s)

-- A name, unchanged or as a JSON string.
abbrev pub name_text : List ℕ → List ℕ
name_text k = if is_plain_name k then k else text_of (text k)

abbrev pub step_text : Step → List ℕ
step_text (name k) = codes "." ++ name_text k
step_text (place n) = codes "[" ++ decimal n ++ codes "]"

-- A path, such as `body.stackFrames[2].line`; `.` is the entire document.
abbrev pub path_text : List Step → List ℕ
path_text [] = codes "."
path_text (name k ∷ p) = name_text k ++ flat_map step_text p
path_text (place n ∷ p) = flat_map step_text (place n ∷ p)

-- The JSON text of a value, at most 200 characters of it. If the other document has a value at the
-- path, the text is cut round the first difference.
abbrev pub value_text : Doc → Option Doc → List ℕ
value_text d None = cut 200 (text_of d)
value_text d (Some e) = window 200 (text_of d) (text_of e)

-- The line for the value of one document at a path, or no line if it has no value there; then the
-- value of the other document.
abbrev pub value_line : List ℕ → List Step → Option Doc → Option Doc → List ℕ
value_line side p None other = []
value_line side p (Some d) other =
    side ++ codes " " ++ path_text p ++ codes " " ++ value_text d other ++ codes "\n"

-- The lines of a difference: the value of A, and the value of B.
abbrev pub difference_lines : Difference → List ℕ
difference_lines x =
    value_line (codes "A") x.path x.of_a x.of_b ++ value_line (codes "B") x.path x.of_b x.of_a

-- The values of a difference can be written.
abbrev pub is_sound_value : Option Doc → Bool
is_sound_value None = true
is_sound_value (Some d) = is_sound d

abbrev pub is_sound_difference : Difference → Bool
is_sound_difference x = is_sound_value x.of_a && is_sound_value x.of_b

abbrev pub are_sound : List Difference → Bool
are_sound [] = true
are_sound (x ∷ xs) = is_sound_difference x && are_sound xs

-- Strings whose tokens are replaced by names.
use Rattle.std.specs.Prelude.{ℕ, ◌<◌, ◌^◌, cond, List, [], ◌∷◌, ◌++◌, map, decimal}
use Rattle.dap_tokens.specs.Tokens.{Labels, Part, literal, token, parts, name}
use Rattle.dap_tokens.specs.Values.{value, is_nothing}
use Rattle.dap_tokens.specs.declared.form.Form.{Form}

-- An id: a label, and the text of a value.
abbrev pub Id : Type 0
Id = List ℕ × List ℕ

-- A number for each value of each label.
abbrev pub Numbering : Type 0
Numbering = List ℕ → List ℕ → ℕ

-- The tokens that are ids, in their order.
abbrev pub ids_of_parts : List Part → List Id
ids_of_parts [] = []
ids_of_parts (literal b ∷ ps) = ids_of_parts ps
ids_of_parts (token form label t ∷ ps) =
    cond (is_nothing (value label form t)) (ids_of_parts ps)
    ((label, value label form t) ∷ ids_of_parts ps)

abbrev pub ids : Labels → List ℕ → List Id
ids labels s = ids_of_parts (parts labels s)

-- The token with its value replaced by the name of a number. What is not an id stays.
abbrev pub named_token : Numbering → Form → List ℕ → List ℕ → List ℕ
named_token number form label t = cond (is_nothing (value label form t)) t
    (name label (decimal (number label (value label form t))))

abbrev pub named_parts : Numbering → List Part → List ℕ
named_parts number [] = []
named_parts number (literal b ∷ ps) = b ∷ named_parts number ps
named_parts number (token form label t ∷ ps) =
    named_token number form label t ++ named_parts number ps

-- The string with each token that is an id replaced by its name. `number` gives each value of a
-- label a number from 1.
abbrev pub named : Labels → Numbering → List ℕ → List ℕ
named labels number s = named_parts number (parts labels s)

-- Each value has a number of 64 bits, from 1.
abbrev pub IsNumbering : Numbering → Type 0
IsNumbering number = (label v : List ℕ) → (0 < number label v) × (number label v < 2 ^ 64)

-- The string with each id replaced by one mark.
abbrev pub skeleton : Labels → List ℕ → List ℕ
skeleton labels s = named labels (λ label v. 1) s

-- The label of each id, and the number of its value.
abbrev pub numbered : Numbering → List Id → List (List ℕ × ℕ)
numbered number is = map (λ i. (i.0, number i.0 i.1)) is

-- The ids with each value replaced by its number in decimal digits.
abbrev pub named_by : Numbering → List Id → List Id
named_by number is = map (λ i. (i.0, decimal (number i.0 i.1))) is

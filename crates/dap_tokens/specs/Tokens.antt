-- The tokens of a string. The rules for a place give labels to forms of tokens. A string at this
-- place is read once from left to right: a name with one of the labels is a token, and otherwise a
-- token of one of the forms. Any other byte is literal.
use Rattle.std.specs.Prelude.{ℕ, suc, ◌+◌, ◌-◌, ◌==◌, Bool, false, cond, not, ◌&&◌, ◌||◌, List, []}
use Rattle.std.specs.Prelude.{◌∷◌, ◌++◌, length, take, drop, take_while, bytes_eq, zero}
use Rattle.std.specs.Prelude.{Option, Some, None, is_some}
use Rattle.std.specs.Char.{is_ascii_digit, is_ascii_hexdigit, is_ascii_lowercase}
use Rattle.dap_words.specs.Runs.{all_of, begins_with}
use Rattle.dap_words.specs.{Digits.begins_hex, Long.is_long, Uuids.begins_uuid}
use Rattle.dap_tokens.specs.declared.form.Form.{Form}
use Rattle.dap_tokens.specs.declared.form.Form.TheVariants.{Whole, Digits, Hex, Long, Uuid}

-- ---- labels and names

-- A byte of a label: a lower-case letter or `-`.
abbrev pub is_of_label : ℕ → Bool
is_of_label b = is_ascii_lowercase b || (b == 45)

-- A label (own): lower-case letters and `-`, the first of them a letter.
abbrev pub is_label : List ℕ → Bool
is_label l = begins_with is_ascii_lowercase l && all_of is_of_label l

-- Decimal digits, the first of them not 0.
abbrev pub is_numeral : List ℕ → Bool
is_numeral k =
    begins_with is_ascii_digit k && (all_of is_ascii_digit k && not (begins_with (λ b. b == 48) k))

-- The bytes of a name before its number.
abbrev pub opening : List ℕ → List ℕ
opening label = 60 ∷ label ++ 32 ∷ []

-- The name of this number (own): `<LABEL NUMBER>`.
abbrev pub name : List ℕ → List ℕ → List ℕ
name label number = opening label ++ number ++ 62 ∷ []

-- The decimal digits of a name after its opening.
abbrev pub number_in : List ℕ → List ℕ → List ℕ
number_in label s = take_while is_ascii_digit (drop (length (opening label)) s)

-- The length of the name that starts here, or 0 if none starts.
abbrev pub name_length : List ℕ → List ℕ → ℕ
name_length label s =
    let whole = name label (number_in label s) in
    cond (is_numeral (number_in label s) && bytes_eq (take (length whole) s) whole) (length whole) 0

-- ---- tokens

-- The run of hexadecimal digits at the start.
abbrev pub hex_run : List ℕ → List ℕ
hex_run s = take_while is_ascii_hexdigit s

-- A number with `0x` starts here.
abbrev pub starts_hex : List ℕ → Bool
starts_hex [] = false
starts_hex (b ∷ s) = begins_hex b s

-- The length of the token of a form that starts here, or 0 if none starts (own). `after_digit` is
-- true if a literal hexadecimal digit comes before: then only a run of decimal digits starts.
abbrev pub token_length : Form → Bool → List ℕ → ℕ
token_length Whole after_digit s = length s
token_length Digits after_digit s = length (take_while is_ascii_digit s)
token_length Hex after_digit s =
    cond (not after_digit && starts_hex s) (2 + length (hex_run (drop 2 s))) 0
token_length Long after_digit s =
    cond (not after_digit && is_long (hex_run s)) (length (hex_run s)) 0
token_length Uuid after_digit s = cond (begins_uuid after_digit s) 36 0

-- The label of each form at a place (own), if a rule gives it one.
abbrev pub Labels : Type 0
Labels = Form → Option (List ℕ)

-- The token at the start of a string, which may be a name: its form, its label, and the number of
-- its bytes.
pub record Token : Type 0 where
  pub form : Form
  pub label : List ℕ
  pub count : ℕ

-- The token of a form that has a label, if it has bytes. Otherwise the other one.
abbrev pub token_or : Form → Option (List ℕ) → (List ℕ → ℕ) → Option Token → Option Token
token_or form None count other = other
token_or form (Some label) count other = cond (count label == 0) other
    (Some (record { form = form; label = label; count = count label }))

-- The token of the first of these forms that has a label and bytes. Otherwise the other one.
abbrev pub first_token : Labels → (Form → List ℕ → ℕ) → List Form → Option Token → Option Token
first_token labels count [] other = other
first_token labels count (form ∷ forms) other =
    token_or form (labels form) (count form) (first_token labels count forms other)

-- The forms of tokens in the order in which they are tried (own). Digits are not tokens beside
-- UUIDs: a name in place of digits after 36 bytes would turn these into a UUID.
abbrev pub tried : Labels → List Form
tried labels = cond (is_some (labels Uuid)) (Uuid ∷ Hex ∷ Long ∷ []) (Hex ∷ Long ∷ Digits ∷ [])

-- The token that starts here (own): a name with one of the labels, or else a token of a form.
abbrev pub token_at : Labels → Bool → List ℕ → Option Token
token_at labels after_digit s =
    first_token labels (λ form label. name_length label s) (Digits ∷ Hex ∷ Long ∷ Uuid ∷ [])
    (first_token labels (λ form label. token_length form after_digit s) (tried labels) None)

-- A part of a string: a literal byte, or the form, the label and the bytes of a token.
pub data Part : Type 0 where
  literal : ℕ → Part
  token : Form → List ℕ → List ℕ → Part

-- The first part of a string, which starts with this token or with a literal byte.
abbrev pub first_part : Option Token → ℕ → List ℕ → Part
first_part None b s = literal b
first_part (Some t) b s = token t.form t.label (take t.count (b ∷ s))

-- The bytes of the token after its first one.
abbrev pub left_inside : Option Token → ℕ
left_inside None = 0
left_inside (Some t) = t.count - 1

-- The byte is literal, and a hexadecimal digit.
abbrev pub is_literal_digit : Option Token → ℕ → Bool
is_literal_digit None b = is_ascii_hexdigit b
is_literal_digit (Some t) b = false

-- The parts of a string after the first `inside` bytes, which belong to a token.
abbrev pub parts_from : Labels → ℕ → Bool → List ℕ → List Part
parts_from labels inside after_digit [] = []
parts_from labels (suc inside) after_digit (b ∷ s) = parts_from labels inside false s
parts_from labels zero after_digit (b ∷ s) =
    let t = token_at labels after_digit (b ∷ s) in
    first_part t b s ∷ parts_from labels (left_inside t) (is_literal_digit t b) s

-- The whole string as one token, if it has a label. Otherwise its parts.
abbrev pub whole_or : Option (List ℕ) → List ℕ → List Part → List Part
whole_or None s ps = ps
whole_or (Some label) s ps = token Whole label s ∷ []

-- The parts of a string (own). A string whose form `Whole` has a label is one token.
abbrev pub parts : Labels → List ℕ → List Part
parts labels s = whole_or (labels Whole) s (parts_from labels 0 false s)

-- Parts of canonical texts. Source: `text_of` of the crate dap_tree. For private clauses.
use Rattle.std.specs.Prelude.{◌≡◌, ℕ, Bool, true, false, ◌==◌, cond, ◌||◌, List, [], ◌∷◌, ◌++◌}
use Rattle.std.specs.Prelude.{drop, Option, Some, None, option_map}
use Rattle.std.specs.{Borrow.Bor, List.list_all}
use Rattle.std.specs.Int.{w64, trailing_zeros}
use Rattle.dap_tree.specs.{Doc.Doc, Json.text_of}
use Rattle.dap_transcript.specs.Scalars.{is_simple}

-- The byte that follows a value inside a canonical text: `,`, `]` or `}`.
abbrev pub ends_value : List ℕ → Bool
ends_value [] = false
ends_value (b ∷ s) = (b == 44) || ((b == 93) || (b == 125))

-- The text is divided into these two parts.
abbrev pub Splits : Option (Bor (List ℕ) × Bor (List ℕ)) → List ℕ → List ℕ → Type 0
Splits None front rest = ⊥
Splits (Some r) front rest = (r.0.now ≡ front) × (r.1.now ≡ rest)

-- The text is divided into this string, with quotes but no escapes, and what follows it.
abbrev pub SplitsSimple : Bor (List ℕ) × Bor (List ℕ) → List ℕ → List ℕ → Type 0
SplitsSimple r s rest = (r.0.now ≡ 34 ∷ (s ++ 34 ∷ [])) × (r.1.now ≡ rest)
    × (list_all is_simple s ≡ true)

-- The text starts with a quote.
abbrev pub opens_string : List ℕ → Bool
opens_string [] = false
opens_string (b ∷ s) = b == 34

-- The text starts with `[` or `{`.
abbrev pub opens_nest : List ℕ → Bool
opens_nest [] = false
opens_nest (b ∷ s) = (b == 91) || (b == 123)

-- What follows a string in a text that starts inside of it: the text after the first quote that no
-- backslash escapes. The flag is whether a backslash escapes the first byte.
abbrev pub string_rest : Bool → List ℕ → Option (List ℕ)
string_rest escaped [] = None
string_rest true (b ∷ s) = string_rest false s
string_rest false (b ∷ s) = cond (b == 34) (Some s) (string_rest (b == 92) s)

-- What follows this place of a text.
abbrev pub rest_from : List ℕ → Option ℕ → Option (List ℕ)
rest_from text end = option_map (λ at. drop at text) end

-- If the text starts with a value, the place is the end of the value.
abbrev pub EndsValue : List ℕ → Option ℕ → Type 0
EndsValue text end = (d : Doc) (more : List ℕ) → text ≡ text_of d ++ more
    → ends_value more ≡ true → rest_from text end ≡ Some more

-- The place of the lowest bit that is set, or n.
abbrev pub first_set : ℕ → ℕ → ℕ
first_set mask n = cond (mask == 0) n (trailing_zeros w64 mask)

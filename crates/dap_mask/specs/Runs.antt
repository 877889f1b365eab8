-- The parts of a line of a rules file: runs of bytes of one class, strings, blanks, and the end of
-- the line.
use Rattle.std.specs.Prelude.{ℕ, suc, ◌==◌, Bool, true, false, cond, not, ◌&&◌, ◌||◌, List, [], ◌∷◌}
use Rattle.std.specs.{Prelude.{length, Option, Some, None}, Char.is_ascii_alphanumeric}
use Rattle.dap_mask.specs.declared.runs.ByteClass.{ByteClass}
use Rattle.dap_mask.specs.declared.runs.ByteClass.TheVariants.{Blank, Plain, Word, InLine}

-- A blank: a space, a tab, or a carriage return.
abbrev pub is_blank : ℕ → Bool
is_blank b = (b == 32) || ((b == 9) || (b == 13))

-- A byte of a name without quotes: an ASCII letter, a digit, `_`, `-` or `$`.
abbrev pub is_plain : ℕ → Bool
is_plain b = is_ascii_alphanumeric b || ((b == 95) || ((b == 45) || (b == 36)))

abbrev pub has_class : ByteClass → ℕ → Bool
has_class Blank b = is_blank b
has_class Plain b = is_plain b
has_class Word b = not (is_blank b)
has_class InLine b = not (b == 10)

-- The longest prefix of a text with bytes of a class, and the rest of the text.
abbrev pub front : (ℕ → Bool) → List ℕ → List ℕ
front class [] = []
front class (b ∷ s) = cond (class b) (b ∷ front class s) []

abbrev pub behind : (ℕ → Bool) → List ℕ → List ℕ
behind class [] = []
behind class (b ∷ s) = cond (class b) (behind class s) (b ∷ s)

-- Adds the byte at the start of the first of these lines.
abbrev pub onto : ℕ → List (List ℕ) → List (List ℕ)
onto b [] = (b ∷ []) ∷ []
onto b (l ∷ ls) = (b ∷ l) ∷ ls

-- The lines of a text: the parts before, between and after its line feeds.
abbrev pub lines_of : List ℕ → List (List ℕ)
lines_of [] = [] ∷ []
lines_of (b ∷ s) = cond (b == 10) ([] ∷ lines_of s) (onto b (lines_of s))

-- The number of bytes up to and including the quote that closes a string, which is the first quote
-- that no backslash escapes; the length of the text if no quote closes it. `escaped` says whether
-- a backslash before the text escapes its first byte.
abbrev pub closing : Bool → List ℕ → ℕ
closing escaped [] = 0
closing escaped (b ∷ s) =
    cond ((b == 34) && not escaped) 1 (suc (closing ((b == 92) && not escaped) s))

-- A quote that no backslash escapes closes the string.
abbrev pub is_closed : Bool → List ℕ → Bool
is_closed escaped [] = false
is_closed escaped (b ∷ s) =
    cond ((b == 34) && not escaped) true (is_closed ((b == 92) && not escaped) s)

-- The rest of the text after one or more blanks.
abbrev pub gap : List ℕ → Option (List ℕ)
gap s = cond (length (front is_blank s) == 0) None (Some (behind is_blank s))

-- The text is empty or starts with a comment.
abbrev pub is_over : List ℕ → Bool
is_over [] = true
is_over (b ∷ s) = b == 35

-- The text contains only blanks and perhaps a comment.
abbrev pub is_end : List ℕ → Bool
is_end s = is_over (behind is_blank s)

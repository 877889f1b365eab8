-- The theorems that the functions of `laws` state.
use Rattle.std.specs.Prelude.{◌≡◌, ◌≢◌, ◌↔◌, ◌≤◌, ◌+◌, ℕ, List, true, []}
use Rattle.dap_tree.specs.Doc.{Doc, is_ordered}
use Rattle.dap_tree.specs.Json.{text_of}
use Rattle.dap_difference.specs.Telling.{differences}
use Rattle.dap_difference.specs.Windows.{characters, window}

-- Two documents whose members are in order have no differences if and only if they are equal.
abbrev pub NoneWhereSame : Type 0
NoneWhereSame = (a b : Doc) → is_ordered a ≡ true → is_ordered b ≡ true
    → (differences a b ≡ []) ↔ (a ≡ b)

-- If the JSON texts of two values differ, so do their windows. This holds for the limit of
-- `value_text`, and for every limit from 97 on: the 16 signs before the first difference have at
-- most 96 characters.
abbrev pub PrintedApart : Type 0
PrintedApart = (limit : ℕ) (d e : Doc) → 97 ≤ limit → text_of d ≢ text_of e
    → window limit (text_of d) (text_of e) ≢ window limit (text_of e) (text_of d)

-- A text with at most as many characters as the limit is printed whole.
abbrev pub PrintedWhole : Type 0
PrintedWhole = (limit : ℕ) (s t : List ℕ) → characters s ≤ limit → window limit s t ≡ s

-- A window has at most as many characters as the limit, and six dots.
abbrev pub WindowsAreShort : Type 0
WindowsAreShort = (limit : ℕ) (s t : List ℕ) → characters (window limit s t) ≤ limit + 6

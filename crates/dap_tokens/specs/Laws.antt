-- The laws that the functions of `laws` state.
use Rattle.std.specs.Prelude.{◌≡◌, ◌↔◌, ℕ, true, List, [], Some, None, decimal}
use Rattle.std.specs.Str.{is_utf8}
use Rattle.dap_tokens.specs.Tokens.{Labels, is_label}
use Rattle.dap_tokens.specs.Naming.{Numbering, ids, named, skeleton, IsNumbering, numbered}
use Rattle.dap_tokens.specs.Naming.{named_by}
use Rattle.dap_tokens.specs.declared.form.Form.{Form}

-- Each form has a valid label or none.
abbrev pub AreLabels : Labels → Type 0
AreLabels labels =
    (form : Form) (label : List ℕ) → labels form ≡ Some label → is_label label ≡ true

-- A named string has the same ids at the same places, with their numbers as values.
abbrev pub NamesAreRead : Type 0
NamesAreRead = (labels : Labels) (number : Numbering) (s : List ℕ)
    → AreLabels labels → IsNumbering number
    → ids labels (named labels number s) ≡ named_by number (ids labels s)

-- Naming a named string replaces the number of each id.
abbrev pub NamedTwice : Type 0
NamedTwice = (labels : Labels) (number other : Numbering) (s : List ℕ)
    → AreLabels labels → IsNumbering number
    → named labels other (named labels number s)
    ≡ named labels (λ label v. other label (decimal (number label v))) s

-- Only the numbers of the ids of a string matter: two strings that are the same except for their
-- ids, and whose ids have equal labels and numbers, have the same named string. And only such
-- strings have.
abbrev pub EqualNamed : Type 0
EqualNamed = (labels : Labels) (number other : Numbering) (s t : List ℕ)
    → AreLabels labels → IsNumbering number → IsNumbering other
    → (named labels number s ≡ named labels other t)
    ↔ ((skeleton labels s ≡ skeleton labels t)
    × (numbered number (ids labels s) ≡ numbered other (ids labels t)))

-- A string in UTF-8 stays in UTF-8.
abbrev pub NamedUtf8 : Type 0
NamedUtf8 = (labels : Labels) (number : Numbering) (s : List ℕ)
    → AreLabels labels → is_utf8 s ≡ true → is_utf8 (named labels number s) ≡ true

-- A string without labels stays, and has no ids.
abbrev pub NoLabels : Type 0
NoLabels = (number : Numbering) (s : List ℕ)
    → (named (λ form. None) number s ≡ s) × (ids (λ form. None) s ≡ [])

-- The lines of an explanation. Source: own; they follow the line of a rejection on standard error.
use Rattle.std.specs.{Prelude.{◌≡◌, ◌≢◌, ◌≤◌, ℕ, List, ◌++◌, codes, All}, List.flat_map}

-- A byte that a terminal prints: not an ASCII control character.
abbrev pub IsPrinted : ℕ → Type 0
IsPrinted byte = (32 ≤ byte) × (byte ≢ 127)

-- A line starts with two spaces, so it cannot be mistaken for the line of a rejection.
abbrev pub line_of : List ℕ → List ℕ
line_of words = codes "  " ++ words ++ codes "\n"

-- An explanation is a list of such lines, possibly empty.
pub record AreLines (text : List ℕ) : Type 0 where
  pub lines : List (List ℕ)
  pub printed : All (All IsPrinted) lines
  pub same : text ≡ flat_map line_of lines

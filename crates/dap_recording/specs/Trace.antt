-- Traces, and what their bytes contain. The format is this project's own.
use Rattle.std.specs.Prelude.{◌≡◌, ◌≢◌, ℕ, ◌<◌, ◌≤◌, ◌⊎◌, true, List, [], ◌∷◌, ◌++◌, length}
use Rattle.std.specs.Prelude.{slice_index, Result, Ok, Err}
use Rattle.std.specs.List.{list_all}
use Rattle.std.specs.Char.{is_ascii_digit}
use Rattle.dap_frame.specs.Grammar.{Grammar, IsItem, ParsesAs, HasItem, IsStream, FailsAt}
use Rattle.dap_frame.specs.Combinators.{and_then, until, take_bytes}
use Rattle.dap_frame.specs.Lines.{number_of}
use Rattle.dap_tree.specs.declared.side.Side.{Side}
use Rattle.dap_recording.specs.declared.trace_fault.TraceCause.{TraceCause}
use Rattle.dap_recording.specs.declared.trace_fault.TraceCause.TheVariants.{BadMarker, BadCount}
use Rattle.dap_recording.specs.Marker.{markers}

-- The text is a count (own): 1 to 10 decimal digits, without leading zeros except for a single 0.
pub record IsCount (text : List ℕ) : Type 0 where
  pub some : 0 < length text
  pub few : length text ≤ 10
  pub digits : list_all is_ascii_digit text ≡ true
  pub plain : (length text ≡ 1) ⊎ (slice_index text 0 ≢ 48)

-- The text is a prefix of a count.
abbrev pub IsCountFront : List ℕ → Type 0
IsCountFront text = (text ≡ []) ⊎ IsCount text

-- The byte after these digits is neither the next digit of a count nor its LF (own).
pub record IsBadAt (text : List ℕ) (byte : ℕ) : Type 0 where
  pub begun : IsCountFront text
  pub no_end : byte ≡ 10 → text ≡ []
  pub no_count : IsCount (text ++ byte ∷ []) → ⊥

-- the byte after the digits of a count (own): it is LF, and the digits represent this number, or it
-- proves an error
abbrev pub EndsCount : List ℕ → ℕ → Result ℕ TraceCause → Type 0
EndsCount text byte (Ok number) = (byte ≡ 10) × IsCount text × (number ≡ number_of text)
EndsCount text byte (Err cause) = IsBadAt text byte × (cause ≡ BadCount)

-- count lines as items
abbrev pub counts : Grammar ℕ TraceCause
counts = until IsCountFront EndsCount

-- a count line and as many raw bytes of this side as it states
abbrev pub counted : Side → Grammar (Side × List ℕ) TraceCause
counted side = and_then counts (take_bytes (λ raw. (side, raw))) (λ cause. cause)

-- pieces as the items of a trace (own): a marker, the number of the raw bytes, LF, the raw bytes
abbrev pub pieces_of : Grammar (Side × List ℕ) TraceCause
pieces_of = and_then (markers BadMarker) counted (λ cause. cause)

-- The bytes are one piece of this side with these raw bytes.
abbrev pub IsPiece : List ℕ → Side → List ℕ → Type 0
IsPiece bytes side raw = IsItem pieces_of bytes (side, raw)

-- The bytes after complete pieces are incomplete (own): there are none, a prefix of the count line,
-- or too few raw bytes.
abbrev pub IsOpenPiece : List ℕ → Type 0
IsOpenPiece = pieces_of.IsOpen

-- the general definitions for items, applied to pieces
abbrev pub IsTrace : List ℕ → List (Side × List ℕ) → Type 0
IsTrace = ParsesAs pieces_of

abbrev pub HasPiece : List ℕ → Type 0
HasPiece = HasItem pieces_of

abbrev pub PieceStream : List ℕ → List (Side × List ℕ) → List ℕ → Type 0
PieceStream = IsStream pieces_of

abbrev pub ShowsTraceFault : List ℕ → TraceCause → ℕ → Type 0
ShowsTraceFault = FailsAt pieces_of

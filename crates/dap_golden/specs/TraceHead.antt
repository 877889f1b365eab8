-- The first bytes of a trace and of a recording. Source: own. A trace starts with a marker and the
-- line of a count, and a recording starts with a marker and the name of a header field. Therefore
-- the first bytes of an input decide which of the two it is.
use Rattle.std.specs.Prelude.{◌≡◌, ◌<◌, ◌⊎◌, ℕ, true, List, [], ◌∷◌, ◌++◌, codes, length, take}
use Rattle.std.specs.{Char.is_ascii_digit, List.list_all, Str.str_eq_ignore_ascii_case}
use Rattle.dap_recording.specs.Marker.{marker}
use Rattle.dap_tree.specs.declared.side.Side.{Side}
use Rattle.dap_transcript.specs.Transcript.{starts_with_head}

-- The byte is the marker of a side.
abbrev pub IsMarker : ℕ → Type 0
IsMarker byte = (side : Side) × (byte ≡ marker side)

-- The bytes are empty or start with LF.
abbrev pub IsLineEnd : List ℕ → Type 0
IsLineEnd bytes = (bytes ≡ []) ⊎ ((more : List ℕ) × (bytes ≡ 10 ∷ more))

-- The bytes start with at least one decimal digit, and the digits are followed by LF or the end.
pub record StartsWithCount (bytes : List ℕ) : Type 0 where
  pub digits : List ℕ
  pub rest : List ℕ
  pub split : bytes ≡ digits ++ rest
  pub some : 0 < length digits
  pub are_digits : list_all is_ascii_digit digits ≡ true
  pub line_end : IsLineEnd rest

-- The input starts like a trace: with the marker of a side and a count.
pub record IsTraceHead (input : List ℕ) : Type 0 where
  pub byte : ℕ
  pub rest : List ℕ
  pub split : input ≡ byte ∷ rest
  pub is_marker : IsMarker byte
  pub count : StartsWithCount rest

-- The bytes start with the name of a header field that starts with `Content-`, in letters of any
-- case. The protocol defines the field `Content-Length`.
abbrev pub StartsWithField : List ℕ → Type 0
StartsWithField bytes = str_eq_ignore_ascii_case (take 8 bytes) (codes "Content-") ≡ true

-- The bytes start like a recording: with the marker of a side and a header field.
pub record IsRecordingHead (bytes : List ℕ) : Type 0 where
  pub byte : ℕ
  pub rest : List ℕ
  pub split : bytes ≡ byte ∷ rest
  pub is_marker : IsMarker byte
  pub field : StartsWithField rest

-- A file with these bytes can become a golden file: it is empty, or starts like a recording or like
-- a transcript.
abbrev pub CanBecomeGolden : List ℕ → Type 0
CanBecomeGolden bytes =
    (bytes ≡ []) ⊎ (IsRecordingHead bytes ⊎ (starts_with_head bytes ≡ true))

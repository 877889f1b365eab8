-- Recordings, and what their bytes contain. The format is this project's own. Its frames are those
-- of the DAP base protocol. A message is its side and its content.
use Rattle.std.specs.Prelude.{◌≡◌, ◌≢◌, ℕ, List, [], ◌∷◌, ◌++◌, Result, Ok, Err}
use Rattle.std.specs.List.{flat_map}
use Rattle.dap_frame.specs.Grammar.{Grammar, IsItem, ParsesAs, HasItem, IsStream, FailsAt}
use Rattle.dap_frame.specs.Combinators.{and_then, one_byte}
use Rattle.dap_frame.specs.declared.limits.FrameLimits.{FrameLimits}
use Rattle.dap_frame.specs.Frame.{frames, frame_text}
use Rattle.dap_tree.specs.declared.side.Side.{Side}
use Rattle.dap_recording.specs.declared.record_fault.RecordCause.{RecordCause}
use Rattle.dap_recording.specs.declared.record_fault.RecordCause.TheVariants.{BadMarker, Frame}
use Rattle.dap_recording.specs.declared.record_fault.RecordCause.TheVariants.{NoLineEnd}
use Rattle.dap_recording.specs.Marker.{marker, markers}

-- the record that is written for a message (own)
abbrev pub record_text : Side → List ℕ → List ℕ
record_text side content = (marker side ∷ frame_text content) ++ 10 ∷ []

-- the records that are written for messages, in order (own)
abbrev pub recording_text : List (Side × List ℕ) → List ℕ
recording_text messages = flat_map (λ message. record_text message.0 message.1) messages

-- the byte after a frame (own): it is LF and completes the record of this message, or it proves an
-- error
abbrev pub EndsLine : Side × List ℕ → ℕ → Result (Side × List ℕ) RecordCause → Type 0
EndsLine message byte (Ok whole) = (byte ≡ 10) × (whole ≡ message)
EndsLine message byte (Err cause) = (byte ≢ 10) × (cause ≡ NoLineEnd)

-- a frame of this side and the byte after it
abbrev pub lines : FrameLimits → Side → Grammar (Side × List ℕ) RecordCause
lines limits side = and_then (frames limits) (λ content. one_byte (EndsLine (side, content))) Frame

-- records as the items of a recording (own): a marker, a frame, LF
abbrev pub records : FrameLimits → Grammar (Side × List ℕ) RecordCause
records limits = and_then (markers BadMarker) (lines limits) (λ cause. cause)

-- The bytes are one record of this side with this content.
abbrev pub IsRecord : FrameLimits → List ℕ → Side → List ℕ → Type 0
IsRecord limits bytes side content = IsItem (records limits) bytes (side, content)

-- The bytes after complete records are incomplete (own): there are none, a proper prefix of the
-- frame, or everything except the LF.
abbrev pub IsOpenRecord : FrameLimits → List ℕ → Type 0
IsOpenRecord limits = (records limits).IsOpen

-- the general definitions for items, applied to records
abbrev pub IsRecording : FrameLimits → List ℕ → List (Side × List ℕ) → Type 0
IsRecording limits = ParsesAs (records limits)

abbrev pub HasRecord : FrameLimits → List ℕ → Type 0
HasRecord limits = HasItem (records limits)

abbrev pub RecordStream : FrameLimits → List ℕ → List (Side × List ℕ) → List ℕ → Type 0
RecordStream limits = IsStream (records limits)

abbrev pub ShowsFault : FrameLimits → List ℕ → RecordCause → ℕ → Type 0
ShowsFault limits = FailsAt (records limits)

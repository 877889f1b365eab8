-- The rest of each side's stream that a recorder represents to its callers, its text, and the
-- result of a call.
use Rattle.std.specs.Prelude.{◌≡◌, ℕ, ◌≤◌, ◌⊎◌, List, [], ◌++◌, length, take, Result, Ok, Err}
use Rattle.std.specs.Prelude.{Option, Some, None}
use Rattle.dap_frame.specs.declared.limits.FrameLimits.{FrameLimits}
use Rattle.dap_frame.specs.declared.fault.FrameFault.{FrameFault}
use Rattle.dap_frame.specs.Frame.{IsFrame, FailsAt}
use Rattle.dap_frame.specs.Reading.{Reading, Represents, limits_of}
use Rattle.dap_tree.specs.declared.side.Side.{Side}
use Rattle.dap_tree.specs.declared.side.Side.TheVariants.{Client, Adapter}
use Rattle.dap_recording.specs.declared.recorder_fault.RecorderFault.{RecorderFault}
use Rattle.dap_recording.specs.declared.recorder_fault.RecorderFault.TheVariants.{Frame, Memory}
use Rattle.dap_recording.specs.Recording.{record_text}

-- The stored state: the limits, a framer for each side, the recording so far, and the error that
-- occurred. Callers need only `recorder_limits`, `text_of`, `HasFailedWith` and `RepresentsRests`.
pub record RecorderReading : Type 0 where
  pub limits : FrameLimits
  pub client : Reading
  pub adapter : Reading
  pub text : List ℕ
  pub fault : Option RecorderFault

-- the limits that the recorder was made with
abbrev pub recorder_limits : RecorderReading → FrameLimits
recorder_limits recorder = recorder.limits

-- the recording so far
abbrev pub text_of : RecorderReading → List ℕ
text_of recorder = recorder.text

-- the state of a side's current frame
abbrev pub framer_of : RecorderReading → Side → Reading
framer_of recorder Client = recorder.client
framer_of recorder Adapter = recorder.adapter

-- This error occurred before.
abbrev pub HasFailedWith : RecorderReading → RecorderFault → Type 0
HasFailedWith recorder fault = recorder.fault ≡ Some fault

-- The recorder represents these rests of the two sides' streams, which are incomplete under its
-- limits.
pub record RepresentsRests (recorder : RecorderReading) (rests : Side → List ℕ) : Type 0 where
  pub going : recorder.fault ≡ None
  pub limits : (side : Side) → limits_of (framer_of recorder side) ≡ recorder_limits recorder
  pub each : (side : Side) → Represents (framer_of recorder side) (rests side)

-- the rests, with another one for this side
abbrev pub with_rest : Side → List ℕ → (Side → List ℕ) → Side → List ℕ
with_rest Client rest rests Client = rest
with_rest Client rest rests Adapter = rests Adapter
with_rest Adapter rest rests Client = rests Client
with_rest Adapter rest rests Adapter = rest

-- The whole piece was consumed, and the side's frame continues.
pub record GoesOn (side : Side) (rests : Side
    → List ℕ) (piece : List ℕ) (old new : RecorderReading) (used : ℕ) : Type 0 where
  pub all : used ≡ length piece
  pub text : text_of new ≡ text_of old
  pub represents : RepresentsRests new (with_rest side (rests side ++ piece) rests)

-- `used` bytes of the piece were consumed. A frame of the side ended there, and its record was
-- appended.
pub record HasRecorded (side : Side) (rests : Side
    → List ℕ) (piece : List ℕ) (old new : RecorderReading) (used : ℕ) : Type 0 where
  pub within : used ≤ length piece
  pub content : List ℕ
  pub is_frame : IsFrame (recorder_limits old) (rests side ++ take used piece) content
  pub text : text_of new ≡ text_of old ++ record_text side content
  pub represents : RepresentsRests new (with_rest side [] rests)

-- An error of the side's frame, which its rest and the piece prove. The text is unchanged.
pub record HasNotRecorded (side : Side) (rests : Side
    → List ℕ) (piece : List ℕ) (old new : RecorderReading) (fault : RecorderFault) : Type 0 where
  pub cause : FrameFault
  pub fault_is : fault ≡ Frame side cause
  pub shown : (i : ℕ) × FailsAt (recorder_limits old) (rests side ++ piece) cause i
  pub failed : HasFailedWith new fault
  pub text : text_of new ≡ text_of old

-- The result of a call if the recorder represented the rests, and the rests that it represents
-- then.
abbrev pub GivesPiece : Side → (Side → List ℕ) → List ℕ → RecorderReading → RecorderReading
    → Result ℕ RecorderFault → Type 0
GivesPiece side rests piece old new (Ok used) =
    GoesOn side rests piece old new used ⊎ HasRecorded side rests piece old new used
GivesPiece side rests piece old new (Err fault) =
    ((fault ≡ Memory) × (new ≡ old)) ⊎ HasNotRecorded side rests piece old new fault

-- The effect of a piece of one side on a recording. `rest` are the bytes of the side's current
-- frame before the piece.
use Rattle.std.specs.Prelude.{◌≡◌, ◌≢◌, ℕ, ◌<◌, ◌⊎◌, List, [], ◌++◌, length, take, Result, Ok}
use Rattle.std.specs.Prelude.{Err}
use Rattle.dap_frame.specs.declared.limits.FrameLimits.{FrameLimits}
use Rattle.dap_frame.specs.declared.fault.FrameFault.{FrameFault}
use Rattle.dap_frame.specs.declared.fault.FrameFault.TheVariants.{Memory}
use Rattle.dap_frame.specs.Frame.{HasContentByte, HasFrame, IsFrame, FailsAt}
use Rattle.dap_frame.specs.Reading.{Reading, Represents}
use Rattle.dap_tree.specs.declared.side.Side.{Side}
use Rattle.dap_recording.specs.Recording.{record_text}

-- The piece may need memory: it is not empty; and with it a byte of the frame's content has
-- arrived, or a frame has ended, whose record is appended.
abbrev pub WantsMemory : FrameLimits → List ℕ → List ℕ → Type 0
WantsMemory limits rest piece = (0 < length piece)
    × (HasContentByte limits (rest ++ piece) ⊎ HasFrame limits (rest ++ piece))

-- The whole piece was consumed, and the frame continues.
pub record TakesAll (rest piece before after : List ℕ) (new : Reading) (used : ℕ) : Type 0 where
  pub all : used ≡ length piece
  pub text : after ≡ before
  pub represents : Represents new (rest ++ piece)

-- `used` bytes of the piece were consumed. A frame ended there, and its record was appended.
pub record TakesFrame (limits : FrameLimits) (side : Side) (rest piece before after : List ℕ)
    (new : Reading) (used : ℕ) : Type 0 where
  pub content : List ℕ
  pub is_frame : IsFrame limits (rest ++ take used piece) content
  pub text : after ≡ before ++ record_text side content
  pub represents : Represents new []

-- The returned error is `Memory`, the piece may need memory, and nothing is changed; or the rest
-- and the piece prove the error.
pub record TakesFault (limits : FrameLimits) (rest piece before after : List ℕ) (old new : Reading)
    (fault : FrameFault) : Type 0 where
  pub text : after ≡ before
  pub memory : fault ≡ Memory → new ≡ old
  pub wanted : fault ≡ Memory → WantsMemory limits rest piece
  pub shown : fault ≢ Memory → (i : ℕ) × FailsAt limits (rest ++ piece) fault i

-- the result of a call if the framer represented the rest
abbrev pub Takes : FrameLimits → Side → List ℕ → List ℕ → List ℕ → List ℕ → Reading → Reading
    → Result ℕ FrameFault → Type 0
Takes limits side rest piece before after old new (Ok used) =
    TakesAll rest piece before after new used
    ⊎ TakesFrame limits side rest piece before after new used
Takes limits side rest piece before after old new (Err fault) =
    TakesFault limits rest piece before after old new fault

-- The records of a trace, stated over all its pieces at once.
use Rattle.std.specs.Prelude.{◌≡◌, ℕ, Bool, true, false, List, ◌++◌, map, filter}
use Rattle.std.specs.List.{flat_map}
use Rattle.dap_frame.specs.declared.limits.FrameLimits.{FrameLimits}
use Rattle.dap_frame.specs.Frame.{Stream}
use Rattle.dap_tree.specs.declared.side.Side.{Side}
use Rattle.dap_tree.specs.declared.side.Side.TheVariants.{Client, Adapter}
use Rattle.dap_recording.specs.Recording.{recording_text}
use Rattle.dap_recording.specs.RecorderReading.{RecorderReading, RepresentsRests, text_of}
use Rattle.dap_recording.specs.RecorderReading.{recorder_limits}

-- whether the two sides are equal
abbrev pub is_side : Side → Side → Bool
is_side Client Client = true
is_side Client Adapter = false
is_side Adapter Client = false
is_side Adapter Adapter = true

-- the data that the side sent, without that of the other side
abbrev pub of_side : {A : Type 0} → Side → List (Side × A) → List A
of_side side sent = map (λ x. x.1) (filter (λ x. is_side side x.0) sent)

-- the bytes of pieces in the order of the trace, each with its side
abbrev pub bytes_of : List (Side × List ℕ) → List (Side × ℕ)
bytes_of pieces = flat_map (λ piece. map (λ byte. (piece.0, byte)) piece.1) pieces

-- For each side, the frames of these messages have ended in these bytes, and this rest is
-- incomplete (own).
abbrev pub HaveEnded : FrameLimits → List (Side × ℕ) → List (Side × List ℕ) → (Side → List ℕ)
    → Type 0
HaveEnded limits bytes messages rests =
    (side : Side) → Stream limits (of_side side bytes) (of_side side messages) (rests side)

-- The messages are those of the bytes, in the order of the bytes that end their frames (own): for
-- each prefix of the bytes, the frames that have ended in it are a prefix of the messages.
pub record AreRecorded (limits : FrameLimits) (bytes : List (Side × ℕ))
    (messages : List (Side × List ℕ)) (rests : Side → List ℕ) : Type 0 where
  pub all : HaveEnded limits bytes messages rests
  pub so_far : (front back : List (Side × ℕ)) → bytes ≡ front ++ back
      → (before : List (Side × List ℕ)) × (after : List (Side × List ℕ)) × (others : Side → List ℕ)
      × (messages ≡ before ++ after) × HaveEnded limits front before others

-- All pieces of the trace except the remaining ones have been consumed. The recorder represents the
-- rests of the consumed bytes, and its text has their records, in order.
pub record RecordedSoFar (first last : RecorderReading) (pieces left : List (Side × List ℕ)) : Type
    0 where
  pub taken : List (Side × ℕ)
  pub messages : List (Side × List ℕ)
  pub rests : Side → List ℕ
  pub bytes_are : bytes_of pieces ≡ taken ++ bytes_of left
  pub recorded : AreRecorded (recorder_limits first) taken messages rests
  pub text_is : text_of last ≡ text_of first ++ recording_text messages
  pub represents : RepresentsRests last rests
  pub limits : recorder_limits last ≡ recorder_limits first

-- Laws of frames, which hold for all bytes, and of framers, which hold for any chunks.
use Rattle.std.specs.Prelude.{◌≡◌, ◌≢◌, ℕ, ◌<◌, ◌≤◌, ◌⊎◌, List, [], ◌∷◌, ◌++◌, length, Err}
use Rattle.std.specs.List.{concat}
use Rattle.dap_frame.specs.declared.limits.FrameLimits.{FrameLimits}
use Rattle.dap_frame.specs.declared.fault.FrameFault.{FrameFault}
use Rattle.dap_frame.specs.declared.fault.FrameFault.TheVariants.{Cut, Memory}
use Rattle.dap_frame.specs.Limits.{IsSound}
use Rattle.dap_frame.specs.Frame.{IsFrame, HasFrame, Stream, FailsAt, IsOpen, frame_text}
use Rattle.dap_frame.specs.Reading.{Reading, Represents, HasFailed, limits_of}
use Rattle.dap_frame.specs.Feeding.{IsCall, Feeds}

-- Bytes start with at most one frame.
abbrev pub OneFrame : Type 0
OneFrame = (limits : FrameLimits) (f g y z c d : List ℕ)
    → f ++ y ≡ g ++ z → IsFrame limits f c → IsFrame limits g d → (f ≡ g) × (c ≡ d)

-- The empty byte string is not a frame.
abbrev pub NoEmptyFrame : Type 0
NoEmptyFrame = (limits : FrameLimits) (content : List ℕ) → IsFrame limits [] content → ⊥

-- All bytes are frames with some contents, followed by a rest that does not start with a frame.
abbrev pub SomeStream : Type 0
SomeStream = (limits : FrameLimits) (bytes : List ℕ)
    → (contents : List (List ℕ)) × (rest : List ℕ) × Stream limits bytes contents rest

-- They are so in only one way.
abbrev pub OneStream : Type 0
OneStream = (limits : FrameLimits) (bytes : List ℕ) (cs ds : List (List ℕ)) (r s : List ℕ)
    → Stream limits bytes cs r → Stream limits bytes ds s → (cs ≡ ds) × (r ≡ s)

-- Bytes prove at most one error, at one byte.
abbrev pub OneFault : Type 0
OneFault = (limits : FrameLimits) (bytes : List ℕ) (f g : FrameFault) (i j : ℕ)
    → FailsAt limits bytes f i → FailsAt limits bytes g j → (f ≡ g) × (i ≡ j)

-- The byte that proves an error is one of the bytes, counted from 1.
abbrev pub ShownWithin : Type 0
ShownWithin = (limits : FrameLimits) (bytes : List ℕ) (fault : FrameFault) (i : ℕ)
    → FailsAt limits bytes fault i → (IsSound limits → 0 < i) × (i ≤ length bytes)

-- Bytes prove neither the end of a stream nor an allocation failure.
abbrev pub ShownOfFormat : Type 0
ShownOfFormat = (limits : FrameLimits) (bytes : List ℕ) (fault : FrameFault) (i : ℕ)
    → FailsAt limits bytes fault i → (fault ≢ Cut) × (fault ≢ Memory)

-- An error remains if more bytes follow.
abbrev pub FaultStays : Type 0
FaultStays = (limits : FrameLimits) (bytes more : List ℕ) (fault : FrameFault) (i : ℕ)
    → FailsAt limits bytes fault i → FailsAt limits (bytes ++ more) fault i

-- An error does not depend on bytes after the one that proves it.
abbrev pub FaultNeedsNoMore : Type 0
FaultNeedsNoMore = (limits : FrameLimits) (bytes more : List ℕ) (fault : FrameFault) (i : ℕ)
    → FailsAt limits (bytes ++ more) fault i → i ≤ length bytes → FailsAt limits bytes fault i

-- Bytes that start with a frame prove no error.
abbrev pub FrameNotFaulty : Type 0
FrameNotFaulty = (limits : FrameLimits) (frame more content : List ℕ) (fault : FrameFault) (i : ℕ)
    → IsFrame limits frame content → FailsAt limits (frame ++ more) fault i → ⊥

-- Bytes that start with a frame are not incomplete.
abbrev pub FrameNotOpen : Type 0
FrameNotOpen = (limits : FrameLimits) (frame more content : List ℕ)
    → IsFrame limits frame content → IsOpen limits (frame ++ more) → ⊥

-- Incomplete bytes prove no error.
abbrev pub OpenNotFaulty : Type 0
OpenNotFaulty = (limits : FrameLimits) (bytes : List ℕ) (fault : FrameFault) (i : ℕ)
    → IsOpen limits bytes → FailsAt limits bytes fault i → ⊥

-- Every byte string starts with a frame, proves an error, or is incomplete.
abbrev pub SomeOutcome : Type 0
SomeOutcome = (limits : FrameLimits) (bytes : List ℕ)
    → HasFrame limits bytes
    ⊎ (((fault : FrameFault) × (i : ℕ) × FailsAt limits bytes fault i) ⊎ IsOpen limits bytes)

-- The output for a content is a frame with this content.
abbrev pub WrittenIsFrame : Type 0
WrittenIsFrame = (limits : FrameLimits) (content : List ℕ)
    → IsSound limits → length content ≤ limits.content → IsFrame limits (frame_text content) content

-- For any chunks: after all are used, the returned contents are those of the stream that consists
-- of the bytes that the framer represented and of the chunks. The framer then represents the rest
-- of that stream.
abbrev pub AnyPieces : Type 0
AnyPieces = (first last : Reading) (held : List ℕ) (pieces contents : List (List ℕ))
    → Represents first held → Feeds first pieces contents [] last
    → (rest : List ℕ) × Stream (limits_of first) (held ++ concat pieces) contents rest
    × Represents last rest

-- For any chunks: if a call returns an error of the format, the contents returned before are those
-- of that stream, and the rest of the stream proves the error.
abbrev pub FaultInAnyPieces : Type 0
FaultInAnyPieces =
    (first last new : Reading) (held piece : List ℕ) (pieces contents left : List (List ℕ))
    (fault : FrameFault)
    → Represents first held → Feeds first pieces contents (piece ∷ left) last
    → IsCall last piece (Err fault) new → fault ≢ Memory
    → (rest : List ℕ) × (i : ℕ) × Stream (limits_of first) (held ++ concat pieces) contents rest
    × FailsAt (limits_of first) rest fault i × HasFailed new fault

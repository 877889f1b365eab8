-- The output is a record.
use Rattle.std.proofs.Common.{◌≤◌, List, [], ◌∷◌, length, ℕ, Ok, refl}
use Rattle.std.specs.List.{AllByRecursion}
use Rattle.dap_frame.specs.declared.limits.FrameLimits.{FrameLimits}
use Rattle.dap_frame.specs.Limits.{IsSound}
use Rattle.dap_frame.specs.Frame.{frame_text}
use Rattle.dap_frame.proofs.WrittenFrames.{written_is_frame}
use Rattle.dap_tree.specs.declared.side.Side.{Side}
use Rattle.dap_recording.specs.Recording.{IsRecord, IsRecording, record_text, recording_text}
use Rattle.dap_recording.proofs.Records.{ends_line}

pub written_is_record : (limits : FrameLimits) (side : Side) (content : List ℕ) → IsSound limits
    → length content ≤ limits.content → IsRecord limits (record_text side content) side content
written_is_record limits side content sound short =
    ends_line limits side (frame_text content) content 10 (Ok (side, content))
    (written_is_frame limits content sound short) (refl, refl)

pub written_is_recording : (limits : FrameLimits) (messages : List (Side × List ℕ)) → IsSound limits
    → AllByRecursion (λ (message : Side × List ℕ). length message.1 ≤ limits.content) messages
    → IsRecording limits (recording_text messages) messages
written_is_recording limits [] sound short = refl
written_is_recording limits (message ∷ messages) sound short = (
  record_text message.0 message.1,
  recording_text messages,
  written_is_record limits message.0 message.1 sound short.0,
  refl,
  written_is_recording limits messages sound short.1,
)

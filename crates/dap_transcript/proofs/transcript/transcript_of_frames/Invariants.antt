use Rattle.std.proofs.Common.{◌≡◌, List, length}
use Rattle.std.specs.List.{All}
use Rattle.dap_message.specs.Message.{Sent}
use Rattle.dap_stored.specs.Contents.{IsOfContent}
use Rattle.dap_transcript.specs.{Recordings.frames, Records.FramesLeft}
use Rattle.dap_transcript.proofs.transcript.transcript_of_frames.Given as goal

abbrev pub invariant-loop-left : goal.invariant-loop-left
invariant-loop-left l = (messages : List Sent) → l.fn.recording ≡ frames messages
    → All IsOfContent messages → FramesLeft l.writer l.left messages

abbrev pub decreases-loop-left : goal.decreases-loop-left
decreases-loop-left l = length l.left

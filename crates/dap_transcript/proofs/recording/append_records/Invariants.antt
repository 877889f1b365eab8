use Rattle.std.proofs.Common.{◌≡◌, ◌++◌, map, take}
use Rattle.dap_stored.specs.Sessions.{stored_sent}
use Rattle.dap_transcript.specs.Recordings.{frames}
use Rattle.dap_transcript.proofs.TooLong.{Fit}
use Rattle.dap_transcript.proofs.recording.append_records.Given as goal

abbrev pub invariant-loop-message : goal.invariant-loop-message
invariant-loop-message l = record {
  number_is : l.number ≡ l.message-index;
  appended : l.out.items
      ≡ l.initial.out.items ++ frames (map stored_sent (take l.message-index l.messages));
  fit : Fit l.limits.content (take l.message-index (map stored_sent l.messages));
}

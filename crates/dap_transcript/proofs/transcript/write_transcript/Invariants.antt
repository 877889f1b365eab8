use Rattle.std.proofs.Common.{map, take}
use Rattle.dap_stored.specs.Sessions.{stored_sent}
use Rattle.dap_transcript.specs.Records.{HasWritten}
use Rattle.dap_transcript.proofs.transcript.write_transcript.Given as goal

-- The records of the messages before the place were written.
abbrev pub invariant-loop-message : goal.invariant-loop-message
invariant-loop-message l = HasWritten l.writer (take l.message-index (map stored_sent l.messages))

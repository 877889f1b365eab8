use Rattle.std.proofs.Common.{length}
use Rattle.dap_transcript.specs.Members.{CompletesWritten, omits}
use Rattle.dap_transcript.proofs.members.push_written.Given as goal

-- The members before what is left were passed.
abbrev pub invariant-loop-name : goal.invariant-loop-name
invariant-loop-name l =
    CompletesWritten (omits l.omitted) l.text l.initial.out.items l.waiting l.left l.out.items

abbrev pub decreases-loop-name : goal.decreases-loop-name
decreases-loop-name l = length l.left

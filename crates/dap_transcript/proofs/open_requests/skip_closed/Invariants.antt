use Rattle.std.proofs.Common.{List}
use Rattle.dap_transcript.specs.Requests.{IsQueue, are_answered}
use Rattle.dap_transcript.specs.declared.open_requests.Asked.{Asked}
use Rattle.dap_transcript.proofs.open_requests.skip_closed.Given as goal

abbrev pub invariant-loop-request : goal.invariant-loop-request
invariant-loop-request l = (all : List Asked)
    → IsQueue (are_answered l.answered) all l.initial.queue.items
    → IsQueue (are_answered l.answered) all l.queue.items

abbrev pub decreases-loop-request : goal.decreases-loop-request
decreases-loop-request l = l.queue.len

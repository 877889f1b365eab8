use Rattle.std.proofs.Common.{◌≡◌, ◌++◌, ℕ, List, false, length}
use Rattle.dap_tree.specs.Doc.{Members}
use Rattle.dap_transcript.specs.Heads.{MembersLeft, ValuesLeft, later_text}
use Rattle.dap_transcript.proofs.heads.read_members.Given as goal

abbrev pub invariant-loop-left : goal.invariant-loop-left
invariant-loop-left l = (ms : Members) (more : List ℕ) → l.fn.text ≡ later_text false ms ++ more
    → ValuesLeft l.fn.values ms ms → MembersLeft l.values l.left ms more

abbrev pub decreases-loop-left : goal.decreases-loop-left
decreases-loop-left l = length l.left

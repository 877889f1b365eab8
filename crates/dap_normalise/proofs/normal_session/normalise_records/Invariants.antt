use Rattle.dap_normalise.specs.NormalSteps.{remaining}
use Rattle.dap_normalise.proofs.WholeInput.{HasText}
use Rattle.dap_normalise.proofs.normal_session.normalise_records.Given as goal

abbrev pub invariant-loop-bytes : goal.invariant-loop-bytes
invariant-loop-bytes g l =
    HasText g.T.NameTable.numbers g.T.NameTable.limit l.fn.limits l.fn.mode l.fn.recording l.reader
    l.records l.bytes.items

abbrev pub decreases-loop-bytes : goal.decreases-loop-bytes
decreases-loop-bytes g l = remaining l.records

use Rattle.dap_normalise.specs.NormalSteps.{remaining}
use Rattle.dap_normalise.proofs.StreamLoop.{Going}
use Rattle.dap_normalise.proofs.checking.judge_records.Given as goal

abbrev pub invariant-records : goal.invariant-records
invariant-records g l =
    Going g.T.NameTable.numbers g.T.NameTable.limit g.R.Source l.fn.limits l.fn.mode l.fn.reader
    l.reader
    l.records

abbrev pub decreases-records : goal.decreases-records
decreases-records g l = remaining l.records

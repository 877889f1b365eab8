use Rattle.dap_normalise.specs.Accepting.{text}
use Rattle.dap_normalise.specs.NormalSteps.{remaining}
use Rattle.dap_normalise.proofs.StreamLoop.{Going}
use Rattle.dap_normalise.proofs.StreamWriting.{Waits}
use Rattle.dap_normalise.proofs.normalising.write_records.Given as goal

abbrev pub invariant-records : goal.invariant-records
invariant-records g l =
    record {
      going : Going g.T.NameTable.numbers g.T.NameTable.limit g.R.Source l.fn.limits l.fn.mode
          l.fn.reader l.reader l.records;
      waits : Waits l.fn.limits l.fn.mode l.records g.W.Sink l.fn.writer l.writer going.bytes
          (text going.normal) l.text.items;
    }

abbrev pub decreases-records : goal.decreases-records
decreases-records g l = remaining l.records

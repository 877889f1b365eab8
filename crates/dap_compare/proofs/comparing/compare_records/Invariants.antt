use Rattle.std.proofs.Common.{◌≡◌}
use Rattle.dap_normalise.specs.NormalSteps.{remaining}
use Rattle.dap_normalise.proofs.StreamLoop.{Going}
use Rattle.dap_compare.specs.ComparingSteps.{limits_of, mode_in}
use Rattle.dap_compare.proofs.comparing.compare_records.Given as goal

abbrev pub invariant-records : goal.invariant-records
invariant-records g l = record {
  a : Going g.T.NameTable.numbers g.T.NameTable.limit g.A.Source (limits_of l.fn.records_a)
      (mode_in l.fn.records_a) l.fn.reader_a
      l.reader_a l.records_a;
  b : Going g.T.NameTable.numbers g.T.NameTable.limit g.B.Source (limits_of l.fn.records_a)
      (mode_in l.fn.records_a) l.fn.reader_b
      l.reader_b l.records_b;
  alike : a.normal ≡ b.normal;
}

abbrev pub decreases-records : goal.decreases-records
decreases-records g l = remaining l.records_a

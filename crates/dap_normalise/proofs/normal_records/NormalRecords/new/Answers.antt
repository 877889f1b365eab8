use Rattle.dap_normalise.proofs.NormalRecordSteps.{none_read}
use Rattle.dap_normalise.proofs.normal_records.NormalRecords.new.Goals as goal

pub returns : goal.returns
returns g c =
    record {
      represents = none_read c.args.limits c.args.mode _
          (c.in_ok-new.ensures c.args.limits.frame
          (c.new-reader.ensures.limits, (1, c.new-reader.ensures.represents)))
          c.new-2.ensures.represents c.new-2.ensures.limits c.new-2.ensures.mode;
    }

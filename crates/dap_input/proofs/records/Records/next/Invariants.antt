use Rattle.dap_frame.specs.declared.limits.FrameLimits.{FrameLimits}
use Rattle.std.proofs.Common.{◌+◌, ◌-◌, length}
use Rattle.dap_input.specs.RecordSteps.{IsBetweenRecords}
use Rattle.dap_input.proofs.RecordLoop.{AreCounted, Looking}
use Rattle.dap_input.proofs.records.Records.next.Given as goal

abbrev pub invariant-loop-stop : goal.invariant-loop-stop
invariant-loop-stop g l =
    let source = g.R.Source in
    record {
      counted : AreCounted source l.fn.self l.self l.fn.reader l.reader;
      looking : (limits : FrameLimits)
          → IsBetweenRecords (g.I.ItemReader.represents limits) l.fn.self
          → Looking (g.I.ItemReader.items limits) (g.I.ItemReader.represents limits) source
          l.fn.self l.self l.fn.reader l.reader;
    }

abbrev pub decreases-loop-stop : goal.decreases-loop-stop
decreases-loop-stop g l = (l.self.pieces.limit - l.self.pieces.taken) + length l.self.pieces.unread

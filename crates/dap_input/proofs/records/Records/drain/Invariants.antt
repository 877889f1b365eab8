use Rattle.std.proofs.Common.{◌+◌, ◌-◌, length}
use Rattle.dap_input.proofs.Draining.{Draining}
use Rattle.dap_input.proofs.RecordLoop.{AreCounted}
use Rattle.dap_input.proofs.records.Records.drain.Given as goal

abbrev pub invariant-loop-self : goal.invariant-loop-self
invariant-loop-self g l =
    let source = g.R.Source in
    record {
      counted : AreCounted source l.fn.self l.self l.fn.reader l.reader;
      came : Draining source l.fn.self l.self l.fn.reader l.reader;
    }

abbrev pub decreases-loop-self : goal.decreases-loop-self
decreases-loop-self g l = (l.self.pieces.limit - l.self.pieces.taken) + length l.self.pieces.unread

use Rattle.std.proofs.Common.{◌+◌, ◌-◌, length}
use Rattle.dap_mask.specs.KeptRules.{mask_of}
use Rattle.dap_rules.proofs.RewritingLoop.{Going}
use Rattle.dap_rules.proofs.rewriting.rewrite_records.Given as goal

abbrev pub invariant-records : goal.invariant-records
invariant-records g l =
    Going l.fn.pass l.fn.limits (mask_of l.fn.rules) g.R.Source g.W.Sink l.fn.reader l.reader
    l.fn.writer l.writer l.records l.written l.text.items l.room.numbers

abbrev pub decreases-records : goal.decreases-records
decreases-records g l =
    (l.records.pieces.limit - l.records.pieces.taken) + length l.records.pieces.unread

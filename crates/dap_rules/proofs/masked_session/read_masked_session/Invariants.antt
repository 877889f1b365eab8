use Rattle.std.proofs.Common.{◌+◌, ◌-◌, length}
use Rattle.dap_mask.specs.KeptRules.{mask_of}
use Rattle.dap_rules.proofs.MaskedSessionLoop.{Going}
use Rattle.dap_rules.proofs.masked_session.read_masked_session.Given as goal

abbrev pub invariant-loop-session : goal.invariant-loop-session
invariant-loop-session l =
    Going l.fn.limits (mask_of l.fn.rules) l.fn.recording l.reader l.records l.written
    l.session

abbrev pub decreases-loop-session : goal.decreases-loop-session
decreases-loop-session l =
    (l.records.pieces.limit - l.records.pieces.taken) + length l.records.pieces.unread

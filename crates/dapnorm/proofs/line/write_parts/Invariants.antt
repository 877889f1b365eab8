use Rattle.std.proofs.Common.{take}
use Rattle.dap_device.specs.Written.{AllWritten}
use Rattle.dapnorm.specs.Lines.{parts_text}
use Rattle.dapnorm.proofs.line.write_parts.Given as goal

-- the parts before this one are written
abbrev pub invariant-loop-part : goal.invariant-loop-part
invariant-loop-part g l =
    AllWritten g.W.Sink l.fn.writer l.writer (parts_text (take l.part-index l.parts))

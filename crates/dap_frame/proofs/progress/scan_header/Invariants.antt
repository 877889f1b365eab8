use Rattle.std.proofs.Common.{◌<◌, ◌++◌, ℕ, List, length, take}
use Rattle.dap_frame.specs.HeaderScan.{IsScanOf}
use Rattle.dap_frame.proofs.progress.scan_header.Given as goal

-- the facts about the bytes so far are preserved
abbrev pub invariant-loop-i : goal.invariant-loop-i
invariant-loop-i l = (rest : List ℕ) → IsScanOf l.limits rest l.fn.scan
    → length rest < l.limits.header
    → IsScanOf l.limits (rest ++ take l.i l.piece) l.scan
    × (length (rest ++ take l.i l.piece) < l.limits.header)

use Rattle.std.proofs.Common.{◌≡◌, ◌++◌, drop, map, option_map, string_bytes}
use Rattle.std.specs.List.{flat_map}
use Rattle.dap_profile.specs.ProfileRows.{row_of}
use Rattle.dap_profile.specs.RowLines.{asked_line, lines_of}
use Rattle.dap_profile.proofs.row_text.row_lines.Given as goal

-- The lines so far, followed by those of the remaining rows, are all lines.
abbrev pub invariant-loop-row : goal.invariant-loop-row
invariant-loop-row l =
    string_bytes l.out
    ++ flat_map (asked_line (option_map (λ s. s.now) l.fn.number))
    (map row_of (drop l.row-index l.rows))
    ≡ lines_of (option_map (λ s. s.now) l.fn.number)

use Rattle.std.proofs.Common.{◌≡◌, ◌++◌, take, drop}
use Rattle.dap_difference.specs.Windows.{first_characters}
use Rattle.dap_difference.proofs.windows.shown_length.Given as goal

-- the bytes before the index are printed, and so are those of the remaining characters
abbrev pub invariant-loop-i : goal.invariant-loop-i
invariant-loop-i l =
    first_characters l.limit l.text ≡ take l.i l.text ++ first_characters l.left (drop l.i l.text)

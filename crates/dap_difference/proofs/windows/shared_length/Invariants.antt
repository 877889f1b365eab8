use Rattle.std.proofs.Common.{◌≡◌, ◌+◌, drop, nat_eq}
use Rattle.std.specs.List.{common_prefix_len}
use Rattle.dap_difference.proofs.windows.shared_length.Given as goal

-- the bytes before the index are equal
abbrev pub invariant-loop-i : goal.invariant-loop-i
invariant-loop-i l =
    common_prefix_len nat_eq l.text l.other
    ≡ l.i + common_prefix_len nat_eq (drop l.i l.text) (drop l.i l.other)

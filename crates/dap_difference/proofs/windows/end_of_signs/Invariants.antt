use Rattle.std.proofs.Common.{◌≡◌, drop}
use Rattle.dap_difference.specs.Windows.{after_signs, after_signs_from}
use Rattle.dap_difference.proofs.windows.end_of_signs.Given as goal

abbrev pub invariant-loop-i : goal.invariant-loop-i
invariant-loop-i l =
    after_signs l.count l.text ≡ after_signs_from l.left l.before (drop l.i l.text)

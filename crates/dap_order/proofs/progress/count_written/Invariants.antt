use Rattle.std.proofs.Common.{◌≡◌, true}
use Rattle.std.specs.List.{AllWithin}
use Rattle.dap_order.specs.Progress.{is_written}
use Rattle.dap_order.proofs.progress.count_written.Given as goal

abbrev pub invariant-loop-at : goal.invariant-loop-at
invariant-loop-at l = AllWithin (λ a. is_written l.written a ≡ true) l.after 0 l.at

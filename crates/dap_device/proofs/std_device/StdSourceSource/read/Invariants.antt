use Rattle.std.proofs.Common.{◌≡◌}
use Rattle.dap_device.proofs.std_device.StdSourceSource.read.Given as goal

-- an interrupted read is not counted
abbrev pub invariant-loop : goal.invariant-loop
invariant-loop g l =
    record {
      given : l.self-inside.given ≡ l.fn.self.given;
      failures : l.self-inside.failures
          ≡ l.fn.self.failures;
    }

-- The limits that engines require.
use Rattle.std.specs.Prelude.{◌≤◌, ◌^◌}
use Rattle.dap_frame.specs.Limits.{IsSound}
use Rattle.dap_input.specs.declared.limits.Limits.{Limits}

pub record AreSound (limits : Limits) : Type 0 where
  pub frame : IsSound limits.frame
  pub ids : limits.ids ≤ 2147483647
  pub input : limits.input ≤ 2 ^ 62

-- The limits that calls require.
use Rattle.std.specs.Prelude.{◌≤◌}
use Rattle.dap_frame.specs.declared.limits.FrameLimits.{FrameLimits}

-- The limits are sound (own): in particular, the longest header part that is written, of 30 bytes,
-- is within the limit of the header part.
pub record IsSound (limits : FrameLimits) : Type 0 where
  pub header_low : 32 ≤ limits.header
  pub header_high : limits.header ≤ 65536
  pub content_high : limits.content ≤ 2147483647

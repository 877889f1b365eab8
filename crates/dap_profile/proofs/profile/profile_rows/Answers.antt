use Rattle.std.proofs.Common.{refl}
use Rattle.dap_profile.specs.Profile.{profile, first_rows, later_rows}
use Rattle.dap_profile.proofs.profile.profile_rows.Goals as goal

pub returns : goal.returns
unfolding profile first_rows later_rows
returns c = refl

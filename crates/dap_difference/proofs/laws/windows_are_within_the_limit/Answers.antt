use Rattle.dap_difference.proofs.WindowsApart.{printed_whole, windows_are_short}
use Rattle.dap_difference.proofs.laws.windows_are_within_the_limit.Goals as goal

pub returns-clause-whole : goal.returns-clause-whole
returns-clause-whole c = printed_whole

pub returns-clause-short : goal.returns-clause-short
returns-clause-short c = windows_are_short

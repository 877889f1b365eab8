use Rattle.dap_frame.proofs.UsualNames.{name_scanned}
use Rattle.dap_frame.proofs.header_scan.HeaderScan.behind_name.Goals as goal

pub returns : goal.returns
returns c = λ limits. name_scanned limits

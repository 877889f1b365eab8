use Rattle.dap_frame.proofs.ScanSteps.{scan_start}
use Rattle.dap_frame.proofs.header_scan.HeaderScan.start.Goals as goal

pub returns : goal.returns
returns c = λ limits. scan_start limits

use Rattle.dap_message.proofs.LeastBroken.{are_numbered, fits_by_path, fault_by_path}
use Rattle.dap_message.proofs.laws.broken_by_path.Goals as goal

pub returns-clause-numbered : goal.returns-clause-numbered
returns-clause-numbered c = are_numbered

pub returns-clause-fits : goal.returns-clause-fits
returns-clause-fits c = fits_by_path

pub returns-clause-fault : goal.returns-clause-fault
returns-clause-fault c = fault_by_path

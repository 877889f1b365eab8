use Rattle.dap_rules.proofs.NamedSameness.{equal_names_and_ids}
use Rattle.dap_rules.proofs.session_laws.equal_names_and_ids.Goals as goal

pub returns : goal.returns
returns c = record { equal = equal_names_and_ids }

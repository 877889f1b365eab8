use Rattle.dap_naming.proofs.Agreement.{only_own_ids_matter, names_of_prefix}
use Rattle.dap_naming.proofs.laws.names_stay.Goals as goal

pub returns : goal.returns
returns c = record {
  own = only_own_ids_matter;
  prefix = names_of_prefix;
}

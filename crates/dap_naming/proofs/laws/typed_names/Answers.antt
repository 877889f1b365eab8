use Rattle.dap_naming.proofs.TypedNames.{typed_names_commute, typed_ids_stay}
use Rattle.dap_naming.proofs.TypedNames.{typed_sessions_commute, names_keep_types, types_keep_rules}
use Rattle.dap_naming.proofs.TypedFaults.{names_keep_faults}
use Rattle.dap_naming.proofs.laws.typed_names.Goals as goal

pub returns : goal.returns
returns c = record {
  rules = types_keep_rules;
  commute = typed_names_commute;
  ids = typed_ids_stay;
  lists = typed_sessions_commute;
  faults = names_keep_faults;
  types = names_keep_types;
}

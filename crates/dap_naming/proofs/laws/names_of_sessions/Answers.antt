use Rattle.dap_naming.proofs.SessionsPlaces.{names_keep_rules}
use Rattle.dap_naming.proofs.SessionsNamed.{names_of_session_prefix, no_declarations}
use Rattle.dap_naming.proofs.laws.names_of_sessions.Goals as goal

pub returns : goal.returns
returns c = record {
  rules = names_keep_rules;
  prefix = names_of_session_prefix;
  nothing = no_declarations;
}

use Rattle.dap_rules.proofs.NamedRules.{names_keep_session_rules, names_keep_id_counts}
use Rattle.dap_rules.proofs.NamedRules.{names_keep_open}
use Rattle.dap_rules.proofs.NamedContents.{named_is_accepted}
use Rattle.dap_rules.proofs.session_laws.named_is_accepted.Goals as goal

pub returns : goal.returns
returns c = record {
  rules = names_keep_session_rules;
  few = names_keep_id_counts;
  unanswered = names_keep_open;
  accepted = named_is_accepted;
}

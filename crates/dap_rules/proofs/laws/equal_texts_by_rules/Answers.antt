use Rattle.dap_rules.proofs.TextsByRules as texts
use Rattle.dap_rules.proofs.laws.equal_texts_by_rules.Goals as goal

pub returns : goal.returns
returns c = record {
  named_sessions = texts.same_named_sessions;
  sessions = texts.same_sessions;
  whole = texts.equal_texts_by_rules;
  each_mode = texts.equal_texts_in_each_mode;
}

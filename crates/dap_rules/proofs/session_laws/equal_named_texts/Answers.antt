use Rattle.dap_rules.proofs.NamedEquality.{equal_named_texts, equal_named_texts_in_each_mode}
use Rattle.dap_rules.proofs.session_laws.equal_named_texts.Goals as goal

pub returns : goal.returns
returns c = record {
  whole = equal_named_texts;
  each_mode = equal_named_texts_in_each_mode;
}

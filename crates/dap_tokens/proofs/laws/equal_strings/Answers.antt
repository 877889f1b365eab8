use Rattle.dap_tokens.proofs.EqualStrings.{equal_named}
use Rattle.dap_tokens.proofs.laws.equal_strings.Goals as goal

pub returns : goal.returns
returns c = equal_named

use Rattle.dap_tokens.proofs.NamedUtf8.{named_utf8}
use Rattle.dap_tokens.proofs.laws.stays_utf8.Goals as goal

pub returns : goal.returns
returns c = named_utf8

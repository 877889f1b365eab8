use Rattle.dap_tokens.proofs.NamedStrings.{names_are_read, named_twice}
use Rattle.dap_tokens.proofs.laws.names_are_read.Goals as goal

pub returns : goal.returns
returns c = record { ids = names_are_read; twice = named_twice }

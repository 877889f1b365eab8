use Rattle.dap_words.proofs.KeptApart.{replaced_twice}
use Rattle.dap_words.proofs.text_laws.replaced_once.Goals as goal

pub returns : goal.returns
returns c = replaced_twice

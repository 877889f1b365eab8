use Rattle.dap_normalise.proofs.NormalFormLaws.{equal_texts_tell}
use Rattle.dap_normalise.proofs.laws.equal_texts_tell.Goals as goal

pub returns : goal.returns
returns c = equal_texts_tell

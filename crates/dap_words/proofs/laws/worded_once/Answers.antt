use Rattle.std.proofs.Common.{true}
use Rattle.dap_words.proofs.WordedDocs.{worded_twice}
use Rattle.dap_words.proofs.laws.worded_once.Goals as goal

pub returns : goal.returns
returns c = λ pairs d apart. worded_twice pairs apart true d

use Rattle.std.proofs.Common.{true}
use Rattle.dap_words.proofs.Alike.{worded_alike}
use Rattle.dap_words.proofs.laws.two_machines.Goals as goal

pub returns : goal.returns
returns c = λ pairs others d e own own_other same alike.
    worded_alike pairs others own own_other same true d e alike

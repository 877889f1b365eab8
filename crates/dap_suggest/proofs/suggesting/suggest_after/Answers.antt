use Rattle.std.proofs.Common.{IsTrue, rules}
use Rattle.dap_mask.specs.KeptRules.{mask_of}
use Rattle.dap_suggest.proofs.AlreadySame.{not_rejected}
use Rattle.dap_suggest.proofs.suggesting.suggest_after.Goals as goal

pub returns-in-Ok-Some-clause-other : goal.returns-in-Ok-Some-clause-other
returns-in-Ok-Some-clause-other c = λ have.
    let maskable : IsTrue c.has_fraction.result = search rules in
    not_rejected c.args.inputs.now (mask_of c.args.rules.now) c.args.refused c.requires.read
    (c.has_fraction.ensures maskable) c.requires.rejected have

use Rattle.dap_mask.specs.KeptRules.{mask_of}
use Rattle.dap_suggest.proofs.Refusals.{one_rejected}
use Rattle.dap_suggest.proofs.suggesting.suggest_by.Goals as goal

pub suggest_after-requires-clause-rejected : goal.suggest_after-requires-clause-rejected
suggest_after-requires-clause-rejected c =
    let inputs = c.args.inputs.now in
    one_rejected inputs.limits inputs.given.now inputs.a.now inputs.b.now (mask_of c.args.rules.now)
    c.requires.read c.in-Err.rejected.0 c.in-Err.rejected.1 c.in-Err.ensures.err c.from.result
    c.from.ensures

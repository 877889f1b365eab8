use Rattle.std.proofs.lemmas.Result.{err_from_is_err_and}
use Rattle.dap_mask.specs.KeptRules.{mask_of}
use Rattle.dap_suggest.proofs.{Confirmations.says_what_to_check, Refusals.rules_rejected}
use Rattle.dap_suggest.proofs.suggesting.suggest.Goals as goal

pub returns-in_err-rules-clause-err : goal.returns-in_err-rules-clause-err
returns-in_err-rules-clause-err c =
    let because = err_from_is_err_and c.from_residual.result c.from_residual.ensures.1 in
    rw because.1
    (rules_rejected c.args.limits c.args.given.now c.args.a.now c.args.b.now _ because.0 because.2
    c.in_err-rules.ensures.err c.in_err-rules.ensures.memory)

pub returns-clause-checked : goal.returns-clause-checked
returns-clause-checked c =
    says_what_to_check _ (mask_of c.in_ok-rules.rules) c.suggest_by.result c.in_ok-rules.ensures.ok
    c.guarded_count.ensures c.suggest_by.ensures.ok

use Rattle.dap_mask.specs.KeptRules.{mask_of}
use Rattle.dap_rules.proofs.RewritingLoop.{given_up}
use Rattle.dap_rules.proofs.rewriting.rewrite.Goals as goal

pub returns-in-Err-clause-outcome : goal.returns-in-Err-clause-outcome
returns-in-Err-clause-outcome g c =
    given_up c.args.pass c.args.limits (mask_of c.args.rules.now) g.R.Source g.W.Sink
    c.args.reader.now c.args.writer.now

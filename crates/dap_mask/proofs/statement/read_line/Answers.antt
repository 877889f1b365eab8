use Rattle.std.proofs.Common.{sym, ◌∙◌}
use Rattle.dap_mask.proofs.Growths.{any_err, says_something}
use Rattle.dap_mask.proofs.statement.read_line.Goals as goal

pub returns-in_err-statement-clause-memory : goal.returns-in_err-statement-clause-memory
returns-in_err-statement-clause-memory c =
    any_err c.from_residual.result
    (says_something c.args.line.now (sym c.is_end.ensures ∙ c.if-is_end.false))

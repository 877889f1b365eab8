use Rattle.std.proofs.Common.{sym, ◌∙◌, arith}
use Rattle.dap_transcript.proofs.PlainNames.{exponent}
use Rattle.dap_transcript.proofs.names.is_exponent.Goals as goal

pub returns-then-is_e : goal.returns-then-is_e
returns-then-is_e c =
    exponent c.args.name.now c.are_digits.result (omega arith)
    (sym c.is_e.ensures ∙ c.if-is_e.true) c.are_digits.ensures

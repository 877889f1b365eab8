use Rattle.std.proofs.Common.{◌∙◌, sym}
use Rattle.serde_json.specs.View.{view as value_view}
use Rattle.dap_mask.proofs.Lines.{quiet}
use Rattle.dap_mask.proofs.Values.{scalar_is, no_scalar}
use Rattle.dap_mask.proofs.fill_lines.scalar_at.Goals as goal

pub returns-in-Ok : goal.returns-in-Ok
returns-in-Ok c =
    c.scalar_in.ensures
    ∙ sym (scalar_is c.args.token.now (value_view c.in-Ok.value) c.in-Ok.ensures.ok.0
    c.in-Ok.ensures.ok.1)

pub returns-in-Err-2 : goal.returns-in-Err-2
returns-in-Err-2 c =
    sym (no_scalar c.args.token.now (λ u. c.in-Err.ensures.err
    (quiet c.is_memory.result c.is_memory.ensures c.if-is_memory.false) u))

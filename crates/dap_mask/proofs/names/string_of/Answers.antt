use Rattle.std.proofs.Common.{◌∙◌, sym}
use Rattle.serde_json.specs.View.{view as value_view}
use Rattle.dap_mask.proofs.Lines.{string_is, no_string, quiet}
use Rattle.dap_mask.proofs.names.string_of.Goals as goal

pub returns-in-Ok : goal.returns-in-Ok
returns-in-Ok c =
    c.text_in.ensures
    ∙ sym (string_is c.args.token.now (value_view c.in-Ok.value) c.in-Ok.ensures.ok.0
    c.in-Ok.ensures.ok.1)

pub returns-in-Err-2 : goal.returns-in-Err-2
returns-in-Err-2 c =
    sym (no_string c.args.token.now (λ u. c.in-Err.ensures.err
    (quiet c.is_memory.result c.is_memory.ensures c.if-is_memory.false) u))

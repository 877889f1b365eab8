use Rattle.std.proofs.Common.{sym}
use Rattle.std.proofs.lemmas.Str.{IsUtf8-from_is_utf8, is_utf8-from_IsUtf8}
use Rattle.std.specs.Str.{is_utf8}
use Rattle.dap_message.proofs.Edits.{by_bool}
use Rattle.dap_mask.proofs.rule_list.is_utf8.Goals as goal

pub returns-in-Ok : goal.returns-in-Ok
returns-in-Ok c = sym (is_utf8-from_IsUtf8 c.args.line.now c.in-Ok.ensures.cases.1)

pub returns-in-Err : goal.returns-in-Err
returns-in-Err c =
    by_bool (is_utf8 c.args.line.now)
    (λ h. absurd (c.in-Err.ensures.cases.0 (IsUtf8-from_is_utf8 c.args.line.now h))) (λ h. sym h)

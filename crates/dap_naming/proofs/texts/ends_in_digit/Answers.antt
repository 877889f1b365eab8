use Rattle.std.proofs.Common.{◌∙◌, sym}
use Rattle.dap_naming.proofs.Literals.{last_digit}
use Rattle.dap_naming.proofs.texts.ends_in_digit.Goals as goal

pub returns-in-len1-up : goal.returns-in-len1-up
returns-in-len1-up c =
    c.is_ascii_hexdigit.ensures.value
    ∙ sym (last_digit c.args.text.now c.in-len1-up.len_at_least)

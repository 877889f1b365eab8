use Rattle.std.proofs.Common.{sym, ◌∙◌, cond, ap}
use Rattle.dap_tokens.proofs.Names.{numeral_read}
use Rattle.dap_tokens.proofs.tokens.numeral_length.Goals as goal

pub returns-then-is_closed : goal.returns-then-is_closed
returns-then-is_closed c =
    let n = c.digit_count-digits.result in
    sym (numeral_read c.args.text.now n c.digit_count-digits.ensures
    ∙ ap (λ t. cond t n 0) (sym c.is_closed.ensures ∙ c.if-is_closed.true))

pub returns-else-is_closed : goal.returns-else-is_closed
returns-else-is_closed c =
    let n = c.digit_count-digits.result in
    sym (numeral_read c.args.text.now n c.digit_count-digits.ensures
    ∙ ap (λ t. cond t n 0) (sym c.is_closed.ensures ∙ c.if-is_closed.false))

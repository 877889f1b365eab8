use Rattle.std.proofs.Common.{sym, ap, ◌∙◌, option_map}
use Rattle.dap_tokens.specs.Tokens.{token_length}
use Rattle.dap_tokens.specs.Models.{labels_of, token_of}
use Rattle.dap_tokens.proofs.Order.{third_found}
use Rattle.dap_tokens.proofs.tokens.form_at.Goals as goal

pub returns-in-Some-token_in-2 : goal.returns-in-Some-token_in-2
returns-in-Some-token_in-2 c = third_found (labels_of c.args.labels.now)
    (λ form label. token_length form c.args.after_digit c.args.text.now)
    (token_of c.in-Some-token_in-2.token)
    (ap (option_map token_of) (sym c.in_default.is) ∙ c.token_in.ensures)
    (ap (option_map token_of) (sym c.in_default-token_in.is) ∙ c.token_in-2.ensures)
    (ap (option_map token_of) (sym c.in-Some-token_in-2.is) ∙ c.token_in-3.ensures)

use Rattle.std.proofs.Common.{sym, ◌∙◌}
use Rattle.dap_tokens.specs.Models.{labels_of}
use Rattle.dap_tokens.proofs.FirstBytes.{opened_at, unopened_at}
use Rattle.dap_tokens.proofs.tokens.token_at.Goals as goal

pub returns-then-begins_with_byte : goal.returns-then-begins_with_byte
returns-then-begins_with_byte c = c.name_at.ensures
    ∙ sym (opened_at (labels_of c.args.labels.now) c.args.after_digit c.args.text.now
    (sym c.begins_with_byte.ensures ∙ c.if-begins_with_byte.true))

pub returns-else-begins_with_byte : goal.returns-else-begins_with_byte
returns-else-begins_with_byte c = c.form_at.ensures
    ∙ sym (unopened_at (labels_of c.args.labels.now) c.args.after_digit c.args.text.now
    (sym c.begins_with_byte.ensures ∙ c.if-begins_with_byte.false))

use Rattle.std.proofs.Common.{◌-◌, ◌+◌, sym, ap, ◌∙◌, length}
use Rattle.dap_tokens.proofs.Names.{name_none, name_some, name_unopened}
use Rattle.dap_tokens.proofs.tokens.name_length.Goals as goal

pub returns-in-None : goal.returns-in-None
returns-in-None c = sym (name_unopened c.args.label.now c.args.text.now c.in-None.ensures)

pub returns-then-digits-eq0 : goal.returns-then-digits-eq0
returns-then-digits-eq0 c = sym (name_none c.args.label.now c.args.text.now c.in-Some.rest.now
    c.in-Some.ensures (sym c.numeral_length-digits.ensures ∙ c.if-digits-eq0.true))

pub returns-else-digits-eq0 : goal.returns-else-digits-eq0
returns-else-digits-eq0 c =
    let text = c.args.text.now in
    let rest = c.in-Some.rest.now in
    ap (λ n. length text - length rest + n + 1) c.numeral_length-digits.ensures
    ∙ sym (name_some c.args.label.now text rest c.in-Some.ensures
    (λ e. c.if-digits-eq0.false (c.numeral_length-digits.ensures ∙ e)))

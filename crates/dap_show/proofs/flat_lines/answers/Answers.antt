use Rattle.std.proofs.Common.{◌∙◌, ap, false, sym}
use Rattle.std.specs.Prelude.{unwrap_or}
use Rattle.dap_show.proofs.FlatElements.{applies, applies_not}
use Rattle.dap_show.proofs.flat_lines.answers.Goals as goal

pub returns-then-not-unwrap_or : goal.returns-then-not-unwrap_or
returns-then-not-unwrap_or g c =
    sym (applies_not c.args.command.now (g.M.AnyMessage.sent c.args.message.now).doc
    (ap (λ o. unwrap_or o false) (sym c.success.ensures.same) ∙ sym c.unwrap_or.ensures
    ∙ c.if-not-unwrap_or.true))

pub returns : goal.returns
returns g c =
    c.eq.ensures
    ∙ sym (applies c.args.command.now c.name.result.now (g.M.AnyMessage.sent c.args.message.now).doc
    (ap (λ o. unwrap_or o false) (sym c.success.ensures.same) ∙ sym c.unwrap_or.ensures
    ∙ c.if-not-unwrap_or.false) c.name.ensures)

use Rattle.std.proofs.Common.{sym, ◌∙◌}
use Rattle.dap_normalise.specs.JudgingSteps.{payload_of}
use Rattle.dap_show.specs.Viewing.{kept}
use Rattle.dap_show.proofs.EntryLines.{all_detail, detail_exceeds, entered_typed, grown_detail}
use Rattle.dap_show.proofs.entries.append_message.Goals as goal

pub returns-then-not-fits : goal.returns-then-not-fits
returns-then-not-fits g c = λ before represents lines_are number_is.
    let view = c.args.view in
    let message = g.M.AnyMessage.sent c.args.message.now in
    let is = c.requires.message in
    grown_detail view before c.args.number number_is c.args.lines.now.items lines_are
    (payload_of c.args.whole.now) message is.1.0 c.in-Ok.rule c.judge.new.session is is.1.1
    (c.in-Ok.ensures (kept before) represents) c.push_head.new.lines.items c.in-Ok-push_head.ensures
    (detail_exceeds view.detail view.limits.input message (payload_of c.args.whole.now).1 is.1.0
    is.1.1 c.args.detail.now c.push_head.new.lines.items c.extend_from_slice.new.self.items
    c.requires.detail c.in-Ok-extend_from_slice.ensures.items
    (sym c.fits.ensures ∙ c.if-not-fits.true))

pub returns : goal.returns
returns g c = λ before represents lines_are number_is.
    let view = c.args.view in
    let message = g.M.AnyMessage.sent c.args.message.now in
    let is = c.requires.message in
    let fitting = sym c.fits.ensures ∙ c.if-not-fits.false in
    rw c.rule_refusal.ensures
    (entered_typed view before c.args.number number_is c.args.lines.now.items lines_are
    (payload_of c.args.whole.now) message is.1.0 c.in-Ok.rule c.judge.new.session is is.1.1
    (c.in-Ok.ensures (kept before) represents) c.push_head.new.lines.items c.in-Ok-push_head.ensures
    c.extend_from_slice.new.self.items
    (all_detail view.detail view.limits.input message (payload_of c.args.whole.now).1 is.1.0
    is.1.1 c.args.detail.now c.push_head.new.lines.items c.extend_from_slice.new.self.items
    c.requires.detail c.in-Ok-extend_from_slice.ensures.items fitting) fitting)

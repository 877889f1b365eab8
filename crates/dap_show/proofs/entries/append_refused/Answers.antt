use Rattle.std.proofs.Common.{◌≡◌, ◌∙◌, false, rules, sym, true}
use Rattle.dap_normalise.specs.JudgingSteps.{payload_of}
use Rattle.dap_normalise.specs.Accepting.{HoldsNoMessage}
use Rattle.dap_show.specs.Viewing.{Rejects}
use Rattle.dap_show.proofs.EntryLines.{entered_untyped, grown_untyped, rejects_as}
use Rattle.dap_show.proofs.EntryLines.{rejects_strictly}
use Rattle.dap_show.proofs.entries.append_refused.Goals as goal

pub returns-then-not-view : goal.returns-then-not-view
returns-then-not-view c = λ session before represents lines_are number_is.
    let view = c.args.view in
    let held = payload_of c.args.whole.now in
    let off : view.marks_faults ≡ false = search rules in
    rejects_as (HoldsNoMessage held) (Rejects view before held)
    (rejects_strictly view off before held) c.args.number c.args.refused c.requires

pub returns-then-not-fits : goal.returns-then-not-fits
returns-then-not-fits c = λ session before represents lines_are number_is.
    let view = c.args.view in
    let on : view.marks_faults ≡ true = search rules in
    grown_untyped view before c.args.number number_is c.args.lines.now.items lines_are
    (payload_of c.args.whole.now) c.args.refused c.requires c.in_default.not-Memory
    c.push_untyped.new.out.items c.in-Ok.ensures on (sym c.fits.ensures ∙ c.if-not-fits.true)

pub returns : goal.returns
returns c = λ session before represents lines_are number_is.
    let view = c.args.view in
    let on : view.marks_faults ≡ true = search rules in
    entered_untyped view before c.args.number number_is c.args.lines.now.items lines_are
    (payload_of c.args.whole.now) c.args.refused c.requires c.in_default.not-Memory
    c.push_untyped.new.out.items c.in-Ok.ensures on session represents
    (sym c.fits.ensures ∙ c.if-not-fits.false)

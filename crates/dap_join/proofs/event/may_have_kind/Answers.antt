use Rattle.std.proofs.Common.{◌∙◌, arith, sym}
use Rattle.dap_join.proofs.EventTexts.{escape, event_end, lacks_unfound, no_event}
use Rattle.dap_join.proofs.event.may_have_kind.Goals as goal

pub returns-else-is_some : goal.returns-else-is_some
returns-else-is_some c = λ none.
    no_event c.args.content.now
    (lacks_unfound c.args.content.now escape c.find-else-is_some.result (omega arith)
    c.find-else-is_some.ensures (sym c.is_some-else-is_some.ensures ∙ none))
    (lacks_unfound c.args.content.now event_end c.find.result (omega arith) c.find.ensures
    (sym c.is_some.ensures ∙ c.if-is_some.false))

use Rattle.std.proofs.Common.{refl}
use Rattle.dap_tree.specs.declared.side.Side.TheVariants.{Client, Adapter}
use Rattle.dap_join.proofs.EventTexts.{no_event_is_other, not_output}
use Rattle.dap_join.proofs.event.may_be_event.Goals as goal

pub returns-in-Client : goal.returns-in-Client
returns-in-Client c = λ _.
    rw c.in-Client.is (not_output Client c.args.content.now (λ d read. refl))

pub returns-in-Adapter : goal.returns-in-Adapter
returns-in-Adapter c = λ none.
    rw c.in-Adapter.is (not_output Adapter c.args.content.now
    (λ d read. no_event_is_other d (c.may_have_kind.ensures none d read)))

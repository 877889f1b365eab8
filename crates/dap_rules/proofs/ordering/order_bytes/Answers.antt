use Rattle.std.proofs.Common.{◌∙◌, sym}
use Rattle.dap_message.specs.SwapRules.{swaps_of}
use Rattle.dap_rules.proofs.EmptyRecordings.{no_bytes, none_ordered}
use Rattle.dap_rules.proofs.ordering.order_bytes.Goals as goal

pub returns-then-is_empty-clause-ok : goal.returns-then-is_empty-clause-ok
returns-then-is_empty-clause-ok c =
    let none = no_bytes c.args.recording.now (sym c.is_empty.ensures ∙ c.if-is_empty.true) in
    rw (none, c.new.ensures.items)
    (none_ordered c.args.limits c.requires.limits c.args.mode (swaps_of c.args.rules.now))

pub returns-clause-ok : goal.returns-clause-ok
returns-clause-ok c =
    c.text_in_order.ensures.ok c.args.recording.now c.in_ok-session.ensures.ok

pub returns-clause-err : goal.returns-clause-err
returns-clause-err c =
    c.text_in_order.ensures.err c.args.recording.now c.in_ok-session.ensures.ok

use Rattle.std.proofs.lemmas.Result.{IfErr-weaker, IfOk-weaker}
use Rattle.dap_flat_message.specs.FlatMessages.{IsFlatMessage, RefusesContent}
use Rattle.dap_flat_message.proofs.reading.read_flat_message.Goals as goal

pub returns-clause-ok : goal.returns-clause-ok
returns-clause-ok c =
    let bytes = c.args.content.now in
    IfOk-weaker c.type_nodes.result _ (IsFlatMessage c.args.side bytes)
    (λ m is. is bytes c.in_ok-nodes.ensures.ok) c.type_nodes.ensures.ok

pub returns-clause-err : goal.returns-clause-err
returns-clause-err c =
    let bytes = c.args.content.now in
    IfErr-weaker c.type_nodes.result _ (RefusesContent bytes)
    (λ fault is. is bytes c.in_ok-nodes.ensures.ok) c.type_nodes.ensures.err

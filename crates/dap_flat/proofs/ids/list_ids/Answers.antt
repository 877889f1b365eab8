use Rattle.std.proofs.Common.{◌<◌, length, arith}
use Rattle.dap_flat.proofs.IdPieces.{some_id}
use Rattle.dap_flat.proofs.ids.list_ids.Goals as goal

pub returns-in_err-push-clause-none : goal.returns-in_err-push-clause-none
returns-in_err-push-clause-none c none =
    let l = c.loop-node in
    let within : l.node-index < length c.args.nodes.now = omega (arith, c.loop-node-test.true) in
    absurd (some_id c.args.found.now.items l.found.items c.args.nodes.now l.node-index _
    c.in-Id.sort c.in-Id.n within c.in-Id.is l.invariant.more l.invariant.all none)

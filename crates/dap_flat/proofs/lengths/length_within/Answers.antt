use Rattle.std.proofs.Common.{arith}
use Rattle.dap_flat.proofs.NodeLengths.{text_counted}
use Rattle.dap_flat.proofs.lengths.length_within.Goals as goal

pub returns-in-Some : goal.returns-in-Some
returns-in-Some c d shows =
    let counted = text_counted c.args.nodes.now d c.args.numbers.now shows in
    let left = c.in-Some.ensures in (omega (arith, left, counted), omega arith)

pub returns-in-None : goal.returns-in-None
returns-in-None c d shows =
    let counted = text_counted c.args.nodes.now d c.args.numbers.now shows in
    omega (arith, c.in-None.ensures, counted)

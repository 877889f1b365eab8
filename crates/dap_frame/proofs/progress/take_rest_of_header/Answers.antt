use Rattle.std.proofs.Common.{subst}
use Rattle.dap_frame.specs.Reading.{IsKeptOf}
use Rattle.dap_frame.proofs.FedSteps.{rest_taken}
use Rattle.dap_frame.proofs.progress.take_rest_of_header.Goals as goal

pub returns-in-Header : goal.returns-in-Header
returns-in-Header c = λ bytes rest kept.
    let k = subst (λ progress. IsKeptOf c.args.limits progress bytes rest) c.in-Header.is kept in
    rest_taken c.args.limits bytes rest c.args.piece.now c.take_header.result k.0
    (c.take_header.ensures rest k.1 k.2)

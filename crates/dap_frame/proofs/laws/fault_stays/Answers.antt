use Rattle.dap_frame.proofs.Ends as items
use Rattle.dap_frame.proofs.laws.fault_stays.Goals as goal

pub returns : goal.returns
returns c =
    record { stays = λ limits. items.fault_stays; needs_no_more = λ limits. items.fault_early }

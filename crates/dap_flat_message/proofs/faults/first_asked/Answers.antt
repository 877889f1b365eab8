use Rattle.std.proofs.lemmas.Result.{IfOk-weaker}
use Rattle.dap_profile.specs.RowRanges.{rows_in}
use Rattle.dap_flat_message.specs.Heads.{IsFirst, IsFault}
use Rattle.dap_flat_message.proofs.Named.{asked_fault}
use Rattle.dap_flat_message.proofs.faults.first_asked.Goals as goal

pub returns : goal.returns
returns c =
    let ns = c.args.nodes.now in
    let e = c.args.found.now in
    let rs = rows_in c.args.stretches.now in
    IfOk-weaker c.first_in.result (IsFirst ns e rs) (IsFault ns)
    (λ f first. asked_fault ns e rs f c.requires.asked c.requires.places first) c.first_in.ensures

use Rattle.dap_message.specs.Message.{sent}
use Rattle.dap_input.specs.Refusals.{RejectsPayload}
use Rattle.dap_normalise.specs.Accepting.{HoldsNoMessage, IsMessage}
use Rattle.dap_normalise.specs.JudgingSteps.{payload_of}
use Rattle.dap_diff.proofs.ReadTexts.{is_told, refused_none}
use Rattle.dap_diff.proofs.reading.message_of.Goals as goal

pub returns-in-Ok : goal.returns-in-Ok
returns-in-Ok c =
    let is : IsMessage (payload_of c.in_ok-whole.whole) (sent c.in-Ok.message) =
    rw c.as_slice.ensures at c.in-Ok.ensures.ok in
    is_told c.args.limits c.args.text.now (payload_of c.in_ok-whole.whole) (sent c.in-Ok.message)
    c.requires.is_record c.in_ok-whole.ensures is

pub unreachable-requires : goal.unreachable-requires
unreachable-requires c =
    let reported : RejectsPayload (HoldsNoMessage (payload_of c.in_ok-whole.whole)) 1
    c.in-Err.refused =
    rw c.as_slice.ensures at c.in-Err.ensures.only in
    refused_none c.args.limits c.args.text.now (payload_of c.in_ok-whole.whole) c.in-Err.refused
    c.requires.is_record c.in_ok-whole.ensures c.in_default.not-Memory reported

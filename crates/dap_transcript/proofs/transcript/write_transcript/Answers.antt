use Rattle.std.proofs.Common.{◌≡◌, ◌+◌, ◌<◌, arith, length, map, subst, suc, sym, take}
use Rattle.dap_stored.specs.Sessions.{stored_sent}
use Rattle.dap_transcript.specs.Records.{HasWritten}
use Rattle.dap_transcript.proofs.{Places.{map_there, taken_there}, StoredDocs.stored_ordered}
use Rattle.dap_transcript.proofs.transcript.write_transcript.Goals as goal

pub loop-message-preserved : goal.loop-message-preserved
loop-message-preserved c =
    let messages = c.args.messages.now in
    let all = map stored_sent messages in
    let l = c.loop-message in
    let p = l.message-index in
    let item = c.message-item.result in
    let low : p < length messages = omega (arith, c.loop-message-test.true) in
    let is = map_there stored_sent messages p item low c.message-item.is in
    let up : suc p ≡ p + 1 = omega arith in
    let written = c.in_ok-push.ensures (take p all) (stored_sent item) l.invariant c.head_of.ensures
    (stored_ordered item) in
    subst (λ k. HasWritten c.push.new.self (take k all)) up
    (subst (HasWritten c.push.new.self) (sym (taken_there all p (stored_sent item) is)) written)

use Rattle.std.proofs.Common.{◌≡◌, List, ◌++◌, length, map}
use Rattle.std.specs.Vec.Iter.{into_iter_items}
use Rattle.dap_stored.specs.Sessions.{stored_sent}
use Rattle.dap_normalise.specs.{Accepting.Payload, RecordTexts.Contain}
use Rattle.dap_normalise.proofs.RecordTexts.{HasWritten}
use Rattle.dap_normalise.proofs.sessions.write_messages.Given as goal

abbrev pub invariant-loop-message : goal.invariant-loop-message
invariant-loop-message g l = record {
  all : l.fn.messages.items ≡ l.yielded ++ into_iter_items l.message-iterator;
  records : l.records ≡ length l.yielded;
  written : (front : List Payload) → Contain l.fn.limits (map stored_sent l.yielded) front
      → HasWritten g.T.NameTable.numbers g.T.NameTable.limit l.fn.limits l.fn.mode l.judge front
      (map stored_sent l.yielded) l.bytes.items;
}

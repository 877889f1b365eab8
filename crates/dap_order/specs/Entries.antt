-- The parts of an entry, for private clauses.
use Rattle.std.specs.Prelude.{ℕ, Option}
use Rattle.dap_message.specs.Message.{Sent}
use Rattle.dap_message.specs.declared.any_message.AnyMessage.{Ghosts as Form}
use Rattle.dap_session.specs.EnvelopeView.{message_of}
use Rattle.dap_order.specs.declared.entries.Entry.{Entry}

module _ {M : Type 0} {form : Form M} where
  abbrev pub sent_by : Entry M form → Sent
  sent_by e = message_of e.message

  abbrev pub request_by : Entry M form → Option ℕ
  request_by e = e.request

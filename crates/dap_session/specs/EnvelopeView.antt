-- For private clauses: the message that an envelope was read from.
use Rattle.dap_message.specs.Message.{Sent}
use Rattle.dap_message.specs.declared.any_message.AnyMessage.{Ghosts as Form}
use Rattle.dap_session.specs.declared.envelope.Envelope.{Envelope}

module _ {M : Type 0} {form : Form M} where
  abbrev pub message_of : Envelope M form → Sent
  message_of e = form.sent e.message.now

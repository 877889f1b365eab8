-- The results of `check`. Source: own.
use Rattle.std.specs.Prelude.{◌≡◌, ℕ, Bool, true, List, length, None, Result, Ok, Err}
use Rattle.dap_device.specs.declared.device.Source.{Ghosts as Source}
use Rattle.dap_tree.specs.declared.side.Side.TheVariants.{Client, Adapter}
use Rattle.dap_message.specs.Message.{Sent}
use Rattle.dap_rename.specs.declared.mode.Mode.{Mode}
use Rattle.dap_session.specs.Rules.{open_requests}
use Rattle.dap_normalise.specs.{declared.checked.Checked.Checked, Accepting.IsAccepted}
use Rattle.dap_normalise.specs.Streaming.{HasComeTo, RefusesNext}
use Rattle.dap_input.specs.{declared.limits.Limits.Limits, declared.refused.Refused.Refused}
use Rattle.dap_input.specs.declared.refused.Refused.TheVariants.{Incomplete, WriteFault, Memory}
use Rattle.dap_input.specs.Engine.{Accepts}

-- The counts of accepted messages: their number, and the number of requests of each side that have
-- no response.
pub record AreCounted (checked : Checked) (messages : List Sent) : Type 0 where
  pub records : checked.records ≡ length messages
  pub client : checked.client_open ≡ open_requests Client messages
  pub adapter : checked.adapter_open ≡ open_requests Adapter messages

-- `check` on a reader, in terms of the bytes and the failures that the reader reports. The other
-- parameters are the limits, the mode, and whether each request must have a response.
module _ {R : Type 0} (source : Source R) (limits : Limits) (mode : Mode) (complete : Bool) where
  -- The input is accepted, with these counts. If `complete` is true, each request has a response.
  pub record HasChecked (old new : R) (checked : Checked) : Type 0 where
    pub messages : List Sent
    pub accepts : Accepts source limits.input (IsAccepted limits mode) old new messages
    pub counted : AreCounted checked messages
    pub answered : complete ≡ true → (checked.client_open ≡ 0) × (checked.adapter_open ≡ 0)

  -- The input is accepted and `complete` is true, but this many requests of the client and of the
  -- adapter have no response.
  pub record IsIncomplete (old new : R) (client adapter : ℕ) : Type 0 where
    pub asked : complete ≡ true
    pub messages : List Sent
    pub accepts : Accepts source limits.input (IsAccepted limits mode) old new messages
    pub client_is : client ≡ open_requests Client messages
    pub adapter_is : adapter ≡ open_requests Adapter messages
    pub some : client ≡ 0 → adapter ≡ 0 → ⊥

  -- An allocation failed at this record. No more was read than the record requires, the reader did
  -- not fail, and the records before it are accepted.
  abbrev pub RanOutOfMemory : R → R → Type 0
  RanOutOfMemory old new = (number : ℕ) × (text : List ℕ)
      × HasComeTo source limits mode old new None number text

  abbrev pub Checks : R → R → Result Checked Refused → Type 0
  Checks old new (Ok checked) = HasChecked old new checked
  Checks old new (Err (Incomplete client adapter)) = IsIncomplete old new client adapter
  Checks old new (Err WriteFault) = ⊥
  Checks old new (Err Memory) = RanOutOfMemory old new
  Checks old new (Err refused) = (text : List ℕ)
      × RefusesNext source limits mode old new refused text

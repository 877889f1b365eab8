-- The effect of reading and checking the next record of an input.
use Rattle.std.specs.Prelude.{◌≡◌, ℕ, ◌+◌, ◌-◌, ◌<◌, ◌≤◌, ℤ, Bool, true, false, List, [], ◌∷◌, ◌++◌}
use Rattle.std.specs.Prelude.{length, Option, Some, None, Result, Ok, Err}
use Rattle.dap_device.specs.declared.device.Source.{Ghosts as Source}
use Rattle.dap_device.specs.{Pieces.HasReadSoFar, declared.reading.Stop.Stop}
use Rattle.dap_device.specs.declared.reading.Stop.TheVariants.{End}
use Rattle.dap_frame.specs.Grammar.{HasItem}
use Rattle.dap_message.specs.Message.{Sent}
use Rattle.dap_rename.specs.declared.mode.Mode.{Mode}
use Rattle.dap_recording.specs.declared.record_fault.RecordCause.TheVariants.{Cut}
use Rattle.dap_input.specs.{declared.limits.Limits.Limits, declared.refused.Refused.Refused}
use Rattle.dap_input.specs.declared.refused.Refused.TheVariants.{Memory, Record}
use Rattle.dap_input.specs.{InputSteps.RefusalHolds, ItemReading.{RepresentsRecord, record_items}}
use Rattle.dap_input.specs.{ReadTo.IsReadTo, RecordSteps.IsBetweenRecords}
use Rattle.dap_normalise.specs.declared.normal_records.NormalRecords.{NormalRecords}
use Rattle.dap_normalise.specs.Accepting.{IsAccepted, accepting}
use Rattle.dap_normalise.specs.JudgingSteps.{RepresentsMessages, judge_limits, judge_mode}
use Rattle.dap_normalise.specs.JudgingSteps.{record_of}

-- Abstraction relation: these bytes were read. They are accepted records with these messages,
-- followed by the unread bytes, and the state represents the messages with this normal form.
pub record RepresentsBefore {T : Type 0} (numbers : T → List ℤ) (table_limit : T
    → ℕ) (limits : Limits) (mode : Mode) (bytes : List ℕ) (records : NormalRecords T)
    (messages normal : List Sent) : Type 0 where
  pub front : List ℕ
  pub accepted : IsAccepted limits mode front messages
  pub came : bytes ≡ front ++ records.records.pieces.unread
  pub taken : records.records.pieces.taken ≡ length bytes
  pub limit_is : records.records.pieces.limit ≡ limits.input
  pub between : IsBetweenRecords (RepresentsRecord limits.frame) records.records
  pub number_is : records.records.number ≡ length messages + 1
  -- there are at most as many records as bytes, so an integer that can count the bytes can count
  -- the records
  pub few : records.records.number ≤ length front + 1
  pub read_to : IsReadTo (accepting limits mode) bytes (length messages)
  pub represents : RepresentsMessages numbers table_limit records.judge messages normal
  pub judge_limits_are : judge_limits records.judge ≡ limits
  pub judge_mode_is : judge_mode records.judge ≡ mode

-- The complete next record is buffered.
abbrev pub IsBuffered : {T : Type 0} → Limits → NormalRecords T → Type 0
IsBuffered limits records = HasItem (record_items limits.frame) records.records.pieces.unread

-- the maximum number of bytes after the accepted records
abbrev pub remaining : {T : Type 0} → NormalRecords T → ℕ
remaining records =
    (records.records.pieces.limit - records.records.pieces.taken) + length
    records.records.pieces.unread

module _ {T R : Type 0} (numbers : T → List ℤ) (table_limit : T → ℕ) (source : Source R)
    (limits : Limits) (mode : Mode) (bytes : List ℕ) (messages normal : List Sent)
    (old new : NormalRecords T) (before after : R) where
  -- One more record is accepted, and the record of its normal form is appended.
  pub record HasAdvanced (text longer : List ℕ) : Type 0 where
    pub more : List ℕ
    pub came : HasReadSoFar source before after more None
    pub message : Sent
    pub named : Sent
    pub represents : RepresentsBefore numbers table_limit limits mode (bytes ++ more) new (messages
        ++ message
        ∷ []) (normal ++ named ∷ [])
    pub read_to : IsReadTo (accepting limits mode) (bytes ++ more) old.records.number
    pub shorter : remaining new < remaining old
    pub appended : longer ≡ text ++ record_of named

  -- The input has ended, and is accepted.
  pub record HasEnded (text longer : List ℕ) : Type 0 where
    pub more : List ℕ
    pub came : HasReadSoFar source before after more (Some End)
    pub accepted : IsAccepted limits mode (bytes ++ more) messages
    pub read_to : IsReadTo (accepting limits mode) (bytes ++ more) old.records.number
    pub judge_is : new.judge ≡ old.judge
    pub number_is : new.records.number ≡ old.records.number
    pub kept : longer ≡ text

  -- This record is rejected, or cannot be read.
  pub record HasStoppedAt (refused : Refused) : Type 0 where
    pub more : List ℕ
    pub stop : Option Stop
    pub came : HasReadSoFar source before after more stop
    pub within : length (bytes ++ more) ≤ limits.input + 1
    pub read_to : IsReadTo (accepting limits mode) (bytes ++ more) old.records.number
    pub says : RefusalHolds (accepting limits mode) (bytes ++ more) stop old.records.number refused
    pub cut : (n : ℕ) → refused ≡ Record n Cut → stop ≡ Some End
    pub last : refused ≡ Memory → new.records.number ≤ old.records.number + 1
    pub goes_on : refused ≡ Memory → stop ≡ None

  abbrev pub HasNext : List ℕ → List ℕ → Result Bool Refused → Type 0
  HasNext text longer (Ok true) = HasAdvanced text longer
  HasNext text longer (Ok false) = HasEnded text longer
  HasNext text longer (Err refused) = HasStoppedAt refused

  -- The same if nothing is appended.
  abbrev pub ChecksNext : Result Bool Refused → Type 0
  ChecksNext outcome = (text : List ℕ) × HasNext [] text outcome

  -- The same if the message of the record is appended to these messages of a session.
  abbrev pub StoresNext : List Sent → List Sent → Result Bool Refused → Type 0
  StoresNext stored more (Ok true) =
      (text : List ℕ) × (gone : HasAdvanced [] text) × (more ≡ stored ++ gone.message ∷ [])
  StoresNext stored more (Ok false) = (text : List ℕ) × HasEnded [] text × (more ≡ stored)
  StoresNext stored more (Err refused) = HasStoppedAt refused

-- The meaning of a rejection: the number of the record and the reason. Source: own.
use Rattle.std.specs.Prelude.{◌≡◌, ◌≢◌, ◌⊎◌, ℕ, List, ◌++◌, Option, Some, None, MatchOption}
use Rattle.dap_message.specs.Message.{no_reading, fraction, faulty as profile_fault}
use Rattle.dap_recording.specs.declared.record_fault.RecordCause.TheVariants.{Cut}
use Rattle.dap_recording.specs.declared.record_fault.RecordCause.TheVariants.{Memory as NoMemory}
use Rattle.dap_input.specs.Inputs.{Input, Fault, refused, read_fault, IsRefusedAt}
use Rattle.dap_input.specs.Validation.{Validation, ContentError, Reason, faulty, input_too_long}
use Rattle.dap_input.specs.Validation.{cut, objected, no_message, broken, too_many_ids, grew}
use Rattle.dap_input.specs.{Validation.IsFirstRefusal, declared.refused.Refused.Refused}
use Rattle.dap_input.specs.declared.refused.Refused.TheVariants.{InputTooLong, Record, Json}
use Rattle.dap_input.specs.declared.refused.Refused.TheVariants.{Fraction, Message, Rule}
use Rattle.dap_input.specs.declared.refused.Refused.TheVariants.{TooManyIds, Grew, ReadFault}
use Rattle.dap_input.specs.declared.refused.Refused.TheVariants.{Memory}

-- The record of a rejection, and the reason of the same name. A value that is not a reason to
-- reject a record of the input has none: a failure of a device, an allocation failure, a missing
-- response, and an error of a trace.
abbrev pub reason_of : Refused → Option (ℕ × Reason)
reason_of (InputTooLong n) = Some (n, input_too_long)
reason_of (Record n Cut) = Some (n, cut)
reason_of (Record n NoMemory) = None
reason_of (Record n cause) = Some (n, faulty cause)
reason_of (Json n) = Some (n, objected (no_message no_reading))
reason_of (Fraction n) = Some (n, objected (no_message fraction))
reason_of (Message n fault) = Some (n, objected (no_message (profile_fault fault)))
reason_of (Rule n rule) = Some (n, objected (broken rule))
reason_of (TooManyIds n) = Some (n, objected too_many_ids)
reason_of (Grew n) = Some (n, objected grew)
reason_of because = None

-- The rejection is that of this record, for this reason or failure.
abbrev pub RefusalMatches : Refused → ℕ → Fault → Type 0
RefusalMatches because number (refused why) = reason_of because ≡ Some (number, why)
RefusalMatches because number read_fault = because ≡ ReadFault

-- The content of a complete record is rejected for this.
abbrev pub IsObjected : (ContentError → Type 0) → Reason → Type 0
IsObjected Rejects (objected why) = Rejects why
IsObjected Rejects why = ⊥

-- Record n is rejected for its content, which has these objections. An allocation failure states
-- nothing.
abbrev pub RejectsPayload : (ContentError → Type 0) → ℕ → Refused → Type 0
RejectsPayload Rejects n Memory = Unit {0}
RejectsPayload Rejects n because =
    MatchOption (reason_of because) ⊥ (λ reported. (reported.0 ≡ n) × IsObjected Rejects reported.1)

module _ (j : Validation) where
  -- This is the first rejection of the input.
  abbrev pub IsRefused : List ℕ → Refused → Type 0
  IsRefused whole because =
      MatchOption (reason_of because) ⊥ (λ reported. IsFirstRefusal j whole reported.0 reported.1)

  -- The input is rejected at this record, and the rejection reports it.
  pub record RefusesAt (input : Input) (number : ℕ) (because : Refused) : Type 0 where
    pub fault : Fault
    pub tells : RefusalMatches because number fault
    pub is_refused : IsRefusedAt j input number fault

  -- An input is either accepted as one list of values or has exactly one rejection.
  pub record HasOneOutcome : Type 0 where
    pub some : (whole : List ℕ)
        → ((values : List j.Value) × j.IsAccepted whole values)
        ⊎ ((because : Refused) × IsRefused whole because)
    pub one_list : (whole : List ℕ) (values others : List j.Value) → j.IsAccepted whole values
        → j.IsAccepted whole others → values ≡ others
    pub one_refusal : (whole : List ℕ) (because other : Refused) → IsRefused whole because
        → IsRefused whole other → because ≡ other
    pub not_both : (whole : List ℕ) (values : List j.Value) (because : Refused)
        → j.IsAccepted whole values → IsRefused whole because → ⊥

  -- A rejection remains if more bytes follow, unless the record was only cut.
  abbrev pub RefusalStays : Type 0
  RefusalStays = (whole more : List ℕ) (because : Refused) → ((n : ℕ) → because ≢ Record n Cut)
      → IsRefused whole because → IsRefused (whole ++ more) because

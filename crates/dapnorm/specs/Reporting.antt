-- What the program prints and reports, and its statuses. Source: own.
use Rattle.std.specs.Prelude.{◌≡◌, ◌⊎◌, ℕ, List, [], ◌∷◌, Result, Ok, Err}
use Rattle.dap_compare.specs.declared.verdict.CompareRefused.{CompareRefused}
use Rattle.dap_device.specs.{Written.{AllSent, PrefixWritten}, declared.device.Sink.Ghosts as Sink}
use Rattle.dap_input.specs.{RefusedText.refused_text, declared.refused.Refused.Refused}
use Rattle.dap_input.specs.declared.refused.Refused.TheVariants.{Memory, ReadFault, WriteFault}
use Rattle.dapnorm.specs.Lines.{fault_line}

-- the status of the program after an error: a reader or a writer failed, an allocation failed, or
-- the input is rejected
abbrev pub refused_status : Refused → ℕ
refused_status ReadFault = 4
refused_status WriteFault = 4
refused_status Memory = 5
refused_status refused = 2

-- the status if two inputs were not compared: that of the error
abbrev pub refusal_status : CompareRefused → ℕ
refusal_status (CompareRefused.Input which refused) = refused_status refused
refusal_status CompareRefused.Memory = 5

-- the status of the program for the result of a command
abbrev pub status_of : {U : Type 0} → Result U Refused → ℕ
status_of (Ok done) = 0
status_of (Err refused) = refused_status refused

module _ {S : Type 0} (sink : Sink S) where
  -- The text was written and flushed, or a prefix of it was written and the device failed.
  abbrev pub HasSent : S → S → List ℕ → Type 0
  HasSent old new text = AllSent sink old new text ⊎ PrefixWritten sink old new text

  -- An error is reported in one line. If there is none, nothing is reported.
  abbrev pub IsReported : S → S → Result (Unit {0}) Refused → Type 0
  IsReported old new (Ok done) = new ≡ old
  IsReported old new (Err refused) = HasSent old new (fault_line (refused_text refused ∷ []))

  -- The text is written and flushed, and the status is this; or a prefix of it is written and the
  -- writer fails, and the status is that of a failed device.
  abbrev pub IsSent : S → S → List ℕ → ℕ → ℕ → Type 0
  IsSent before after text done status =
      (AllSent sink before after text × (status ≡ done))
      ⊎ (PrefixWritten sink before after text × (status ≡ 4))

-- The command leaves the devices like this with its result. The result is reported like this, and
-- the status is that of the result.
pub record Answered (Leaves Reports : Result (Unit {0}) Refused → Type 0) (status : ℕ) : Type 0 where
  pub outcome : Result (Unit {0}) Refused
  pub leaves : Leaves outcome
  pub reports : Reports outcome
  pub status_is : status ≡ status_of outcome

module _ {W E : Type 0} (sink : Sink W) (errors : Sink E) where
  -- The text is written and flushed, and the status is the one that is given. Or a prefix of the
  -- text is written and the writer fails, which is reported.
  abbrev pub IsPrinted : List ℕ → ℕ → W → W → E → E → ℕ → Type 0
  IsPrinted text given before after old new status =
      (AllSent sink before after text × (new ≡ old) × (status ≡ given))
      ⊎ (PrefixWritten sink before after text
      × HasSent errors old new (fault_line (refused_text WriteFault ∷ [])) × (status ≡ 4))

  module _ {V F : Type 0} (text : V → List ℕ) (status_for : V → ℕ) (line : F → List ℕ)
      (fault_status : F → ℕ) where
    -- The text of a result is printed, with the status of the result. An error is reported, with
    -- its status, and nothing is written.
    abbrev pub OutcomeIsReported : Result V F → W → W → E → E → ℕ → Type 0
    OutcomeIsReported (Ok outcome) before after old new status =
        IsPrinted (text outcome) (status_for outcome) before after old new status
    OutcomeIsReported (Err because) before after old new status = (after ≡ before)
        × HasSent errors old new (fault_line (line because ∷ []))
        × (status ≡ fault_status because)

    -- A result for which `Finds` holds is printed or reported.
    pub record ResultIsReported (Finds : Result V F → Type 0) (before after : W) (old new : E)
        (status : ℕ) : Type 0 where
      pub outcome : Result V F
      pub finds : Finds outcome
      pub reports : OutcomeIsReported outcome before after old new status

-- A file that is read whole. Source: own.
use Rattle.std.specs.Prelude.{◌≡◌, ◌≢◌, ℕ, List, [], ◌∷◌, ◌++◌, Option, None, Result, Ok, Err}
use Rattle.std.specs.Prelude.{Vec}
use Rattle.std.specs.declared.alloc.Global.{Global}
use Rattle.dap_device.specs.Reading.{HasReadInput, HasReadPartly}
use Rattle.dap_device.specs.declared.{device.Source.Ghosts as Source, reading.Stop.Stop}
use Rattle.dap_host.specs.{Files.Files, declared.host.{OpenFault.OpenFault, Purpose.Purpose}}
use Rattle.dap_input.specs.{RefusedText.refused_text, declared.refused.Refused.Refused}
use Rattle.dapnorm.specs.{Desks.IsLeft, Lines.{fault_line, transcript_fault_text}}
use Rattle.dapnorm.specs.declared.reading.Unread.{Unread, TheVariants.{Failed, Memory, Unopened}}

-- These are the bytes of the file, or its first bytes up to one past the limit; or a read failed;
-- or an allocation failed, and no read did.
pub record HasWhole {R : Type 0} (source : Source R) (limit : ℕ) (old new : R) (bytes : List ℕ)
    : Type 0 where
  pub stop : Stop
  pub came : HasReadInput source old new limit bytes stop
  pub not_failed : stop ≢ Stop.Failed

abbrev pub IsReadWhole : {R : Type 0} → Source R → ℕ → R → R → Result (Vec ℕ Global) Unread → Type 0
IsReadWhole source limit old new (Ok bytes) = HasWhole source limit old new bytes.items
IsReadWhole source limit old new (Err Failed) =
    (bytes : List ℕ) × HasReadInput source old new limit bytes Stop.Failed
IsReadWhole source limit old new (Err Memory) = HasReadPartly source old new limit
IsReadWhole source limit old new (Err (Unopened fault)) = ⊥

module _ {I O T : Type 0} (files : Files I O T) (source : Source I) (purpose : Purpose)
    (name : List ℕ) (limit : ℕ) (file : Option I) where
  -- The file of the name was opened and read whole, with this result.
  abbrev pub Reads : Result (Vec ℕ Global) Unread → Type 0
  Reads outcome =
      IsLeft (files.opens purpose name) file (λ old new. IsReadWhole source limit old new outcome)

  -- Or it did not open.
  abbrev pub IsFileRead : Result (Vec ℕ Global) Unread → Type 0
  IsFileRead (Err (Unopened fault)) = (file ≡ None) × files.closed purpose name fault
  IsFileRead outcome = Reads outcome

-- the line about a file that was not read: this one if it did not open or a read failed; and these
-- texts before the fault of a file that starts like a transcript and is none
abbrev pub unread_text : Unread → List ℕ → List (List ℕ) → List ℕ
unread_text Memory line texts = fault_line (refused_text Refused.Memory ∷ [])
unread_text (Unopened OpenFault.Memory) line texts = fault_line (refused_text Refused.Memory ∷ [])
unread_text (Unopened (OpenFault.Transcript fault)) line texts =
    fault_line (texts ++ transcript_fault_text fault ∷ [])
unread_text unread line texts = line

abbrev pub unread_status : Unread → ℕ
unread_status Memory = 5
unread_status (Unopened OpenFault.Memory) = 5
unread_status (Unopened (OpenFault.Transcript fault)) = 2
unread_status unread = 4

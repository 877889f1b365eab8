-- What the steps of `golden` state about the input and the golden file.
use Rattle.std.proofs.Common.{◌≡◌, ℕ, List, Option, Some, Err, sym, subst}
use Rattle.dap_device.specs.declared.file.Replaceable.{Ghosts as Replaceable}
use Rattle.dap_mask.specs.Mask.{Mask}
use Rattle.dap_rename.specs.declared.mode.Mode.{Mode}
use Rattle.dap_input.specs.declared.limits.Limits.{Limits}
use Rattle.dap_golden.specs.Golden.{mode_given}
use Rattle.dap_golden.specs.GoldenForms.{ComparesFile, IsWrittenAs}
use Rattle.dap_golden.specs.GoldenSteps.{IsFileOf, IsNotWritten, bytes_of}
use Rattle.dap_golden.specs.GoldenUpdates.{Compares, Had, HasFile, HasNoFile, HasText, IsOnlyRead}
use Rattle.dap_golden.specs.declared.forms.{GoldenBytes.GoldenBytes, GoldenForm.GoldenForm}
use Rattle.dap_golden.specs.declared.golden.GoldenText.{GoldenText}
use Rattle.dap_golden.specs.declared.updates.GoldenRequest.{GoldenRequest}
use Rattle.dap_golden.specs.declared.updates.GoldenStop.{GoldenStop}
use Rattle.dap_golden.specs.declared.updates.GoldenStop.TheVariants as stop

module _ (limits : Limits) (mask : Option Mask) (request : GoldenRequest) (input : List ℕ)
    (text : GoldenText) (has : HasText limits mask request input text) (mode : Mode)
    (mode_is : mode ≡ mode_given mask request.mode) where
  -- The bytes are those of the golden file in the mode of the request and the rules.
  text_file : (bytes : List ℕ) → IsWrittenAs limits mode request.form text.bytes.items bytes
      → HasFile limits mask request input text bytes
  text_file bytes is = record {
    has_text = has;
    is_written = subst (λ (m : Mode). IsWrittenAs limits m request.form text.bytes.items bytes)
        mode_is is;
  }

  pub has_file : (made : GoldenBytes) → IsFileOf limits mode request.form text made
      → HasFile limits mask request input made.text (bytes_of made)
  has_file made is =
      subst (λ (t : GoldenText). HasFile limits mask request input t (bytes_of made))
      (sym is.text_is) (text_file (bytes_of made) is.is_written)

  -- If the golden file of its text would be too long, the input has none.
  pub no_file : (why : GoldenStop)
      → IsNotWritten limits mode request.form text.bytes.items why
      → HasNoFile limits mask request input why
  no_file stop.TranscriptTooLong is = (text, is.0, text_file is.0 is.1, is.2)
  no_file stop.Memory is = tt
  no_file why is = absurd is

-- An error of comparing the golden file is one of the call.
pub stopped : {F : Type 0} (file : Replaceable F) (old new : F) (limits : Limits) (mode : Mode)
    (form : GoldenForm) (golden normal written : List ℕ) → Had file old new (Some golden)
    → IsOnlyRead file old new → (why : GoldenStop)
    → ComparesFile limits mode form golden normal written (Err why)
    → Compares file old new limits mode form normal written (Err why)
stopped file old new limits mode form golden normal written had read (stop.Transcript fault) is =
    (golden, had, is, read)
stopped file old new limits mode form golden normal written had read (stop.Golden refused) is =
    (golden, had, is, read)
stopped file old new limits mode form golden normal written had read stop.Memory is = read
stopped file old new limits mode form golden normal written had read why is = absurd is

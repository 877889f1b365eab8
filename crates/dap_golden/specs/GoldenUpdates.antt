-- The effect of `golden` on its input and its golden file, and its result. Source: own.
use Rattle.std.specs.Prelude.{◌≡◌, ◌≢◌, ◌⊎◌, ℕ, ◌+◌, ◌<◌, Bool, true, false, List, length, Option}
use Rattle.std.specs.Prelude.{Some, None, Result, Ok, Err, if◌then◌else◌}
use Rattle.dap_device.specs.{Calls.{HasBytes, IsLonger, KeepsTarget}, Crash.Content}
use Rattle.dap_device.specs.Replacing.{HasFailedAt, HasReplaced}
use Rattle.dap_device.specs.declared.file.Replaceable.{Ghosts as Replaceable}
use Rattle.dap_device.specs.declared.replacing.ReplaceFault.{ReplaceFault}
use Rattle.dap_input.specs.declared.limits.Limits.{Limits}
use Rattle.dap_mask.specs.Mask.{Mask}
use Rattle.dap_rename.specs.declared.mode.Mode.{Mode}
use Rattle.dap_golden.specs.Golden.{IsGolden, IsRefusedGolden, mode_given}
use Rattle.dap_golden.specs.GoldenForms.{IsFileRefused, IsFileVerdict, IsOtherText, IsWrittenAs}
use Rattle.dap_golden.specs.{TraceHead.CanBecomeGolden, declared.golden.GoldenText.GoldenText}
use Rattle.dap_golden.specs.declared.forms.GoldenForm.{GoldenForm}
use Rattle.dap_golden.specs.declared.updates.GoldenDone.{GoldenDone}
use Rattle.dap_golden.specs.declared.updates.GoldenDone.TheVariants as done
use Rattle.dap_golden.specs.declared.updates.GoldenRequest.{GoldenRequest}
use Rattle.dap_golden.specs.declared.updates.GoldenStop.{GoldenStop}
use Rattle.dap_golden.specs.declared.updates.GoldenStop.TheVariants as stop

-- ---- the input

module _ (limits : Limits) (mask : Option Mask) (request : GoldenRequest) (input : List ℕ) where
  -- The input has this golden text, in the mode of the request unless the rules want another.
  abbrev pub HasText : GoldenText → Type 0
  HasText = IsGolden limits (mode_given mask request.mode) mask request.allow_open input

  -- The input has this golden text, and these are the bytes of its golden file, in the form of the
  -- request.
  pub record HasFile (text : GoldenText) (bytes : List ℕ) : Type 0 where
    pub has_text : HasText text
    pub is_written : IsWrittenAs limits (mode_given mask request.mode) request.form
        text.bytes.items bytes

  -- The input does not have a golden file, for this reason: it has no golden text, or the file
  -- would be too long. Or an allocation failed.
  abbrev pub HasNoFile : GoldenStop → Type 0
  HasNoFile (stop.Input refused) =
      IsRefusedGolden limits (mode_given mask request.mode) mask request.allow_open input refused
  HasNoFile stop.TranscriptTooLong = (text : GoldenText) × (bytes : List ℕ) × HasFile text bytes
      × (limits.input < length bytes)
  HasNoFile stop.Memory = Unit {0}
  HasNoFile _ = ⊥

-- ---- the golden file

-- A golden file with this content may be replaced by these bytes: it does not exist, or it has
-- other bytes and can become a golden file.
abbrev pub IsReplaceable : List ℕ → Content → Type 0
IsReplaceable bytes None = Unit {0}
IsReplaceable bytes (Some other) = (other ≢ bytes) × CanBecomeGolden other

module _ {F : Type 0} (file : Replaceable F) (old new : F) where
  -- The golden file is unchanged, and a crash leaves only contents that it could leave before.
  abbrev pub IsKept : Type 0
  IsKept = file.is_known old → KeepsTarget file.target file.may_leave old new

  -- The golden file had this content.
  abbrev pub Had : Content → Type 0
  Had content = file.is_known old → file.target old ≡ content

  -- A read of the golden file failed.
  abbrev pub HasFailed : Type 0
  HasFailed = file.failures new ≡ file.failures old + 1

  -- Nothing failed, and the golden file is unchanged.
  abbrev pub IsOnlyRead : Type 0
  IsOnlyRead = (file.failures new ≡ file.failures old) × IsKept

  -- The golden file is compared with this normal text. An update would write these bytes to it.
  module _ (limits : Limits) (mode : Mode) (form : GoldenForm) (normal written : List ℕ) where
    abbrev pub Compares : Result GoldenDone GoldenStop → Type 0
    Compares (Ok (done.Compared verdict)) = (golden : List ℕ) × Had (Some golden)
        × IsFileVerdict limits mode form golden normal written verdict × IsOnlyRead
    Compares (Err stop.Missing) = Had None × IsOnlyRead
    Compares (Err stop.GoldenUnread) = HasFailed × IsKept
    Compares (Err stop.GoldenTooLong) =
        (file.is_known old → IsLonger limits.input (file.target old)) × IsOnlyRead
    Compares (Err (stop.Transcript fault)) = (golden : List ℕ) × Had (Some golden)
        × IsOtherText form golden written fault × IsOnlyRead
    Compares (Err (stop.Golden refused)) = (golden : List ℕ) × Had (Some golden)
        × IsFileRefused limits mode form golden normal written refused × IsOnlyRead
    Compares (Err stop.Memory) = IsOnlyRead
    Compares _ = ⊥

  -- Whether the golden file has these bytes. If not, it may be replaced.
  abbrev pub Finds : ℕ → List ℕ → Result Bool GoldenStop → Type 0
  Finds limit bytes (Ok true) = Had (Some bytes) × IsOnlyRead
  Finds limit bytes (Ok false) =
      (file.is_known old → IsReplaceable bytes (file.target old)) × IsOnlyRead
  Finds limit bytes (Err stop.GoldenUnread) = HasFailed × IsKept
  Finds limit bytes (Err stop.GoldenTooLong) =
      (file.is_known old → IsLonger limit (file.target old)) × IsOnlyRead
  Finds limit bytes (Err stop.NotRecording) = (other : List ℕ) × Had (Some other)
      × ¬ CanBecomeGolden other × IsOnlyRead
  Finds limit bytes (Err stop.Memory) =
      (file.is_known old → HasBytes (file.target old)) × IsOnlyRead
  Finds limit bytes _ = ⊥

  -- The golden file could be replaced. Now it has this text, and a crash leaves no other content.
  pub record IsWritten (bytes : List ℕ) : Type 0 where
    pub other : file.is_known old → IsReplaceable bytes (file.target old)
    pub replaced : file.is_known old → HasReplaced file new bytes

  -- A step of the replacement failed. The temporary file is removed, unless that failed too.
  pub record IsUnwritten (fault : ReplaceFault) (bytes : List ℕ) : Type 0 where
    pub failed : file.is_known old → HasFailedAt file fault.step old new bytes
    pub removed : file.is_known old → fault.is_left ≡ false → file.temporary new ≡ None
    pub counted : file.failures new ≡ file.failures old + (if fault.is_left then 2 else 1)

  -- These bytes are written to the golden file, unless the file already has them or may not be
  -- replaced. The text of the session has this many records.
  abbrev pub Updates : ℕ → List ℕ → ℕ → Result GoldenDone GoldenStop → Type 0
  Updates limit bytes records (Ok done.Unchanged) = Had (Some bytes) × IsOnlyRead
  Updates limit bytes records (Ok (done.Written written)) = (written ≡ records) × IsWritten bytes
  Updates limit bytes records (Err (stop.Unwritten fault)) = IsUnwritten fault bytes
  Updates limit bytes records (Err why) = Finds limit bytes (Err why)
  Updates limit bytes records _ = ⊥

-- ---- input and golden file

module _ {F : Type 0} (file : Replaceable F) (limits : Limits) (mask : Option Mask)
    (request : GoldenRequest) (input : List ℕ) where
  -- Updates the golden file with these bytes, or compares it with the golden text of the input.
  abbrev pub RunsOn : Bool → GoldenText → List ℕ → F → F → Result GoldenDone GoldenStop → Type 0
  RunsOn true text bytes old new result =
      Updates file old new limits.input bytes text.records result
  RunsOn false text bytes old new result = Compares file old new limits
      (mode_given mask request.mode) request.form text.bytes.items bytes result

  -- The input has no golden file and the golden file is not touched; or it has one, and the golden
  -- file is updated or compared.
  abbrev pub Answers : F → F → Result GoldenDone GoldenStop → Type 0
  Answers old new result =
      ((why : GoldenStop) × (result ≡ Err why) × HasNoFile limits mask request input why
      × (new ≡ old))
      ⊎ ((text : GoldenText) × (bytes : List ℕ) × HasFile limits mask request input text bytes
      × RunsOn request.update text bytes old new result)

  -- The contents that a crash during the run may leave: those that it could leave before, or, on an
  -- update, the complete golden file of the input.
  abbrev pub MayBeLeft : F → Content → Type 0
  MayBeLeft old content =
      file.may_leave old content
      ⊎ ((request.update ≡ true) × ((text : GoldenText) × (bytes : List ℕ)
      × HasFile limits mask request input text bytes × (content ≡ Some bytes)))

-- What the steps of creating a golden text do.
use Rattle.std.specs.Prelude.{◌≡◌, ◌≢◌, ◌⊎◌, ◌<◌, ◌≤◌, ℕ, Bool, List, [], length, Option, Some}
use Rattle.std.specs.Prelude.{None, Result, Ok, Err, Vec}
use Rattle.std.specs.declared.alloc.Global.{Global}
use Rattle.dap_tree.specs.declared.side.Side.{Side}
use Rattle.dap_rename.specs.declared.mode.Mode.{Mode}
use Rattle.dap_mask.specs.Mask.{Mask}
use Rattle.dap_input.specs.{declared.limits.Limits.Limits, declared.refused.Refused.Refused}
use Rattle.dap_input.specs.{declared.refused.Refused.TheVariants.Memory, Refusals.IsRefused}
use Rattle.dap_record.specs.Tracing.{IsTraceRefused}
use Rattle.dap_rules.specs.Applying.{IsRefusedByRules}
use Rattle.dap_normalise.specs.{Accepting.{IsAccepted, accepting}, NormalSession.IsNormalSession}
use Rattle.dap_normalise.specs.declared.normal_session.NormalSession.{NormalSession}
use Rattle.dap_rules.specs.declared.fault.ApplyRefused.{ApplyRefused}
use Rattle.dap_rules.specs.declared.fault.ApplyRefused.TheVariants as step
use Rattle.dap_golden.specs.declared.fault.GoldenRefused.{GoldenRefused}
use Rattle.dap_golden.specs.declared.fault.GoldenRefused.TheVariants as because
use Rattle.dap_transcript.specs.declared.fault.TranscriptCause.TheVariants as cause
use Rattle.dap_golden.specs.{Golden.{AppliesBy, RefusesSession}, TraceHead.IsTraceHead}
use Rattle.dap_golden.specs.GoldenForms.{IsReadAsTranscript, IsWrittenAs}
use Rattle.dap_golden.specs.declared.comparing.GoldenVerdict.{GoldenVerdict}
use Rattle.dap_golden.specs.declared.comparing.GoldenVerdict.TheVariants.{Same, NotNormal}
use Rattle.dap_golden.specs.declared.fault.GoldenFault.{GoldenFault}
use Rattle.dap_golden.specs.declared.fault.GoldenFault.TheVariants as file
use Rattle.dap_golden.specs.declared.forms.{GoldenBytes.GoldenBytes, GoldenForm.GoldenForm}
use Rattle.dap_golden.specs.declared.golden.GoldenText.{GoldenText}
use Rattle.dap_golden.specs.declared.updates.GoldenStop.{GoldenStop}
use Rattle.dap_golden.specs.declared.updates.GoldenStop.TheVariants as stop

-- The input is a trace, and it is rejected for this reason or an allocation failed. Any other input
-- is its own recording, without an allocation.
abbrev pub RefusesTrace : Limits → List ℕ → GoldenRefused → Type 0
RefusesTrace limits input (because.Trace refused) =
    IsTraceHead input
    × ((messages : List (Side × List ℕ)) × IsTraceRefused limits input refused messages)
RefusesTrace limits input because.Memory = IsTraceHead input
RefusesTrace limits input _ = ⊥

-- The rules turn the recording into a session, and this is its normal text, with its counts.
abbrev pub IsNormalBy : Limits → Mode → Option Mask → List ℕ → NormalSession → Type 0
IsNormalBy limits mode mask recording normal = (session : List ℕ)
    × AppliesBy limits mode mask recording session × IsNormalSession limits mode session normal

-- The rules cannot turn the recording into a session for this reason.
abbrev pub HasNoSessionBy : Limits → Mode → Option Mask → List ℕ → ApplyRefused → Type 0
HasNoSessionBy limits mode None recording refused = ⊥
HasNoSessionBy limits mode (Some mask) recording refused =
    IsRefusedByRules limits mode mask recording refused

-- The rules cannot turn the recording into a session for this reason, or the session is rejected.
-- Or an allocation failed.
abbrev pub RefusesNormal : Limits → Mode → Option Mask → List ℕ → GoldenRefused → Type 0
RefusesNormal limits mode mask recording (because.Mask refused) =
    HasNoSessionBy limits mode mask recording (step.Mask refused)
RefusesNormal limits mode mask recording (because.Session refused) =
    HasNoSessionBy limits mode mask recording (step.Order refused)
    ⊎ ((session : List ℕ) × AppliesBy limits mode mask recording session
    × IsRefused (accepting limits mode) session refused)
RefusesNormal limits mode mask recording because.Memory = Unit {0}
RefusesNormal limits mode mask recording _ = ⊥

-- The result of normalising a session, with its step if it is an error.
abbrev pub session_of : Result NormalSession Refused → Result NormalSession GoldenRefused
session_of (Ok session) = Ok session
session_of (Err Memory) = Err because.Memory
session_of (Err refused) = Err (because.Session refused)

-- The session has no golden text for this reason, or an allocation failed.
abbrev pub RefusesGolden : Limits → Mode → Bool → List ℕ → GoldenRefused → Type 0
RefusesGolden limits mode allow_open session (because.Session refused) =
    RefusesSession limits mode allow_open session refused
RefusesGolden limits mode allow_open session because.NoRecords =
    IsAccepted limits mode session []
RefusesGolden limits mode allow_open session because.Memory = Unit {0}
RefusesGolden limits mode allow_open session _ = ⊥

-- ---- the golden file

-- The bytes of a golden file: those of the transcript if there is one, and otherwise the text.
abbrev pub bytes_in : List ℕ → Option (Vec ℕ Global) → List ℕ
bytes_in normal None = normal
bytes_in normal (Some transcript) = transcript.items

abbrev pub bytes_of : GoldenBytes → List ℕ
bytes_of made = bytes_in made.text.bytes.items made.transcript

-- The golden file of this text in this form, which is not longer than the limit.
pub record IsFileOf (limits : Limits) (mode : Mode) (form : GoldenForm) (text : GoldenText)
    (made : GoldenBytes) : Type 0 where
  pub text_is : made.text ≡ text
  pub is_written : IsWrittenAs limits mode form text.bytes.items (bytes_of made)
  pub short : length (bytes_of made) ≤ limits.input

-- The bytes are longer than the limit, or an allocation failed.
abbrev pub IsTooLong : ℕ → List ℕ → GoldenStop → Type 0
IsTooLong limit bytes stop.TranscriptTooLong = limit < length bytes
IsTooLong limit bytes stop.Memory = Unit {0}
IsTooLong limit bytes _ = ⊥

-- The golden file of this normal text would be too long, or an allocation failed.
abbrev pub IsNotWritten : Limits → Mode → GoldenForm → List ℕ → GoldenStop → Type 0
IsNotWritten limits mode form normal stop.TranscriptTooLong = (bytes : List ℕ)
    × IsWrittenAs limits mode form normal bytes × (limits.input < length bytes)
IsNotWritten limits mode form normal stop.Memory = Unit {0}
IsNotWritten limits mode form normal _ = ⊥

-- The golden file is read as a transcript, but is not one for this reason. Or an allocation failed.
abbrev pub IsNotRead : GoldenForm → List ℕ → GoldenStop → Type 0
IsNotRead form golden (stop.Transcript fault) =
    IsReadAsTranscript form golden × (fault.cause ≢ cause.Memory)
IsNotRead form golden stop.Memory = Unit {0}
IsNotRead form golden _ = ⊥

-- The result of comparing a golden file with other bytes than an update would write, from that of
-- comparing its recording.
abbrev pub file_outcome : Result GoldenVerdict GoldenFault → Result GoldenVerdict GoldenStop
file_outcome (Ok Same) = Ok NotNormal
file_outcome (Ok other) = Ok other
file_outcome (Err (file.Golden refused)) = Err (stop.Golden refused)
file_outcome (Err file.Memory) = Err stop.Memory

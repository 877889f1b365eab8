-- The two forms of a golden file: the normal text of a session, and the transcript of its messages.
-- Source: own. The name of a golden file determines the form in which it is written. Its first
-- bytes determine how it is read, so a file in the other form is compared too.
use Rattle.std.specs.Prelude.{◌≡◌, ◌≢◌, ◌⊎◌, ◌||◌, ℕ, Bool, true, List, Result, Ok, Err, codes, eqb}
use Rattle.std.specs.Prelude.{if◌then◌else◌}
use Rattle.std.specs.List.{ends_with}
use Rattle.dap_message.specs.Message.{Sent}
use Rattle.dap_rename.specs.declared.mode.Mode.{Mode}
use Rattle.dap_input.specs.{declared.limits.Limits.Limits, declared.refused.Refused.Refused}
use Rattle.dap_normalise.specs.{Accepting.IsAccepted, Normalising.Normalises}
use Rattle.dap_transcript.specs.{Recordings.IsRecordingOfTranscript}
use Rattle.dap_transcript.specs.Transcript.{starts_with_head, transcript}
use Rattle.dap_transcript.specs.declared.fault.TranscriptFault.{TranscriptFault}
use Rattle.dap_transcript.specs.declared.fault.TranscriptCause.TheVariants.{Memory}
use Rattle.dap_golden.specs.{GoldenFiles.{DiffersAt, IsRefusedFile}, TraceHead.IsRecordingHead}
use Rattle.dap_golden.specs.declared.comparing.GoldenVerdict.{GoldenVerdict}
use Rattle.dap_golden.specs.declared.comparing.GoldenVerdict.TheVariants as verdict
use Rattle.dap_golden.specs.declared.forms.GoldenForm.{GoldenForm}
use Rattle.dap_golden.specs.declared.forms.GoldenForm.TheVariants.{Frames, Transcript}
use Rattle.dap_golden.specs.declared.updates.GoldenStop.{GoldenStop}
use Rattle.dap_golden.specs.declared.updates.GoldenStop.TheVariants as stop

-- ---- writing

-- The form of a golden file with this name: names that end in `.yaml` or `.yml` are transcripts.
abbrev pub form_of_name : List ℕ → GoldenForm
form_of_name name =
    if ends_with eqb name (codes ".yaml") || ends_with eqb name (codes ".yml")
    then Transcript else Frames

-- A golden file of this normal text has these bytes: the text itself, or the transcript of its
-- messages.
abbrev pub IsWrittenAs : Limits → Mode → GoldenForm → List ℕ → List ℕ → Type 0
IsWrittenAs limits mode Frames normal bytes = bytes ≡ normal
IsWrittenAs limits mode Transcript normal bytes =
    (messages : List Sent) × IsAccepted limits mode normal messages × (bytes ≡ transcript messages)

-- ---- reading

-- The golden file is read as a transcript: it starts with the head of a record; or it does not
-- start like a recording either, and golden files of this form are transcripts.
abbrev pub IsReadAsTranscript : GoldenForm → List ℕ → Type 0
IsReadAsTranscript form golden =
    (starts_with_head golden ≡ true) ⊎ ((form ≡ Transcript) × ¬ IsRecordingHead golden)

-- The golden file represents this recording: that of its transcript if it is read as one, and
-- otherwise the file itself.
pub data IsRecordingOfFile (form : GoldenForm) (golden recording : List ℕ) : Type 0 where
  of_transcript : IsReadAsTranscript form golden → IsRecordingOfTranscript golden recording
      → IsRecordingOfFile form golden recording
  of_frames : ¬ IsReadAsTranscript form golden → recording ≡ golden
      → IsRecordingOfFile form golden recording

-- ---- comparing

module _ (form : GoldenForm) (golden written : List ℕ) where
  -- The golden file has other bytes than these, and represents a recording with this property.
  pub record IsOtherFile (Has : List ℕ → Type 0) : Type 0 where
    pub other : golden ≢ written
    pub recording : List ℕ
    pub of_file : IsRecordingOfFile form golden recording
    pub has : Has recording

  -- The golden file has other bytes than these. It is read as a transcript, but is not one for this
  -- reason.
  pub record IsOtherText (fault : TranscriptFault) : Type 0 where
    pub other : golden ≢ written
    pub read_as : IsReadAsTranscript form golden
    pub cause : fault.cause ≢ Memory

module _ (limits : Limits) (mode : Mode) (form : GoldenForm) (golden normal written : List ℕ) where
  -- The meaning of each verdict on a golden file and a session with this normal text, whose golden
  -- file would be written as these bytes.
  abbrev pub IsFileVerdict : GoldenVerdict → Type 0
  IsFileVerdict verdict.Same = golden ≡ written
  IsFileVerdict (verdict.Differs number lines) = IsOtherFile form golden written
      (λ recording. DiffersAt limits mode recording normal number lines.items)
  IsFileVerdict verdict.NotNormal = IsOtherFile form golden written
      (λ recording. Normalises limits mode recording normal)

  -- The recording of the golden file is rejected for this reason.
  abbrev pub IsFileRefused : Refused → Type 0
  IsFileRefused refused = IsOtherFile form golden written
      (λ recording. IsRefusedFile limits mode recording normal refused)

  -- The result of comparing the golden file.
  abbrev pub ComparesFile : Result GoldenVerdict GoldenStop → Type 0
  ComparesFile (Ok verdict) = IsFileVerdict verdict
  ComparesFile (Err (stop.Transcript fault)) = IsOtherText form golden written fault
  ComparesFile (Err (stop.Golden refused)) = IsFileRefused refused
  ComparesFile (Err stop.Memory) = Unit {0}
  ComparesFile (Err _) = ⊥

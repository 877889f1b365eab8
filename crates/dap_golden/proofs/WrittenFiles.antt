-- How a golden file is written in its form, and what its comparison states.
use Rattle.std.proofs.Common.{◌≡◌, ◌≢◌, ◌↔◌, ◌∙◌, ◌∷◌, ℕ, true, List, [], Result, Ok, Err, ap, refl}
use Rattle.std.proofs.Common.{sym, subst, inl, inr, arith, ◌++◌, ◌<◌, Bool, false, slice_index_or}
use Rattle.std.proofs.Common.{zero, suc, length}
use Rattle.std.specs.Prelude.{All, IfErr, IfOk, IfSome, IsTrue, Option, Some, Vec}
use Rattle.std.specs.declared.alloc.Global.{Global}
use Rattle.dap_frame.specs.Frame.{frame_text}
use Rattle.dap_tree.specs.Json.{text_of}
use Rattle.dap_message.specs.Message.{IsTypedContent, Sent}
use Rattle.dap_recording.specs.Marker.{marker}
use Rattle.dap_tree.specs.declared.side.Side.{Side}
use Rattle.dap_tree.specs.declared.side.Side.TheVariants.{Client, Adapter}
use Rattle.dap_rename.specs.declared.mode.Mode.{Mode}
use Rattle.dap_input.specs.declared.limits.Limits.{Limits}
use Rattle.dap_input.specs.Limits.{AreSound}
use Rattle.dap_normalise.specs.Accepting.{AreMessages, IsAccepted, Payload, text}
use Rattle.dap_normalise.specs.Normalising.{Normalises}
use Rattle.dap_normalise.proofs.NormalFormLaws.{normal_accepted}
use Rattle.dap_rules.proofs.OrderedTexts.{one_accepted}
use Rattle.dap_stored.specs.Contents.{IsOfContent}
use Rattle.dap_transcript.specs.{Laws.AreOfContents, Recordings.frames}
use Rattle.dap_transcript.specs.Transcript.{starts_with_head, transcript}
use Rattle.dap_golden.specs.GoldenFiles.{IsGoldenFault, IsGoldenVerdict, IsNormalText}
use Rattle.dap_golden.specs.GoldenForms.{ComparesFile, IsReadAsTranscript}
use Rattle.dap_golden.specs.GoldenForms.{IsRecordingOfFile, of_frames, of_transcript}
use Rattle.dap_golden.specs.GoldenSteps.{IsNotRead, IsNotWritten, IsTooLong, file_outcome}
use Rattle.dap_golden.specs.Laws.{GoldenFileIsRead, OneGoldenFile}
use Rattle.dap_golden.specs.TraceHead.{IsRecordingHead}
use Rattle.dap_golden.specs.declared.comparing.GoldenVerdict.{GoldenVerdict}
use Rattle.dap_golden.specs.declared.comparing.GoldenVerdict.TheVariants.{Same, Differs, NotNormal}
use Rattle.dap_golden.specs.declared.fault.GoldenFault.{GoldenFault}
use Rattle.dap_golden.specs.declared.fault.GoldenFault.TheVariants as file
use Rattle.dap_golden.specs.declared.forms.GoldenForm.{GoldenForm}
use Rattle.dap_golden.specs.declared.forms.GoldenForm.TheVariants.{Frames, Transcript}
use Rattle.dap_golden.specs.declared.updates.GoldenStop.{GoldenStop}
use Rattle.dap_golden.specs.declared.updates.GoldenStop.TheVariants as stop

-- ---- writing

-- If the transcript of the messages is too long, so is the golden file of their normal text.
pub not_written : (limits : Limits) (mode : Mode) (normal : List ℕ) (messages : List Sent)
    → IsAccepted limits mode normal messages → (why : GoldenStop)
    → IsTooLong limits.input (transcript messages) why
    → IsNotWritten limits mode Transcript normal why
not_written limits mode normal messages accepted stop.TranscriptTooLong long =
    (transcript messages, (messages, accepted, refl), long)
not_written limits mode normal messages accepted stop.Memory long = tt
not_written limits mode normal messages accepted why long = absurd long

pub one_golden_file : OneGoldenFile
one_golden_file limits mode Frames normal a b one two = one ∙ sym two
one_golden_file limits mode Transcript normal a b one two =
    one.2 ∙ ap transcript (one_accepted limits mode normal one.0 two.0 one.1 two.1) ∙ sym two.2

-- ---- reading what is written

no_head : (side : Side) (rest : List ℕ) → starts_with_head (marker side ∷ rest) ≡ true → ⊥
no_head Client rest is = absurd cc
no_head Adapter rest is = absurd cc

-- A recording does not start like a transcript.
text_has_no_head : (messages : List Sent) → starts_with_head (text messages) ≡ true → ⊥
text_has_no_head [] is = absurd cc
text_has_no_head (m ∷ ms) is =
    no_head m.side ((frame_text (text_of m.doc) ++ 10 ∷ []) ++ text ms) is

no_marker : (side : Side) → 45 ≡ marker side → ⊥
no_marker Client is = let same : 45 ≡ 62 = is in absurd (omega (arith, same))
no_marker Adapter is = let same : 45 ≡ 60 = is in absurd (omega (arith, same))

-- A transcript does not start like a recording.
transcript_has_no_marker : (messages : List Sent) → IsRecordingHead (transcript messages) → ⊥
transcript_has_no_marker [] is = absurd (let split = is.split in cc)
transcript_has_no_marker (m ∷ ms) is =
    no_marker is.is_marker.0
    ((let first : 45 ≡ is.byte = ap (λ (bytes : List ℕ). slice_index_or bytes 0 0) is.split in
    first) ∙ is.is_marker.1)

-- Each message of records is that of a content.
of_contents : (records : List Payload) (messages : List Sent) → AreMessages records messages
    → AreOfContents messages
of_contents [] [] are k d low = absurd (omega (arith, low))
of_contents [] (m ∷ ms) are k d low = absurd are
of_contents (held ∷ more) [] are k d low = absurd are
of_contents (held ∷ more) (m ∷ ms) are zero d low =
    (held.1, subst (λ (side : Side). IsTypedContent side held.1 m.doc) (sym are.0.0) are.0.1)
of_contents (held ∷ more) (m ∷ ms) are (suc k) d low =
    of_contents more ms are.1 k d (omega (arith, low))

pub accepted_contents : (limits : Limits) (mode : Mode) (bytes : List ℕ) (messages : List Sent)
    → IsAccepted limits mode bytes messages → AreOfContents messages
accepted_contents limits mode bytes messages accepted =
    of_contents accepted.records messages accepted.typed

-- The text is the transcript of all messages whose frames the recording consists of.
abbrev pub IsTranscriptOf : List ℕ → Vec ℕ Global → Type 0
IsTranscriptOf recording made = (messages : List Sent) → recording ≡ frames messages
    → All IsOfContent messages → made.items ≡ transcript messages

module _ (limits : Limits) (mode : Mode) (sound : AreSound limits) (normal : List ℕ)
    (is : IsNormalText limits mode normal) where
  -- A normal text is accepted, and is the text of its messages.
  pub own_accepted : IsAccepted limits mode normal is.normal
  own_accepted =
      subst (λ (bytes : List ℕ). IsAccepted limits mode bytes is.normal) (sym is.text_is)
      (normal_accepted limits mode sound normal is.messages is.normal is.accepts is.is_normal).0

  -- What was written of its frames is the transcript of its messages.
  pub own_transcript : (found : Option (Vec ℕ Global)) (written : Vec ℕ Global)
      → found ≡ Some written → IfSome found (IsTranscriptOf normal)
      → written.items ≡ transcript is.normal
  own_transcript found written same is_written =
      subst (λ (o : Option (Vec ℕ Global)). IfSome o (IsTranscriptOf normal)) same is_written
      is.normal is.text_is (accepted_contents limits mode normal is.normal own_accepted)

  -- The messages of a normal text are those whose text it is.
  pub text_of_messages : (messages : List Sent) → IsAccepted limits mode normal messages
      → normal ≡ text messages
  text_of_messages messages accepted =
      is.text_is
      ∙ ap text (one_accepted limits mode normal is.normal messages own_accepted accepted)

pub golden_file_is_read : GoldenFileIsRead
golden_file_is_read limits mode Frames normal bytes sound is written =
    of_frames not_transcript (sym written)
  where
    not_transcript : IsReadAsTranscript Frames bytes → ⊥
    not_transcript (inl head) =
        text_has_no_head is.normal
        (subst (λ (b : List ℕ). starts_with_head b ≡ true) (written ∙ is.text_is) head)
    not_transcript (inr other) = absurd (let form = other.0 in cc)
golden_file_is_read limits mode Transcript normal bytes sound is written = of_transcript
    (inr (refl, λ head. transcript_has_no_marker written.0 (subst IsRecordingHead written.2 head)))
    record {
      messages = written.0;
      written = sym written.2;
      recording_is = text_of_messages limits mode sound normal is written.0 written.1;
    }

-- ---- comparing

-- A golden file that is not read as a transcript is its own recording.
pub read_as_frames : (form : GoldenForm) (golden bytes : List ℕ) (is : Bool)
    → IsTrue is ↔ IsReadAsTranscript form bytes → bytes ≡ golden → is ≡ false
    → IsRecordingOfFile form golden golden
read_as_frames form golden bytes true reads same isnt = absurd cc
read_as_frames form golden bytes false reads same isnt = of_frames none refl
  where
    none : IsReadAsTranscript form golden → ⊥
    none read =
        let is : IsTrue false = reads.1
        (subst (λ (b : List ℕ). IsReadAsTranscript form b) (sym same) read) in
        absurd cc

module _ (limits : Limits) (mode : Mode) (form : GoldenForm) (golden normal written : List ℕ)
    (other : golden ≢ written) where
  -- An error of reading the golden file is one of the comparison.
  pub not_read : (why : GoldenStop) → IsNotRead form golden why
      → ComparesFile limits mode form golden normal written (Err why)
  not_read (stop.Transcript fault) is = record { other = other; read_as = is.0; cause = is.1 }
  not_read stop.Memory is = tt
  not_read why is = absurd is

  -- The result of comparing the recording is that of comparing the golden file.
  pub compared : (recording : List ℕ) → IsRecordingOfFile form golden recording
      → IsNormalText limits mode normal → (outcome : Result GoldenVerdict GoldenFault)
      → (outcome ≡ Ok Same) ↔ (recording ≡ normal)
      → IfOk outcome (IsGoldenVerdict limits mode recording normal)
      → IfErr outcome (IsGoldenFault limits mode recording normal)
      → ComparesFile limits mode form golden normal written (file_outcome outcome)
  compared recording of_file is (Ok Same) same verdict fault = record {
    other = other;
    recording = recording;
    of_file = of_file;
    has = subst (λ (bytes : List ℕ). Normalises limits mode bytes normal) (sym (same.0 refl)) is;
  }
  compared recording of_file is (Ok (Differs number lines)) same verdict fault =
      record { other = other; recording = recording; of_file = of_file; has = verdict }
  compared recording of_file is (Ok NotNormal) same verdict fault =
      record { other = other; recording = recording; of_file = of_file; has = verdict.normalises }
  compared recording of_file is (Err (file.Golden refused)) same verdict fault =
      record { other = other; recording = recording; of_file = of_file; has = fault }
  compared recording of_file is (Err file.Memory) same verdict fault = tt

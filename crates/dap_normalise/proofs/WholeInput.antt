-- The results of `normalise_session` and `read_session` for bytes in memory.
use Rattle.std.proofs.Common.{◌≡◌, ℕ, ℤ, false, List, [], ◌∷◌, ◌++◌, Err, sym}
use Rattle.std.proofs.Common.{◌∙◌, ap, refl, subst}
use Rattle.std.proofs.lemmas.Bool.{true≢false}
use Rattle.dap_device.specs.Memory.{GivenBytes}
use Rattle.dap_message.specs.Message.{Sent, IsTypedContent}
use Rattle.dap_rename.specs.declared.mode.Mode.{Mode}
use Rattle.dap_input.specs.declared.limits.Limits.{Limits}
use Rattle.dap_normalise.specs.declared.normal_records.NormalRecords.{NormalRecords}
use Rattle.dap_input.specs.declared.refused.Refused.{Refused}
use Rattle.dap_input.specs.declared.refused.Refused.TheVariants.{Incomplete, Memory, WriteFault}
use Rattle.dap_input.specs.{Engine.Accepts, Refusals.IsRefused}
use Rattle.dap_normalise.specs.Accepting.{Payload, IsAccepted, AreMessages, accepting, text}
use Rattle.dap_input.specs.Limits.{AreSound}
use Rattle.dap_normalise.specs.{Checking.{AreCounted, Checks}, NormalSession.IsNormalSession}
use Rattle.dap_normalise.specs.Normalised.{AreTyped, HoldsSome}
use Rattle.dap_normalise.specs.declared.normal_session.NormalSession.{NormalSession}
use Rattle.dap_normalise.specs.Normalising.{Normalises, RefusesBytes}
use Rattle.dap_normalise.specs.JudgingSteps.{record_of}
use Rattle.dap_normalise.specs.NormalSteps.{HasAdvanced, HasEnded, HasStoppedAt, RepresentsBefore}
use Rattle.dap_normalise.proofs.AcceptingFacts.{accepted_facts, value_laws}
use Rattle.dap_input.proofs.MemoryInputs.{memory, start}
use Rattle.dap_input.proofs.MemoryInputs as memory_inputs
use Rattle.dap_recording.proofs.Records.{readable}
use Rattle.dap_normalise.proofs.NormalFormLaws.{normal_session}
use Rattle.dap_normalise.proofs.JudgedRecords.{text_push}
use Rattle.dap_normalise.proofs.StreamAnswers.{accepts, check_refuses}
use Rattle.dap_normalise.proofs.StreamLoop.{Going, at_start, normal_before, on}

are_typed : (records : List Payload) (messages : List Sent) → AreMessages records messages
    → AreTyped messages
are_typed [] [] typed = tt
are_typed [] (m ∷ messages) typed = absurd typed
are_typed (held ∷ records) [] typed = absurd typed
are_typed (held ∷ records) (m ∷ messages) (is, typed) = (
  (held.1, subst (λ side. IsTypedContent side held.1 m.doc) (sym is.0) is.1),
  are_typed records messages typed,
)

-- An output represents the messages of its recording.
pub holds_of : (limits : Limits) (mode : Mode) (bytes written : List ℕ)
    → Normalises limits mode bytes written → HoldsSome record { mode = mode; bytes = written }
holds_of limits mode bytes written is = (
  is.messages,
  record {
    typed = are_typed is.accepts.records is.messages is.accepts.typed;
    normal = is.normal;
    is_normal = is.is_normal;
    text_is = is.text_is;
  },
)

-- The outcome for a reader of bytes in memory is that of the bytes.
module _ (limits : Limits) (mode : Mode) {bytes : List ℕ} {reader : GivenBytes}
    (first : reader ≡ start bytes) (after : GivenBytes) where
  pub whole_accepted : (messages : List Sent)
      → Accepts memory limits.input (IsAccepted limits mode) reader after messages
      → IsAccepted limits mode bytes messages
  whole_accepted messages is =
      subst (λ t. IsAccepted limits mode t messages)
      (memory_inputs.all_came reader after limits.input is.whole is.came
      ∙ ap (λ (source : GivenBytes). source.left) first) is.gives

  pub whole_refused : (because : Refused)
      → Checks memory limits mode false reader after (Err because)
      → RefusesBytes limits mode bytes because
  whole_refused Memory is = tt
  whole_refused (Incomplete client adapter) is = absurd (true≢false (sym is.asked))
  whole_refused WriteFault is = absurd is
  whole_refused because is =
      subst (λ t. IsRefused (accepting limits mode) t because)
      (ap (λ (source : GivenBytes). source.left) first)
      (memory_inputs.refused_whole reader after (accepting limits mode) (readable limits.frame)
      (value_laws limits mode) (accepted_facts limits mode) (Normalises limits mode) because is.0
      is.1)

module _ {T : Type 0} {numbers : T → List ℤ} {table_limit : T → ℕ} {limits : Limits} {mode : Mode}
    {bytes : List ℕ} {reader : GivenBytes} {records : NormalRecords T}
    (was : Going numbers table_limit memory limits mode (start bytes) reader records)
    {new : NormalRecords T} {after : GivenBytes} where
  accepted_whole : {before longer : List ℕ}
      → HasEnded numbers table_limit memory limits mode was.bytes was.messages was.normal
      records new reader after before longer
      → IsAccepted limits mode bytes was.messages
  accepted_whole end = whole_accepted limits mode refl after was.messages (accepts was end)

  pub refuses_bytes : (because : Refused)
      → HasStoppedAt numbers table_limit memory limits mode was.bytes was.messages was.normal
      records new reader after because
      → RefusesBytes limits mode bytes because
  refuses_bytes because stopped =
      whole_refused limits mode {bytes = bytes} refl after because
      (check_refuses was false because stopped)

-- The records before the next one are accepted, and this is the text of their normal form.
pub record HasText {T : Type 0} (numbers : T → List ℤ) (table_limit : T → ℕ) (limits : Limits)
    (mode : Mode) (bytes : List ℕ) (reader : GivenBytes) (records : NormalRecords T)
    (written : List ℕ) : Type 0 where
  pub going : Going numbers table_limit memory limits mode (start bytes) reader records
  pub text_is : written ≡ text going.normal

module _ {T : Type 0} {numbers : T → List ℤ} {table_limit : T → ℕ} {limits : Limits} {mode : Mode}
    {bytes : List ℕ} {reader : GivenBytes} {records : NormalRecords T} {written : List ℕ} where
  -- Nothing has been read.
  pub no_text : reader ≡ start bytes
      → RepresentsBefore numbers table_limit limits mode [] records [] [] → written ≡ []
      → HasText numbers table_limit limits mode bytes reader records written
  no_text first represents none =
      subst (λ r. HasText numbers table_limit limits mode bytes r records written) (sym first)
      (record { going = at_start memory (start bytes) represents; text_is = none })

  module _ (has : HasText numbers table_limit limits mode bytes reader records written)
      {new : NormalRecords T} {after : GivenBytes} where
    pub more_text : {longer : List ℕ}
        → HasAdvanced numbers table_limit memory limits mode has.going.bytes
        has.going.messages has.going.normal
        records new reader after written longer
        → HasText numbers table_limit limits mode bytes after new longer
    more_text gone = record {
      going = on has.going gone;
      text_is = gone.appended ∙ ap (λ t. t ++ record_of gone.named) has.text_is
          ∙ sym (text_push has.going.normal gone.named);
    }

    module _ {longer : List ℕ}
        (end : HasEnded numbers table_limit memory limits mode has.going.bytes
        has.going.messages has.going.normal
        records new reader after written longer) where
      -- The normal text, with the counts of the messages.
      pub session_whole : AreSound limits → (session : NormalSession)
          → session.bytes.items ≡ longer → AreCounted session.counts has.going.messages
          → IsNormalSession limits mode bytes session
      session_whole sound session same counted =
          normal_session limits mode sound bytes session (record {
            messages = has.going.messages;
            accepts = accepted_whole has.going end;
            normal = has.going.normal;
            is_normal = normal_before has.going.represents;
            text_is = same ∙ end.kept ∙ has.text_is;
          }) counted

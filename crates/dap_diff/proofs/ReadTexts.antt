-- Reading a text that is the record of a message.
use Rattle.std.proofs.Common.{◌≡◌, ℕ, List, [], ◌++◌, length, take, drop, Option, Some, None}
use Rattle.std.proofs.Common.{MatchOption, refl, sym, ◌∙◌, subst, append-nil, take-append-drop}
use Rattle.dap_frame.specs.declared.limits.FrameLimits.{FrameLimits}
use Rattle.dap_tree.specs.Json.{text_of}
use Rattle.dap_frame.proofs.Ends.{item_not_faulty, item_not_open, one_item}
use Rattle.dap_message.specs.Message.{Sent}
use Rattle.dap_message.proofs.Contents.{typed_not_refused}
use Rattle.dap_recording.specs.Recording.{IsOpenRecord, IsRecord, ShowsFault}
use Rattle.dap_recording.specs.RecordReading.{RecordReading, RepresentsRecords, GivesRecordFault}
use Rattle.dap_recording.specs.RecordReading.{GivesFedRecord, next_number, record_limits}
use Rattle.dap_recording.specs.declared.fed_record.FedRecord.{FedRecord}
use Rattle.dap_recording.specs.declared.record.Record.{Record}
use Rattle.dap_recording.specs.declared.record_fault.RecordCause.TheVariants as cause
use Rattle.dap_recording.specs.declared.record_fault.RecordFault.{RecordFault}
use Rattle.dap_recording.proofs.Records.{record_grammar}
use Rattle.dap_recording.proofs.RecordSteps.{represented_is_incomplete}
use Rattle.dap_input.specs.declared.limits.Limits.{Limits}
use Rattle.dap_input.specs.Limits.{AreSound}
use Rattle.dap_input.specs.Validation.{Reason, objected, no_message}
use Rattle.dap_input.specs.Refusals.{IsObjected, RejectsPayload, reason_of}
use Rattle.dap_input.specs.declared.refused.Refused.{Refused}
use Rattle.dap_input.specs.declared.refused.Refused.TheVariants as why
use Rattle.dap_normalise.specs.Accepting.{Payload, HoldsNoMessage, IsMessage}
use Rattle.dap_normalise.specs.JudgingSteps.{payload_of}
use Rattle.dap_normalise.proofs.AcceptingFacts.{message_once}
use Rattle.dap_diff.specs.Texts.{IsRecordOf, IsRecordText}
use Rattle.dap_diff.proofs.Texts.{record_here}

module _ (limits : Limits) (sound : AreSound limits) (text : List ℕ) (m : Sent)
    (is : IsRecordOf limits text m) (l : FrameLimits) (same : l ≡ limits.frame) where
  here : IsRecord l text m.side (text_of m.doc)
  here = subst (λ k. IsRecord k text m.side (text_of m.doc)) (sym same)
      (record_here limits sound text m is)

  -- A record that is a prefix of the text is the complete text.
  is_held : (used : ℕ) (whole : Record)
      → IsRecord l (take used text) whole.side whole.content → IsMessage (payload_of whole) m
  is_held used whole front =
      let one = one_item (record_grammar l) (take used text) text (drop used text) []
      (whole.side, whole.content) (m.side, text_of m.doc)
      (take-append-drop used text ∙ sym (append-nil text)) front here in
      subst (λ h. IsMessage h m) (sym one.1) (refl, is.typed)

  not_open : (reader : RecordReading) → record_limits reader ≡ l → RepresentsRecords reader 1 text
      → ⊥
  not_open reader of represents =
      item_not_open (record_grammar l) text [] (m.side, text_of m.doc) here
      (subst (λ k. IsOpenRecord k (text ++ [])) of
      (subst (IsOpenRecord (record_limits reader)) (sym (append-nil text))
      (represented_is_incomplete reader 1 text represents)))

  -- A successful call returned the record; it could not return nothing.
  module _ (fed : FedRecord) (new : RecordReading) (gives : GivesFedRecord l 1 [] text fed new)
    where
      pub given_is_held : (whole : Record) → Some whole ≡ fed.whole → IsMessage (payload_of whole) m
      given_is_held whole some =
          is_held fed.used whole
          (subst (λ o. MatchOption o
          ((fed.used ≡ length text) × RepresentsRecords new 1 ([] ++ text))
          (λ w. IsRecord l ([] ++ take fed.used text) w.side w.content
          × RepresentsRecords new (next_number 1) [])) (sym some) gives.1).0

      pub not_given : None ≡ fed.whole → record_limits new ≡ l → ⊥
      not_given none of =
          not_open new of
          (subst (λ o. MatchOption o
          ((fed.used ≡ length text) × RepresentsRecords new 1 ([] ++ text))
          (λ w. IsRecord l ([] ++ take fed.used text) w.side w.content
          × RepresentsRecords new (next_number 1) [])) (sym none) gives.1).1

  pub no_fault : (fault : RecordFault) (new : RecordReading)
      → GivesRecordFault l 1 [] text fault new → (fault.cause ≡ cause.Memory → ⊥) → ⊥
  no_fault fault new gives other =
      let shown = gives.shown other in
      item_not_faulty (record_grammar l) text [] (m.side, text_of m.doc) fault.cause shown.0 here
      (subst (λ t. ShowsFault l t fault.cause shown.0) (sym (append-nil text)) shown.1)

-- The message that is read is that of the text.
pub is_told : (limits : Limits) (text : List ℕ) (held : Payload) (n : Sent)
    → IsRecordText limits text → ((m : Sent) → IsRecordOf limits text m → IsMessage held m)
    → IsMessage held n → IsRecordOf limits text n
is_told limits text held n (m, holds) each is =
    subst (IsRecordOf limits text) (message_once held m n (each m holds) is) holds

-- A payload with a message is not rejected as having no message.
module _ (held : Payload) (m : Sent) (is : IsMessage held m) where
  no_reason : (o : Option (ℕ × Reason))
      → MatchOption o ⊥
      (λ reported. (reported.0 ≡ 1) × IsObjected (HoldsNoMessage held) reported.1) → ⊥
  no_reason None reported = reported
  no_reason (Some (n, objected (no_message e))) reported =
      typed_not_refused held.0 held.1 m.doc e is.1 reported.1
  no_reason (Some (n, reason)) reported = reported.1

  not_refused : (because : Refused) → (because ≡ why.Memory → ⊥)
      → RejectsPayload (HoldsNoMessage held) 1 because → ⊥
  not_refused why.Memory other reported = other refl
  not_refused because other reported = no_reason (reason_of because) reported

-- The text of a record is not rejected as having no message.
pub refused_none : (limits : Limits) (text : List ℕ) (held : Payload) (because : Refused)
    → IsRecordText limits text → ((m : Sent) → IsRecordOf limits text m → IsMessage held m)
    → (because ≡ why.Memory → ⊥) → RejectsPayload (HoldsNoMessage held) 1 because → ⊥
refused_none limits text held because (m, holds) each other reported =
    not_refused held m (each m holds) because other reported

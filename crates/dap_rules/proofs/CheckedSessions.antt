-- Checking the records that a masked session contains.
use Rattle.std.proofs.Common.{◌≡◌, ℕ, ◌+◌, List, [], ◌∷◌, ◌++◌, length, Option, Some, None}
use Rattle.std.proofs.Common.{Ok, refl, sym, ◌∙◌, ap, subst, append-nil}
use Rattle.std.specs.Prelude.{IfErr, IfOk}
use Rattle.std.specs.List.{AllByRecursion}
use Rattle.dap_frame.specs.Grammar.{IsItem}
use Rattle.dap_message.specs.Message.{Sent, faulty as profile_fault}
use Rattle.dap_message.specs.declared.fault.MessageFault.{MessageFault}
use Rattle.dap_recording.specs.Recording.{record_text, recording_text, records}
use Rattle.dap_recording.proofs.RecordsWritten.{written_is_record}
use Rattle.dap_rename.proofs.Lists.{each_right}
use Rattle.dap_rename.specs.declared.mode.Mode.{Mode}
use Rattle.dap_input.specs.Limits.{AreSound}
use Rattle.dap_input.specs.Validation.{no_message, objected}
use Rattle.dap_input.specs.Refusals.{IsRefused}
use Rattle.dap_input.specs.declared.limits.Limits.{Limits}
use Rattle.dap_input.specs.declared.refused.Refused.TheVariants.{Message}
use Rattle.dap_input.proofs.InputLoop.{first_objected}
use Rattle.dap_input.proofs.Refusals.{refused_as}
use Rattle.dap_normalise.specs.Accepting.{Payload, AreMessages, IsAccepted, accepting}
use Rattle.dap_normalise.specs.Normalising.{RefusesBytes}
use Rattle.dap_normalise.specs.RecordTexts.{BeginWith, Contain, FitRecords}
use Rattle.dap_normalise.proofs.RecordTexts.{IsShort, fit_front, payloads, recorded-append}
use Rattle.dap_rules.specs.MaskedSessions.{HoldUpTo, StopAt, end_of}

-- Without an error at the end, all records contain the messages.
pub all_read : (all : List Payload) (messages : List Sent) (number : ℕ)
    (fault : Option MessageFault) (done : Unit {0}) → end_of number fault ≡ Ok done
    → HoldUpTo all messages fault → AreMessages all messages
all_read all messages number None done ended is = is
all_read all messages number (Some fault) done ended is = absurd (let e = ended in cc)

module _ (limits : Limits) (all : List Payload) (messages : List Sent)
    (fit : FitRecords limits all) where
  -- The first records contain the messages.
  pub begin : (fault : Option MessageFault) → HoldUpTo all messages fault
      → BeginWith limits messages all
  begin None is =
      record { front = all; rest = []; split = sym (append-nil all); read = is; fits = fit }
  begin (Some fault) is = record {
    front = is.before;
    rest = is.held ∷ is.after;
    split = is.split;
    read = is.read;
    fits = fit;
  }

  front_contains : (fault : MessageFault) (is : StopAt all messages fault)
      → Contain limits messages is.before
  front_contains fault is = record {
    read = is.read;
    fits = fit_front limits is.before (is.held ∷ is.after)
        (subst (FitRecords limits) is.split fit);
  }

  module _ (mode : Mode) (sound : AreSound limits) (number : ℕ)
      (is_number : number ≡ length messages + 1) where
    module _ (fault : MessageFault) (is : StopAt all messages fault)
        (accepted : IsAccepted limits mode (recording_text is.before) messages) where
      abbrev own_record : List ℕ
      own_record = record_text is.held.0 is.held.1

      is_record : IsItem (records limits.frame) own_record is.held
      is_record =
          written_is_record limits.frame is.held.0 is.held.1 sound.frame
          (each_right (IsShort limits) is.before (is.held ∷ is.after)
          (subst (AllByRecursion (IsShort limits)) is.split fit.each)).0

      text_split : recording_text all
          ≡ recording_text is.before ++ (own_record ++ recording_text is.after)
      text_split = ap recording_text is.split ∙ recorded-append is.before (is.held ∷ is.after)

      stops : IsRefused (accepting limits mode) (recording_text all) (Message number fault)
      stops =
          refused_as (accepting limits mode) (recording_text all) (Message number fault) number
          (objected (no_message (profile_fault fault))) refl
          (first_objected (accepting limits mode) (records limits.frame) (λ (h : Payload). h)
          (payloads limits mode) (recording_text all) (recording_text is.before)
          (own_record ++ recording_text is.after) messages number text_split accepted is_number
          is.held own_record (recording_text is.after) refl is_record fit.whole
          (no_message (profile_fault fault)) is.refused)

    -- The messages that the records contain are accepted.
    module _ (accepted : (front : List Payload) → Contain limits messages front
        → IsAccepted limits mode (recording_text front) messages) where
      pub ends_accepted : (fault : Option MessageFault) → HoldUpTo all messages fault
          → IfOk (end_of number fault)
          (λ done. IsAccepted limits mode (recording_text all) messages)
      ends_accepted None is = accepted all (record { read = is; fits = fit })
      ends_accepted (Some fault) is = tt

      pub ends_refused : (fault : Option MessageFault) → HoldUpTo all messages fault
          → IfErr (end_of number fault) (RefusesBytes limits mode (recording_text all))
      ends_refused None is = tt
      ends_refused (Some fault) is =
          stops fault is (accepted is.before (front_contains fault is))

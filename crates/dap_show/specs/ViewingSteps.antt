-- What the steps of `show`, `show_with` and `show_faulty` do.
use Rattle.std.specs.Prelude.{◌≡◌, ℕ, ◌+◌, ◌++◌, Bool, true, List, [], ◌∷◌, length, Option, Some}
use Rattle.std.specs.{Prelude.{Result, Ok, Err}, Option.option_or}
use Rattle.dap_device.specs.declared.device.Source.{Ghosts as Source}
use Rattle.dap_input.specs.{InputSteps.{AcceptsAll, RefusesOne}, Refusals.RejectsPayload}
use Rattle.dap_input.specs.{declared.records.Records.Records, declared.refused.Refused.Refused}
use Rattle.dap_input.specs.declared.refused.Refused.TheVariants as because
use Rattle.dap_message.specs.Message.{Sent}
use Rattle.dap_normalise.specs.Accepting.{Payload}
use Rattle.dap_recording.specs.RecordReading.{RecordReading}
use Rattle.dap_session.specs.{SessionState.SessionState, Representation.Represents}
use Rattle.dap_session.specs.declared.rule.Rule.{Rule}
use Rattle.dap_show.specs.{Leaves.AreLeaves, Showing.listed_lines, Stopping.StopsAt}
use Rattle.dap_show.specs.Viewing.{Entry, IsFraming, IsNext, Rejects, first_refusal, kept, kept_if}
use Rattle.dap_show.specs.Viewing.{lines_of, refusal_at, broken_rule, stop_line, viewing}
use Rattle.dap_show.specs.declared.detail.Detail.{Detail}
use Rattle.dap_show.specs.declared.detail.Detail.TheVariants.{Lists, Leaves}
use Rattle.dap_show.specs.declared.detail.View.{View}

-- If rules are checked, the session represents these messages.
abbrev pub StandsIf : Bool → SessionState → List Sent → Type 0
StandsIf marks_faults session messages = marks_faults ≡ true → Represents session messages

-- The rule that a message violates, if rules are checked. The session then contains the message if
-- it violates no rule.
abbrev pub IsJudged : Bool → List Sent → Sent → Option Rule → SessionState → Type 0
IsJudged marks_faults before message rule session = (rule ≡ broken_rule marks_faults before message)
    × StandsIf marks_faults session (before ++ kept_if rule message)

-- These are the detail lines of a message with this content. With `Leaves`, they may also be longer
-- than the limit if the detail lines are.
abbrev pub AreDetail : Detail → ℕ → Sent → List ℕ → List ℕ → Type 0
AreDetail Lists limit message bytes lines = lines ≡ listed_lines message.doc
AreDetail Leaves limit message bytes lines = AreLeaves limit bytes lines

module _ (view : View) where
  -- Record n has this entry, whose lines were appended.
  pub record IsEntered (before : List Entry) (n : ℕ) (held : Payload) (session : SessionState)
      (lines : List ℕ) (refusal : Option Refused) : Type 0 where
    pub entry : Entry
    pub is_next : IsNext view before held entry
    pub session_is : StandsIf view.marks_faults session (kept (before ++ entry ∷ []))
    pub lines_are : lines ≡ lines_of view.detail 1 (before ++ entry ∷ [])
    pub refusal_is : refusal ≡ refusal_at n entry

  -- The lines of record n are appended, or the record is rejected.
  abbrev pub Enters : List Entry → ℕ → Payload → SessionState → List ℕ
      → Result (Option Refused) Refused
      → Type 0
  Enters before n held session lines (Ok refusal) =
      IsEntered before n held session lines refusal
  Enters before n held session lines (Err refused) =
      RejectsPayload (Rejects view before held) n refused

  -- These are the lines of the entries, and this is the first rejection among them.
  pub record AreShown (entries : List Entry) (lines : List ℕ) (first : Option Refused) : Type 0
    where
      pub lines_are : lines ≡ lines_of view.detail 1 entries
      pub first_is : first ≡ first_refusal 1 entries

  module _ {R : Type 0} (source : Source R) where
    -- All records have lines; or reading stops at a record, and if the framing of that record is
    -- invalid, the records before it have lines. The rest of the input can then be read.
    abbrev pub ShowsRecords : {U : Type 0} → R → R → Records RecordReading → List ℕ
        → Option Refused → Result U Refused → Type 0
    ShowsRecords old new records lines first (Ok done) =
        (entries : List Entry)
        × AcceptsAll (viewing view) source old new entries
        × AreShown entries lines first
    ShowsRecords old new records lines first (Err refused) =
        (stops : StopsAt (viewing view) source old new refused)
        × RefusesOne (viewing view) source old new records refused
        × (IsFraming refused → AreShown stops.before.values lines first)

-- After entries with these lines, the lines of the next record, which has number n, are appended, or
-- the record is rejected.
abbrev pub AppendsEntry : View → ℕ → Payload → SessionState → SessionState → List ℕ → List ℕ
    → Result (Option Refused) Refused → Type 0
AppendsEntry view n held old new lines longer result = (before : List Entry)
    → StandsIf view.marks_faults old (kept before) → lines ≡ lines_of view.detail 1 before
    → n ≡ length before + 1
    → Enters view before n held new longer result

-- The line of an error of the framing is appended, if errors are marked; any other rejection is
-- returned.
abbrev pub Finishes : {U V : Type 0} → Bool → Result U Refused → List ℕ → List ℕ → Option Refused
    → Option Refused → Result V Refused → Type 0
Finishes marks_faults (Ok done) old new first last (Ok over) = (new ≡ old) × (last ≡ first)
Finishes marks_faults (Ok done) old new first last (Err refused) = ⊥
Finishes marks_faults (Err refused) old new first last (Ok over) = (marks_faults ≡ true)
    × IsFraming refused × (new ≡ old ++ stop_line refused)
    × (last ≡ option_or first (Some refused))
Finishes marks_faults (Err refused) old new first last (Err because.Memory) = Unit {0}
Finishes marks_faults (Err refused) old new first last (Err other) = (other ≡ refused)
    × (marks_faults ≡ true → IsFraming refused → ⊥)

-- Framers and readers of records as readers of items.
use Rattle.std.proofs.Common.{◌≡◌, ◌≢◌, inl, inr, ℕ, ◌≤◌, List, [], ◌++◌, length, take, Option}
use Rattle.std.proofs.Common.{Some, None, Err, sym, ◌∙◌, subst}
use Rattle.std.specs.Prelude.{MatchOption}
use Rattle.dap_frame.specs.Grammar.{IsItem}
use Rattle.dap_frame.specs.Grammar as items
use Rattle.dap_frame.proofs.Then.{shows_as}
use Rattle.dap_frame.specs.Frame.{IsFrame, frames}
use Rattle.dap_frame.specs.Reading.{GivesFault, Reading, Represents, limits_of}
use Rattle.dap_frame.specs.declared.fault.FrameFault.{FrameFault}
use Rattle.dap_frame.specs.declared.fault.FrameFault.TheVariants.{Memory as NoRoom}
use Rattle.dap_frame.specs.declared.limits.FrameLimits.{FrameLimits}
use Rattle.dap_recording.proofs.Records.{fault_of}
use Rattle.dap_recording.specs.RecordReading.{GivesRecordFault, RecordReading, RepresentsRecords}
use Rattle.dap_recording.specs.RecordReading.{next_number, record_limits}
use Rattle.dap_recording.specs.Recording.{IsRecord, ShowsFault}
use Rattle.dap_recording.specs.declared.record.Record.{Record as WholeRecord}
use Rattle.dap_recording.specs.declared.record_fault.RecordCause.{RecordCause}
use Rattle.dap_recording.specs.declared.record_fault.RecordCause.TheVariants.{Cut, Frame, Memory}
use Rattle.dap_recording.specs.declared.record_fault.RecordFault.{RecordFault}
use Rattle.dap_input.proofs.Refusals.{IsShownCause}
use Rattle.dap_input.specs.ItemReading.{GivesItem, RepresentsFrame, RepresentsRecord, frame_items}
use Rattle.dap_input.specs.ItemReading.{record_items}

-- Bytes prove neither that a recording ends too early nor an allocation failure.
pub shown_cause : (limits : FrameLimits) (bytes : List ℕ) (why : RecordCause) (place : ℕ)
    → ShowsFault limits bytes why place → IsShownCause why
shown_cause limits bytes why place shows =
    elim (fault_of limits shows.front why shows.ends) [
      | inl is ↦ subst IsShownCause (sym is) tt
      | inr other ↦ elim other [
        | inl is ↦ subst IsShownCause (sym is) tt
        | inr is ↦ subst IsShownCause (sym is.2) tt
      ]
    ]

pub shown_frame_cause : (limits : FrameLimits) (bytes : List ℕ) (why : RecordCause) (place : ℕ)
    → items.FailsAt (frame_items limits) bytes why place → IsShownCause why
shown_frame_cause limits bytes why place shows = subst IsShownCause (sym shows.ends.1) tt

-- ---- framers

module _ (limits : FrameLimits) (bytes piece : List ℕ) (old new : Reading)
    (was : RepresentsFrame limits old bytes) where
  -- The bytes that a framer consumed are an item, or a prefix of one.
  pub frame_fed : (used : ℕ) (ended : Option (List ℕ))
      → ((rest : List ℕ) → Represents old rest → (used ≤ length piece) × MatchOption ended
      ((used ≡ length piece) × Represents new (rest ++ piece))
      (λ content. IsFrame (limits_of old) (rest ++ take used piece) content × Represents new []))
      → limits_of new ≡ limits_of old
      → MatchOption ended
      ((used ≡ length piece) × RepresentsFrame limits new (bytes ++ piece))
      (λ content. IsItem (frame_items limits) (bytes ++ take used piece) content
      × RepresentsFrame limits new [])
  frame_fed used None gives same =
      let fed = (gives bytes was.1).1 in (fed.0, (same ∙ was.0, fed.1))
  frame_fed used (Some content) gives same =
      let fed = (gives bytes was.1).1 in (
        subst (λ l. IsFrame l (bytes ++ take used piece) content) was.0 fed.0,
        (same ∙ was.0, fed.1),
      )

  -- The bytes prove the error that it returned.
  pub frame_fault : (fault : FrameFault) → fault ≢ NoRoom
      → ((rest : List ℕ) → Represents old rest → GivesFault (limits_of old) rest piece fault new)
      → (place : ℕ) × items.FailsAt (frame_items limits) (bytes ++ piece) (Frame fault) place
  frame_fault fault other gives =
      let reported = (gives bytes was.1).shown other in (
        reported.0,
        subst (λ l. items.FailsAt (frame_items l) (bytes ++ piece) (Frame fault) reported.0) was.0
            (shows_as Frame (frames (limits_of old)) (bytes ++ piece) fault reported.0 reported.1),
      )

-- ---- readers of records

module _ (limits : FrameLimits) (bytes piece : List ℕ) (old new : RecordReading)
    (was : RepresentsRecord limits old bytes) where
  -- The bytes that a reader consumed are an item, or a prefix of one.
  pub record_fed : (used : ℕ) (ended : Option WholeRecord)
      → ((number : ℕ) (held : List ℕ) → RepresentsRecords old number held → (used ≤ length piece)
      × MatchOption ended
      ((used ≡ length piece) × RepresentsRecords new number (held ++ piece))
      (λ whole. IsRecord (record_limits old) (held ++ take used piece) whole.side whole.content
      × RepresentsRecords new (next_number number) []))
      → record_limits new ≡ record_limits old
      → MatchOption ended
      ((used ≡ length piece) × RepresentsRecord limits new (bytes ++ piece))
      (λ whole. IsItem (record_items limits) (bytes ++ take used piece) whole
      × RepresentsRecord limits new [])
  record_fed used None gives same =
      let fed = (gives was.1.0 bytes was.1.1).1 in (fed.0, (same ∙ was.0, (was.1.0, fed.1)))
  record_fed used (Some whole) gives same =
      let fed = (gives was.1.0 bytes was.1.1).1 in (
        subst (λ l. IsRecord l (bytes ++ take used piece) whole.side whole.content) was.0 fed.0,
        (same ∙ was.0, (next_number was.1.0, fed.1)),
      )

  -- The bytes prove the error that it returned.
  pub record_fault : (fault : RecordFault)
      → ((number : ℕ) (held : List ℕ) → RepresentsRecords old number held
      → GivesRecordFault (record_limits old) number held piece fault new)
      → GivesItem (record_items limits) (RepresentsRecord limits) bytes piece (Err fault.cause) new
  record_fault fault gives =
      by_cause fault.cause (λ other. subst (λ l. (place : ℕ)
      × ShowsFault l (bytes ++ piece) fault.cause place) was.0
      ((gives was.1.0 bytes was.1.1).shown other))
    where
      by_cause : (why : RecordCause)
          → (why ≢ Memory → (place : ℕ) × ShowsFault limits (bytes ++ piece) why place)
          → GivesItem (record_items limits) (RepresentsRecord limits) bytes piece (Err why) new
      by_cause Memory shown = tt
      by_cause Cut shown =
          let reported = shown (λ same. absurd (let e = same in cc)) in
          shown_cause limits (bytes ++ piece) Cut reported.0 reported.1
      by_cause why shown =
          let reported = shown (λ same. absurd (let e = same in cc)) in (
            reported.0,
            record {
              front = reported.1.front;
              more = reported.1.more;
              bytes_are = reported.1.bytes_are;
              ends = reported.1.ends;
              place = reported.1.place;
            },
          )

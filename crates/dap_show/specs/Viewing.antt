-- The lines that are printed of a recording, and where printing stops. Source: own, over recordings,
-- the messages of the DAP specification, and its session rules.
use Rattle.std.specs.Prelude.{◌≡◌, ◌⊎◌, ℕ, ◌+◌, ◌≤◌, Bool, true, false, nat_le, List, [], ◌∷◌, ◌++◌}
use Rattle.std.specs.Prelude.{length, Option, Some, None, Result, Ok, Err, codes, decimal}
use Rattle.std.specs.{List.flat_map, Option.option_or}
use Rattle.dap_device.specs.Written.{AllSent, PrefixWritten}
use Rattle.dap_device.specs.declared.device.Sink.{Ghosts as Sink}
use Rattle.dap_device.specs.declared.device.Source.{Ghosts as Source}
use Rattle.dap_tree.specs.{Doc.Doc, Json.IsRead, declared.side.Side.Side}
use Rattle.dap_message.specs.Message.{HasRefusal, Refusal, Sent, faulty, fraction, no_reading}
use Rattle.dap_recording.specs.Recording.{IsRecording, records}
use Rattle.dap_session.specs.{Rules.first_broken, declared.rule.Rule.Rule}
use Rattle.dap_input.specs.{Engine.Answers, InputSteps.AcceptsAll}
use Rattle.dap_input.specs.Validation.{Validation, ContentError, grew, no_message}
use Rattle.dap_input.specs.{Limits.AreSound, RefusedText.reason_text}
use Rattle.dap_input.specs.Refusals.{HasOneOutcome, IsRefused, RefusalStays}
use Rattle.dap_input.specs.{declared.limits.Limits.Limits, declared.refused.Refused.Refused}
use Rattle.dap_input.specs.declared.refused.Refused.TheVariants as because
use Rattle.dap_normalise.specs.Accepting.{Payload, IsMessage}
use Rattle.dap_show.specs.{Leaves.leaf_lines, Showing.{listed_lines, message_line, start_words}}
use Rattle.dap_show.specs.{Stopping.StopsAt, declared.detail.Detail.Detail}
use Rattle.dap_show.specs.declared.detail.Detail.TheVariants.{Lists, Leaves}
use Rattle.dap_show.specs.declared.detail.View.{View}

-- ---- entries

-- The printed data of a record: its message, the document of its content, and the rule that the
-- message violates, if any. Or its side and the reason why it does not contain a message.
pub data Entry : Type 0 where
  typed : Sent → Doc → Option Rule → Entry
  untyped : Side → Refusal → Entry

-- The messages against which a later one is checked: those that violate no rule.
abbrev pub kept_if : Option Rule → Sent → List Sent
kept_if None message = message ∷ []
kept_if (Some rule) message = []

abbrev pub kept_of : Entry → List Sent
kept_of (typed message d rule) = kept_if rule message
kept_of (untyped side why) = []

abbrev pub kept : List Entry → List Sent
kept entries = flat_map kept_of entries

-- ---- rejections

-- The rejection of record n, whose content is not a message.
abbrev pub refusal_of : ℕ → Refusal → Refused
refusal_of n no_reading = because.Json n
refusal_of n fraction = because.Fraction n
refusal_of n (faulty fault) = because.Message n fault

-- The rejection of record n, if it has one.
abbrev pub rule_refusal : ℕ → Option Rule → Option Refused
rule_refusal n None = None
rule_refusal n (Some rule) = Some (because.Rule n rule)

abbrev pub refusal_at : ℕ → Entry → Option Refused
refusal_at n (typed message d rule) = rule_refusal n rule
refusal_at n (untyped side why) = Some (refusal_of n why)

-- The first rejection among entries, the first of which is record n.
abbrev pub first_refusal : ℕ → List Entry → Option Refused
first_refusal n [] = None
first_refusal n (entry ∷ entries) = option_or (refusal_at n entry) (first_refusal (n + 1) entries)

-- An error of the framing: the start of the next record is unknown.
abbrev pub IsFraming : Refused → Type 0
IsFraming (because.Record n cause) = Unit {0}
IsFraming (because.InputTooLong n) = Unit {0}
IsFraming refused = ⊥

-- ---- lines

-- The mark of a rejected record: the name of its error.
abbrev pub fault_words : Refused → List ℕ
fault_words refused = codes "fault: " ++ reason_text refused ++ codes "\n"

-- The lines of a message, with the rule that it violates.
abbrev pub head_lines : ℕ → Sent → Option Rule → List ℕ
head_lines n message None = message_line n message
head_lines n message (Some rule) =
    message_line n message ++ (codes "  " ++ fault_words (because.Rule n rule))

-- The lines under them: the frames, scopes and variables that the message lists, or the leaves of
-- the content.
abbrev pub detail_lines : Detail → Sent → Doc → List ℕ
detail_lines Lists message d = listed_lines message.doc
detail_lines Leaves message d = leaf_lines [] d

abbrev pub entry_lines : Detail → ℕ → Entry → List ℕ
entry_lines detail n (typed message d rule) =
    head_lines n message rule ++ detail_lines detail message d
entry_lines detail n (untyped side why) = start_words n side ++ fault_words (refusal_of n why)

-- The lines of entries, the first of which is record n.
abbrev pub lines_of : Detail → ℕ → List Entry → List ℕ
lines_of detail n [] = []
lines_of detail n (entry ∷ entries) =
    entry_lines detail n entry ++ lines_of detail (n + 1) entries

-- The line of an error of the framing, whose side may be unknown.
abbrev pub stop_line : Refused → List ℕ
stop_line (because.Record n cause) = decimal n ++ codes " " ++ fault_words (because.Record n cause)
stop_line (because.InputTooLong n) = decimal n ++ codes " " ++ fault_words (because.InputTooLong n)
stop_line refused = []

-- The lines of leaves repeat their paths, so their total length is limited: by the limit of the
-- input.
abbrev pub fits_in : Detail → ℕ → ℕ → Bool
fits_in Lists limit n = true
fits_in Leaves limit n = nat_le n limit

-- ---- accepted recordings

-- The rule that a message violates after these messages, if rules are checked.
abbrev pub broken_rule : Bool → List Sent → Sent → Option Rule
broken_rule false before message = None
broken_rule true before message = first_broken before message

-- This level of detail, without marks of errors and with them.
abbrev pub without_marks : Detail → Limits → View
without_marks detail limits = record { detail = detail; limits = limits; marks_faults = false }

abbrev pub with_marks : Detail → Limits → View
with_marks detail limits = record { detail = detail; limits = limits; marks_faults = true }

module _ (view : View) where
  -- A record has this entry after these entries. Records that do not contain a message are entries
  -- only if errors are marked.
  abbrev pub IsEntry : List Entry → Payload → Entry → Type 0
  IsEntry before held (typed message d rule) = IsMessage held message × IsRead held.1 d
      × (rule ≡ broken_rule view.marks_faults (kept before) message)
  IsEntry before held (untyped side why) = (view.marks_faults ≡ true) × (side ≡ held.0)
      × HasRefusal held.1 why

  abbrev pub Fits : List Entry → Type 0
  Fits entries =
      fits_in view.detail view.limits.input (length (lines_of view.detail 1 entries)) ≡ true

  abbrev pub IsNext : List Entry → Payload → Entry → Type 0
  IsNext before held entry = IsEntry before held entry × Fits (before ++ entry ∷ [])

  -- A record is rejected because it does not contain a message and errors are not marked, or
  -- because the output including its lines exceeds the limit.
  abbrev pub Rejects : List Entry → Payload → ContentError → Type 0
  Rejects before held (no_message why) = (view.marks_faults ≡ false) × HasRefusal held.1 why
  Rejects before held grew =
      (entry : Entry) × IsEntry before held entry × (Fits (before ++ entry ∷ []) → ⊥)
  Rejects before held why = ⊥

  -- The records have these entries, each checked after those before it.
  abbrev pub AreEntries : List Entry → List Payload → List Entry → Type 0
  AreEntries before [] [] = Unit {0}
  AreEntries before [] (entry ∷ entries) = ⊥
  AreEntries before (held ∷ records) [] = ⊥
  AreEntries before (held ∷ records) (entry ∷ entries) = IsNext before held entry
      × AreEntries (before ++ entry ∷ []) records entries

  -- The bytes are a recording of records with these entries.
  pub record IsViewable (bytes : List ℕ) (entries : List Entry) : Type 0 where
    pub short : length bytes ≤ view.limits.input
    pub records : List Payload
    pub recording : IsRecording view.limits.frame bytes records
    pub entered : AreEntries [] records entries

  abbrev pub viewing : Validation
  viewing = record {
    Payload = Payload;
    Value = Entry;
    input = view.limits.input;
    records = records view.limits.frame;
    IsNext = IsNext;
    Rejects = Rejects;
    IsAccepted = IsViewable;
  }

  module _ {R : Type 0} (source : Source R) where
    -- All records have entries; `text` is their lines, and `first` is the first rejection among
    -- them.
    pub record ShowsAll (old new : R) (text : List ℕ) (first : Option Refused) : Type 0 where
      pub entries : List Entry
      pub all : AcceptsAll viewing source old new entries
      pub text_is : text ≡ lines_of view.detail 1 entries
      pub first_is : first ≡ first_refusal 1 entries

    -- Errors are marked, and the framing of a record is invalid. `text` is the lines of the records
    -- before it, and its own line.
    pub record ShowsFront (old new : R) (text : List ℕ) (first : Option Refused) : Type 0 where
      pub marked : view.marks_faults ≡ true
      pub refused : Refused
      pub framing : IsFraming refused
      pub stops : StopsAt viewing source old new refused
      pub text_is : text ≡ lines_of view.detail 1 stops.before.values ++ stop_line refused
      pub first_is : first ≡ option_or (first_refusal 1 stops.before.values) (Some refused)

    abbrev pub Shows : R → R → List ℕ → Option Refused → Type 0
    Shows old new text first = ShowsAll old new text first ⊎ ShowsFront old new text first

    module _ {W : Type 0} (sink : Sink W) where
      -- The lines were written and flushed; or a prefix of them was written and the writer failed;
      -- or the input is rejected or an allocation failed, and nothing was written.
      abbrev pub ViewsInput : R → R → W → W → Result (Option Refused) Refused → Type 0
      ViewsInput old new before after (Ok first) =
          (text : List ℕ) × Shows old new text first × AllSent sink before after text
      ViewsInput old new before after (Err because.WriteFault) =
          (text : List ℕ) × (first : Option Refused) × Shows old new text first
          × PrefixWritten sink before after text
      ViewsInput old new before after (Err refused) = StopsAt viewing source old new refused
          × (view.marks_faults ≡ true → IsFraming refused → ⊥) × (after ≡ before)

-- ---- the outcomes of the functions

-- Recordings as `show` reads them: with the lists of each message.
abbrev pub showing : Limits → Validation
showing limits = viewing (without_marks Lists limits)

-- These are the lines of the input.
abbrev pub IsShownBy : Limits → List ℕ → List ℕ → Type 0
IsShownBy limits whole written = (entries : List Entry)
    × IsViewable (without_marks Lists limits) whole entries × (written ≡ lines_of Lists 1 entries)

-- Outcome of `show`: the lines of the input were written and flushed, or a prefix of them was
-- written and the writer failed, or the first error of the input is returned and nothing was
-- written. Unless an allocation failed, the input was read to its end, to a byte beyond the limit,
-- or to a failure of the reader.
abbrev pub ShowsLists : {U R W : Type 0} → Limits → Source R → Sink W → R → R → W → W
    → Result U Refused → Type 0
ShowsLists limits source sink =
    Answers source sink limits.input (IsShownBy limits) (IsRefused (showing limits))

-- Outcome of `show_with`: all lines were written and flushed, or a prefix of them was written and
-- the writer failed, or the first error is returned or an allocation failed, and nothing was
-- written.
abbrev pub ShowsInput : {U R W : Type 0} → Detail → Limits → Source R → Sink W → R → R → W → W
    → Result U Refused → Type 0
ShowsInput detail limits source sink old new before after (Ok done) =
    (text : List ℕ) × (first : Option Refused)
    × ShowsAll (without_marks detail limits) source old new text first
    × AllSent sink before after text
ShowsInput detail limits source sink old new before after (Err because.WriteFault) =
    (text : List ℕ) × (first : Option Refused)
    × ShowsAll (without_marks detail limits) source old new text first
    × PrefixWritten sink before after text
ShowsInput detail limits source sink old new before after (Err refused) =
    StopsAt (viewing (without_marks detail limits)) source old new refused × (after ≡ before)

-- ---- laws

-- An input is accepted as exactly one list of entries, or rejected for exactly one reason, never
-- both.
abbrev pub ViewHasOneOutcome : Type 0
ViewHasOneOutcome = (view : View) → AreSound view.limits → HasOneOutcome (viewing view)

abbrev pub ShowHasOneOutcome : Type 0
ShowHasOneOutcome = (limits : Limits) → AreSound limits → HasOneOutcome (showing limits)

-- A rejection remains when more bytes follow, unless the record was only incomplete.
abbrev pub ViewRefusalStays : Type 0
ViewRefusalStays = (view : View) → AreSound view.limits → RefusalStays (viewing view)

abbrev pub ShowRefusalStays : Type 0
ShowRefusalStays = (limits : Limits) → AreSound limits → RefusalStays (showing limits)

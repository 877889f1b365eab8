-- What `show_record` prints of a recording. Source: own.
use Rattle.std.specs.Prelude.{◌≡◌, ◌⊎◌, ℕ, ◌<◌, ◌≤◌, List, [], ◌++◌, length, None, Result, Ok, Err}
use Rattle.std.specs.Prelude.{codes}
use Rattle.dap_device.specs.{Pieces.HasReadSoFar, Written.{AllSent, PrefixWritten}}
use Rattle.dap_device.specs.declared.device.Sink.{Ghosts as Sink}
use Rattle.dap_device.specs.declared.device.Source.{Ghosts as Source}
use Rattle.dap_tree.specs.{Doc.Doc, Json.{HasFraction, HasNoReading, IsRead}}
use Rattle.dap_tree.specs.declared.side.Side.{Side}
use Rattle.dap_recording.specs.Recording.{IsRecord, IsRecording, records}
use Rattle.dap_input.specs.{InputSteps.AcceptsAll, Inputs.AcceptedBefore, Validation.Validation}
use Rattle.dap_input.specs.{ReadTo.{IsReadTo, so_far}, declared.limits.Limits.Limits}
use Rattle.dap_input.specs.declared.refused.Refused.{Refused}
use Rattle.dap_input.specs.declared.refused.Refused.TheVariants.{WriteFault}
use Rattle.dap_normalise.specs.Accepting.{Payload}
use Rattle.dap_show.specs.{Indented.indented, Stopping.StopsAt}
use Rattle.dap_show.specs.declared.one_record.Found.{Found}
use Rattle.dap_show.specs.declared.one_record.Found.TheVariants as found
use Rattle.dap_show.specs.declared.one_record.RecordShown.{RecordShown}
use Rattle.dap_show.specs.declared.one_record.RecordShown.TheVariants.{Shown, Missing}

-- The indented text of a document, with the final LF.
abbrev pub content_text : Doc → List ℕ
content_text d = indented [] d ++ codes "\n"

-- The text that is printed of a content: the indented text of its document, or, if it is not JSON
-- or has a number that is not an integer, the content itself with a final LF.
abbrev pub PrintsContent : List ℕ → List ℕ → Type 0
PrintsContent content text = ((d : Doc) × IsRead content d × (text ≡ content_text d))
    ⊎ ((HasNoReading content ⊎ HasFraction content) × (text ≡ content ++ codes "\n"))

-- The bytes are a recording of these records, whose contents are not checked.
pub record IsFramed (limits : Limits) (bytes : List ℕ) (values : List Payload) : Type 0 where
  pub short : length bytes ≤ limits.input
  pub recording : IsRecording limits.frame bytes values

abbrev pub framing : Limits → Validation
framing limits = record {
  Payload = Payload;
  Value = Payload;
  input = limits.input;
  records = records limits.frame;
  IsNext = λ before held value. value ≡ held;
  Rejects = λ before held why. ⊥;
  IsAccepted = IsFramed limits;
}

-- Records are read up to the one with the number `sought`. All records are read if it does not
-- exist; no record has the number 0.
abbrev pub IsSought : ℕ → ℕ → Type 0
IsSought sought number = (sought ≡ 0) ⊎ (number ≤ sought)

module _ {R : Type 0} (limits : Limits) (source : Source R) where
  -- The bytes read contain the record with this number and this content, after complete records. No
  -- more was read than this record requires.
  pub record HasRecord (old new : R) (number : ℕ) (content : List ℕ) : Type 0 where
    pub bytes : List ℕ
    pub came : HasReadSoFar source old new bytes None
    pub short : length bytes ≤ limits.input
    pub read_to : IsReadTo (framing limits) bytes number
    pub before : AcceptedBefore (framing limits) (so_far bytes None) number
    pub record_bytes : List ℕ
    pub more : List ℕ
    pub split : before.rest ≡ record_bytes ++ more
    pub side : Side
    pub is_record : IsRecord limits.frame record_bytes side content

  -- The recording has `count` records, and none of them has this number.
  pub record HasNoRecord (old new : R) (number count : ℕ) : Type 0 where
    pub values : List Payload
    pub all : AcceptsAll (framing limits) source old new values
    pub count_is : count ≡ length values
    pub missing : (number ≡ 0) ⊎ (count < number)

  -- The framing of the requested record or of an earlier one is invalid, or the reader failed
  -- before the end of the requested record, or an allocation failed at one of them.
  pub record StopsBefore (old new : R) (number : ℕ) (refused : Refused) : Type 0 where
    pub stops : StopsAt (framing limits) source old new refused
    pub early : IsSought number stops.number

  module _ {W : Type 0} (sink : Sink W) (number : ℕ) where
    -- The text of the content was written, or if the writer failed, a prefix of it.
    abbrev pub Writes : R → R → (List ℕ → Type 0) → Type 0
    Writes old new Written = (content text : List ℕ) × HasRecord old new number content
        × PrintsContent content text × Written text

    abbrev pub ShowsRecord : R → R → W → W → Result RecordShown Refused → Type 0
    ShowsRecord old new before after (Ok Shown) = Writes old new (AllSent sink before after)
    ShowsRecord old new before after (Ok (Missing count)) =
        HasNoRecord old new number count × (after ≡ before)
    ShowsRecord old new before after (Err WriteFault) =
        Writes old new (PrefixWritten sink before after)
    ShowsRecord old new before after (Err refused) =
        StopsBefore old new number refused × (after ≡ before)

  -- For private clauses: the record is found, or it does not exist, or reading stops at it or before
  -- it.
  abbrev pub Finds : R → R → ℕ → Result Found Refused → Type 0
  Finds old new number (Ok (found.Whole whole)) = HasRecord old new number whole.content
  Finds old new number (Ok (found.Missing count)) = HasNoRecord old new number count
  Finds old new number (Err refused) = StopsBefore old new number refused

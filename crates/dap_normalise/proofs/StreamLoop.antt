-- The loop invariant of a command function that checks a recording record by record.
use Rattle.std.proofs.Common.{◌≡◌, ℕ, ℤ, ◌+◌, ◌≤◌, true, false, Ok, Bool, List, []}
use Rattle.std.proofs.Common.{◌∷◌, ◌++◌, Option, Some, None, refl, ◌∙◌, ap, subst, arith}
use Rattle.std.proofs.Common.{append_assoc}
use Rattle.std.proofs.lemmas.List.{length_push}
use Rattle.dap_device.specs.declared.device.Source.{Ghosts as Source}
use Rattle.dap_device.specs.Pieces.{HasReadSoFar}
use Rattle.dap_device.specs.Reading.{HasReadInput}
use Rattle.dap_device.specs.declared.reading.Stop.{Stop}
use Rattle.dap_device.specs.declared.reading.Stop.TheVariants.{End}
use Rattle.dap_message.specs.Message.{Sent}
use Rattle.dap_rename.specs.Messages.{IsNormal}
use Rattle.dap_rename.specs.Modes.{stop_in}
use Rattle.dap_rename.specs.declared.mode.Mode.{Mode}
use Rattle.dap_input.specs.declared.limits.Limits.{Limits}
use Rattle.dap_normalise.specs.declared.normal_records.NormalRecords.{NormalRecords}
use Rattle.dap_input.specs.declared.refused.Refused.{Refused}
use Rattle.dap_normalise.specs.Accepting.{accepting, text}
use Rattle.dap_input.specs.Inputs.{AcceptedBefore, Input}
use Rattle.dap_input.specs.ItemReading.{RepresentsRecord}
use Rattle.dap_normalise.specs.NormalSteps.{HasEnded, HasAdvanced, HasNext, HasStoppedAt}
use Rattle.dap_normalise.specs.NormalSteps.{RepresentsBefore}
use Rattle.dap_input.specs.ReadTo.{IsReadTo, so_far}
use Rattle.dap_normalise.specs.Normalising.{Normalises}
use Rattle.dap_normalise.specs.Streaming.{HasComeTo, RefusesNext}
use Rattle.dap_input.specs.Refusals.{RefusesAt}
use Rattle.dap_input.proofs.Coming.{came_on, nothing_came, taken_within, whole_came}
use Rattle.dap_input.proofs.PendingTexts.{come_on, stands_at}
use Rattle.dap_input.proofs.WholeInputs.{Going as Judged}
use Rattle.dap_normalise.proofs.NormalRecordSteps.{behind_of}

-- The state represents the normal form in the mode of the input.
pub normal_before : {T : Type 0} {numbers : T → List ℤ} {table_limit : T → ℕ} {limits : Limits}
    {mode : Mode} {bytes : List ℕ} {records : NormalRecords T} {messages normal : List Sent}
    → RepresentsBefore numbers table_limit limits mode bytes records messages normal
    → IsNormal (stop_in mode) messages normal
normal_before {messages = messages} {normal = normal} represents =
    subst (λ k. IsNormal (stop_in k) messages normal) represents.judge_mode_is
    represents.represents.is_normal

-- These bytes were read, and the records before the next one are accepted.
pub record Going {T R : Type 0} (numbers : T → List ℤ) (table_limit : T → ℕ) (source : Source R)
    (limits : Limits) (mode : Mode) (start reader : R) (records : NormalRecords T) : Type 0 where
  pub bytes : List ℕ
  pub came : HasReadSoFar source start reader bytes None
  pub messages : List Sent
  pub normal : List Sent
  pub represents : RepresentsBefore numbers table_limit limits mode bytes records messages normal

abbrev pub at_start : {T R : Type 0} {numbers : T → List ℤ} {table_limit : T → ℕ}
    (source : Source R) (reader : R) {limits : Limits} {mode : Mode} {records : NormalRecords T}
    → RepresentsBefore numbers table_limit limits mode [] records [] []
    → Going numbers table_limit source limits mode reader reader records
at_start source reader represents = record {
  bytes = [];
  came = nothing_came source reader;
  messages = [];
  normal = [];
  represents = represents;
}

module _ {T R : Type 0} {numbers : T → List ℤ} {table_limit : T → ℕ} {source : Source R}
    {limits : Limits} {mode : Mode} {start reader : R} {records : NormalRecords T}
    (was : Going numbers table_limit source limits mode start reader records) where
  -- ---- so far

  pub normalises : Normalises limits mode was.represents.front (text was.normal)
  normalises = record {
    messages = was.messages;
    accepts = was.represents.accepted;
    normal = was.normal;
    is_normal = normal_before was.represents;
    text_is = refl;
  }

  abbrev judged : Judged (accepting limits mode) (RepresentsRecord limits.frame) source start reader
      records.records was.messages
  judged = record {
    bytes = was.bytes;
    came = was.came;
    behind = behind_of limits mode was.bytes records was.messages was.normal was.represents;
  }

  -- No more was read than the next record requires.
  abbrev pub here : HasComeTo source limits mode start reader None records.records.number
      (text was.normal)
  here = stands_at (Normalises limits mode) judged (text was.normal) normalises

  abbrev pub come_to : {after : R} {more : List ℕ} {stop : Option Stop}
      → HasReadSoFar source reader after more stop
      → IsReadTo (accepting limits mode) (was.bytes ++ more) records.records.number
      → HasComeTo source limits mode start after stop records.records.number (text was.normal)
  come_to came read_to =
      come_on here came read_to

  -- an input of which this part was read
  abbrev pub before_in : (input : Input) (tail : List ℕ) → input.bytes ≡ was.bytes ++ tail
      → AcceptedBefore (accepting limits mode) input records.records.number
  before_in input tail split = record {
    values = was.messages;
    front = was.represents.front;
    rest = records.records.pieces.unread ++ tail;
    split = split ∙ ap (λ t. t ++ tail) was.represents.came
        ∙ append_assoc was.represents.front records.records.pieces.unread tail;
    accepted = was.represents.accepted;
    is_number = was.represents.number_is;
  }

  module _ {new : NormalRecords T} {after : R} where
    -- ---- one more record

    module _ {before longer : List ℕ}
        (gone : HasAdvanced numbers table_limit source limits mode was.bytes was.messages was.normal
        records new reader after before longer) where
      abbrev pub on : Going numbers table_limit source limits mode start after new
      on = record {
        bytes = was.bytes ++ gone.more;
        came = came_on source start reader after was.bytes gone.more None was.came gone.came;
        messages = was.messages ++ gone.message ∷ [];
        normal = was.normal ++ gone.named ∷ [];
        represents = gone.represents;
      }

      pub next_number : new.records.number ≡ records.records.number + 1
      next_number =
          let is = was.represents.number_is in
          let is_next = gone.represents.number_is in
          omega (arith, is, is_next, length_push was.messages gone.message)

      pub gone_taken : source.given after ≤ source.given start + limits.input + 1
      gone_taken =
          let taken = gone.represents.taken in
          let limit = gone.represents.limit_is in
          let within = gone.represents.between.within in
          taken_within source limits.input was.came gone.came (omega (arith, taken, limit, within))

      abbrev pub next_in : (input : Input) (tail : List ℕ)
          → input.bytes ≡ (was.bytes ++ gone.more) ++ tail
          → AcceptedBefore (accepting limits mode) input (records.records.number + 1)
      next_in input tail split = record {
        values = was.messages ++ gone.message ∷ [];
        front = gone.represents.front;
        rest = new.records.pieces.unread ++ tail;
        split = split ∙ ap (λ t. t ++ tail) gone.represents.came
            ∙ append_assoc gone.represents.front new.records.pieces.unread tail;
        accepted = gone.represents.accepted;
        is_number =
            (let is = was.represents.number_is in omega
            (arith, is, length_push was.messages gone.message));
      }

    -- ---- an error

    module _ {because : Refused}
        (stopped : HasStoppedAt numbers table_limit source limits mode was.bytes
        was.messages was.normal records new reader after because) where
      abbrev pub refused_to : HasComeTo source limits mode start after stopped.stop
          records.records.number (text was.normal)
      refused_to = come_to stopped.came stopped.read_to

      pub refuses_next : RefusesAt (accepting limits mode)
          (so_far (was.bytes ++ stopped.more) stopped.stop) records.records.number because
          → RefusesNext source limits mode start after because (text was.normal)
      refuses_next says =
          record {
            number = records.records.number;
            stop = stopped.stop;
            to = refused_to;
            refuses = says;
            cut = stopped.cut;
          }

      pub few_taken : source.given after ≤ source.given start + limits.input + 1
      few_taken = taken_within source limits.input was.came stopped.came stopped.within

    -- ---- at the end

    module _ {before longer : List ℕ}
        (ended : HasEnded numbers table_limit source limits mode was.bytes was.messages
        was.normal records new reader after before longer) where
      pub all_came : HasReadInput source start after limits.input (was.bytes ++ ended.more) End
      all_came = whole_came source (came_on source start reader after was.bytes ended.more
          (Some End) was.came ended.came) ended.accepted.short

      pub all_taken : source.given after ≤ source.given start + limits.input + 1
      all_taken =
          let within = ended.accepted.short in
          taken_within source limits.input was.came ended.came (omega (arith, within))

  pub passed_taken : (new : NormalRecords T) (after : R) (before longer : List ℕ) (some : Bool)
      → HasNext numbers table_limit source limits mode was.bytes was.messages was.normal
      records new reader after before longer (Ok some)
      → source.given after ≤ source.given start + limits.input + 1
  passed_taken new after before longer true gone = gone_taken gone
  passed_taken new after before longer false ended = all_taken ended

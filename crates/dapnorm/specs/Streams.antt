-- What the program does with one input whose output is written. Source: own.
use Rattle.std.specs.Prelude.{◌≡◌, ◌⊎◌, ◌||◌, ℕ, ◌<◌, Bool, true, false, IsErrOf, List, [], Option}
use Rattle.std.specs.{Option.unwrap_or, Prelude.{Some, None, Result, Ok, Err, codes, cond, is_some}}
use Rattle.std.specs.{Str.Parse.ParsesUnsigned, declared.num.ParseIntError.ParseIntError}
use Rattle.dap_commands.specs.declared.commands.{Show.Show, Task.Task}
use Rattle.dap_device.specs.declared.device.{Sink.Ghosts as Sink, Source.Ghosts as Source}
use Rattle.dap_device.specs.declared.replacing.ReplaceFault.{ReplaceFault}
use Rattle.dap_host.specs.{Files.{Files, is_standard}, declared.host.OpenFault.OpenFault}
use Rattle.dap_host.specs.declared.host.{Purpose.Purpose, Stream.TheVariants.Bytes}
use Rattle.dap_host.specs.declared.limits.TheConstants.{LIMITS}
use Rattle.dap_input.specs.{Engine.Answers, Streaming.Streams}
use Rattle.dap_input.specs.declared.refused.Refused.{Refused, TheVariants.Memory}
use Rattle.dap_mask.specs.{Declarations.Declaration, KeptRules.mask_of, Mask.Mask}
use Rattle.dap_mask.specs.declared.joining.Joining.{Joining}
use Rattle.dap_mask.specs.declared.mask_rules.MaskRules.{MaskRules}
use Rattle.dap_message.specs.SwapRules.{SwapRule}
use Rattle.dap_record.specs.TracingRun.{RecordsTrace}
use Rattle.dap_rename.specs.declared.mode.Mode.TheVariants.{Whole}
use Rattle.dap_rules.specs.Applying.{IsMaskedByRules, IsNotMaskedByRules}
use Rattle.dap_rules.specs.{MaskedRecordings.{IsMaskedTo, Masks}, Masking.masking}
use Rattle.dap_rules.specs.{NamedRecordings.IsNamedTo, Naming.{Names, naming}}
use Rattle.dap_rules.specs.{Memory.WrittenBytes, Ordering.{IsNotOrdered, Orders, ReadsSomeOrAll}}
use Rattle.dap_show.specs.{OneRecord.ShowsRecord, Viewing.{ShowsInput, ViewsInput, with_marks}}
use Rattle.dap_show.specs.declared.detail.Detail.{Detail, TheVariants.{Leaves, Lists}}
use Rattle.dap_show.specs.declared.detail.ShowRequest.{ShowRequest}
use Rattle.dap_show.specs.{Transcripts.ShowsTranscript, declared.one_record.RecordShown.RecordShown}
use Rattle.dap_device.specs.Devices.{Read, Written, reads, writes}
use Rattle.dapnorm.specs.Desks.{IsLeft, IsUnused, Place, empty}
use Rattle.dapnorm.specs.{Rules.AreRules, Run.{HasCompacted, HasNormalised, HasShown}}
use Rattle.dapnorm.specs.{Saving.{Saves, no_text, text_sink}, declared.answer.Answer.Answer}
use Rattle.dapnorm.specs.declared.{desk.Desk.Desk, reading.Unread.TheVariants.Unopened}
use Rattle.dapnorm.specs.declared.{rules.NoRules.NoRules, stream.Unstreamed.Unstreamed}
use Rattle.dapnorm.specs.declared.why.Mistake.{Mistake, TheVariants.{RecordAlone, RecordNumber}}
use Rattle.dapnorm.specs.declared.why.Mistake.TheVariants.{YamlAlone}
use Rattle.dapnorm.specs.declared.why.{Overlap.TheVariants.OutputAndRules, Why.Why}

-- ---- what the options of `show` request

abbrev pub detail_of : Bool → Detail
detail_of full = cond full Leaves Lists

-- One record is printed alone, by its number from 1 on.
pub record RequestsRecord (show : Show) (number : ℕ) : Type 0 where
  pub text : List ℕ
  pub record_is : show.record ≡ Some text
  pub parsed : ParsesUnsigned {E = ParseIntError} 64 10 text (Ok number)
  pub from_1 : 0 < number
  pub alone : ((show.full || show.faulty) || show.yaml) ≡ false

-- Lines of all records are printed.
pub record RequestsLines (show : Show) (full faulty : Bool) : Type 0 where
  pub no_record : show.record ≡ None
  pub no_transcript : show.yaml ≡ false
  pub full_is : show.full ≡ full
  pub faulty_is : show.faulty ≡ faulty

-- Without an option, the lists of each record are printed. Other tasks take no options.
abbrev pub TaskRequests : Task → Result (Option ShowRequest) Mistake → Type 0
TaskRequests (Task.Show show) (Ok None) = RequestsLines show false false
TaskRequests (Task.Show show) (Ok (Some (ShowRequest.Lines detail))) =
    RequestsLines show true false × (detail ≡ Leaves)
TaskRequests (Task.Show show) (Ok (Some (ShowRequest.Faulty detail))) =
    RequestsLines show show.full true × (detail ≡ detail_of show.full)
TaskRequests (Task.Show show) (Ok (Some (ShowRequest.Record number))) = RequestsRecord show number
TaskRequests (Task.Show show) (Ok (Some ShowRequest.Transcript)) =
    (show.record ≡ None) × (show.yaml ≡ true) × ((show.full || show.faulty) ≡ false)
TaskRequests (Task.Show show) (Err RecordAlone) =
    (is_some show.record ≡ true) × (((show.full || show.faulty) || show.yaml) ≡ true)
TaskRequests (Task.Show show) (Err RecordNumber) =
    (is_some show.record ≡ true) × (((show.full || show.faulty) || show.yaml) ≡ false)
TaskRequests (Task.Show show) (Err YamlAlone) =
    (show.record ≡ None) × (show.yaml ≡ true) × ((show.full || show.faulty) ≡ true)
TaskRequests (Task.Show show) (Err mistake) = ⊥
TaskRequests one outcome = outcome ≡ Ok None

-- the name of the rules file of a task
abbrev pub task_rules : Task → Option (List ℕ)
task_rules (Task.Mask rules) = Some rules
task_rules (Task.Order rules) = Some rules
task_rules (Task.Name rules) = Some rules
task_rules one = None

-- ---- the engines

-- The result of `order` by these rules. If an allocation failed, a prefix of the input was read, or
-- all of it.
pub record HasOrdered {R W : Type 0} (source : Source R) (sink : Sink W) (rules : List SwapRule)
    (old new : R) (before after : W) (outcome : Result (Unit {0}) Refused) : Type 0 where
  pub answers : Answers source sink LIMITS.input (Orders LIMITS Whole rules)
      (IsNotOrdered LIMITS Whole rules) old new before after outcome
  pub memory : IsErrOf outcome Memory → ReadsSomeOrAll source LIMITS.input old new

-- The result of `join_and_mask` by these rules. If an allocation failed, a prefix of the input was
-- read, or all of it.
pub record HasJoined {R W : Type 0} (source : Source R) (sink : Sink W) (mask : Mask)
    (old new : R) (before after : W) (outcome : Result (Unit {0}) Refused) : Type 0 where
  pub answers : Answers source sink LIMITS.input (IsMaskedByRules LIMITS mask)
      (IsNotMaskedByRules LIMITS mask) old new before after outcome
  pub memory : IsErrOf outcome Memory → ReadsSomeOrAll source LIMITS.input old new

-- The result of `mask` by these rules: record by record, or of the whole input if output is joined.
abbrev pub HasMasked : {R W : Type 0} → Source R → Sink W → Mask → Option Joining → R → R → W → W
    → Result (Unit {0}) Refused → Type 0
HasMasked source sink mask None = Streams (masking LIMITS mask) (Masks LIMITS mask)
    (IsMaskedTo LIMITS mask) source sink
HasMasked source sink mask (Some joining) = HasJoined source sink mask

-- The result of `name` by these declarations, record by record.
abbrev pub HasNamed : {R W : Type 0} → Source R → Sink W → List Declaration → R → R → W → W
    → Result (Unit {0}) Refused → Type 0
HasNamed source sink declared = Streams (naming LIMITS declared) (Names LIMITS declared)
    (IsNamedTo LIMITS declared) source sink

-- An engine leaves the devices like this with its result.
abbrev pub unstreamed_of : Result (Unit {0}) Refused → Result (Unit {0}) Unstreamed
unstreamed_of (Ok done) = Ok done
unstreamed_of (Err refused) = Err (Unstreamed.Input refused)

pub record Ends (Leaves : Result (Unit {0}) Refused → Type 0)
    (outcome : Result (Unit {0}) Unstreamed) : Type 0 where
  pub ended : Result (Unit {0}) Refused
  pub leaves : Leaves ended
  pub outcome_is : outcome ≡ unstreamed_of ended

module _ {R W : Type 0} (input : Read R) (output : Written W) where
  -- An engine leaves the reader and the writer like this.
  abbrev pub Over : (R → R → W → W → Result (Unit {0}) Refused → Type 0)
      → Result (Unit {0}) Unstreamed → Type 0
  Over Ran = Ends (Ran input.old input.new output.old output.new)

  abbrev pub Views : Detail → Result (Option Refused) Refused → Type 0
  Views detail = ViewsInput (with_marks detail LIMITS) input.source output.sink input.old input.new
      output.old output.new

  abbrev pub ShowsOne : ℕ → Result RecordShown Refused → Type 0
  ShowsOne number = ShowsRecord LIMITS input.source output.sink number input.old input.new
      output.old output.new

  -- The records are shown as requested. With the marks of rejected records, the first of these is
  -- the result.
  abbrev pub IsShown : Option ShowRequest → Result (Unit {0}) Unstreamed → Type 0
  IsShown None outcome = Over (HasShown input.source output.sink LIMITS) outcome
  IsShown (Some ShowRequest.Transcript) outcome =
      Over (ShowsTranscript LIMITS input.source output.sink) outcome
  IsShown (Some (ShowRequest.Lines detail)) outcome =
      Over (ShowsInput detail LIMITS input.source output.sink) outcome
  IsShown (Some (ShowRequest.Faulty detail)) (Ok done) = Views detail (Ok None)
  IsShown (Some (ShowRequest.Faulty detail)) (Err (Unstreamed.Input refused)) =
      Views detail (Ok (Some refused)) ⊎ Views detail (Err refused)
  IsShown (Some (ShowRequest.Record number)) (Ok done) = ShowsOne number (Ok RecordShown.Shown)
  IsShown (Some (ShowRequest.Record number)) (Err (Unstreamed.Input refused)) =
      ShowsOne number (Err refused)
  IsShown (Some (ShowRequest.Record number)) (Err (Unstreamed.NoRecord absent count)) =
      (absent ≡ number) × ShowsOne number (Ok (RecordShown.Missing count))
  IsShown shown outcome = ⊥

  -- The task is done over a reader and a writer, by these rules if it takes some.
  abbrev pub IsStreamed : Task → Option ShowRequest → Mask → Result (Unit {0}) Unstreamed → Type 0
  IsStreamed Task.Compact shown mask outcome =
      Over (HasCompacted input.source output.sink LIMITS) outcome
  IsStreamed Task.Record shown mask outcome =
      Over (RecordsTrace input.source output.sink LIMITS) outcome
  IsStreamed (Task.Normalise mode) shown mask outcome =
      Over (HasNormalised input.source output.sink LIMITS mode) outcome
  IsStreamed (Task.Show show) shown mask outcome = IsShown shown outcome
  IsStreamed (Task.Mask rules) shown mask outcome =
      Over (HasMasked input.source output.sink mask mask.joining) outcome
  IsStreamed (Task.Order rules) shown mask outcome =
      Over (HasOrdered input.source output.sink mask.swaps) outcome
  IsStreamed (Task.Name rules) shown mask outcome =
      Over (HasNamed input.source output.sink mask.declared) outcome

-- ---- the output

-- the name of an input; without one it is standard input
abbrev pub input_name : Option (List ℕ) → List ℕ
input_name None = codes "-"
input_name (Some name) = name

-- the name of an output that is not standard output
abbrev pub output_name : Option (List ℕ) → Option (List ℕ)
output_name None = None
output_name (Some name) = cond (is_standard name) None (Some name)

-- The output that is written directly: standard output, or the device of a name.
abbrev pub IsOutput : {I O T : Type 0} → Files I O T → Option (List ℕ) → O → Type 0
IsOutput files None output = files.streams Bytes output
IsOutput files (Some name) output = files.devices name output

abbrev pub IsNoOutput : {I O T : Type 0} → Files I O T → Option (List ℕ) → OpenFault → Type 0
IsNoOutput files None fault = ⊥
IsNoOutput files (Some name) fault = files.no_device name fault

-- The rules file of a task that would be lost, since it is the file of the output.
abbrev pub LosesRules : {I O T : Type 0} → Files I O T → Option (List ℕ) → List ℕ
    → Option (List ℕ) → Type 0
LosesRules files None output lost = lost ≡ None
LosesRules files (Some rules) output None = files.are_same output rules false
LosesRules files (Some rules) output (Some lost) =
    (lost ≡ rules) × files.are_same output rules true

module _ {I O T : Type 0} (place : Place I O T) where
  module _ (task : Task) (shown : Option ShowRequest) (values : List (List ℕ)) (name : List ℕ)
      (desk : Desk I O T) where
    -- The input is that of the name.
    abbrev pub Input : (I → I → Type 0) → Type 0
    Input = IsLeft (place.files.opens Purpose.Input name) desk.a

    -- The rules of the task.
    abbrev pub RulesAre : Result MaskRules NoRules → Type 0
    RulesAre = AreRules place.files place.source (task_rules task) values

    -- The task was done over the input and a writer.
    abbrev pub Does : {W : Type 0} → Sink W → MaskRules → W → W → Result (Unit {0}) Unstreamed
        → Type 0
    Does sink rules before after outcome = Input (λ old new. IsStreamed
        (reads place.source old new) (writes sink before after) task shown (mask_of rules) outcome)

    -- The input is opened first, then the output, and then the rules file. The task writes to the
    -- output.
    module _ (output : Option (List ℕ)) where
      abbrev pub Output : (O → O → Type 0) → Type 0
      Output = IsLeft (IsOutput place.files output) desk.output

      abbrev pub IsWritten : Result (Option Answer) Why → Type 0
      IsWritten (Err (Why.Unread None (Unopened fault))) =
          (desk ≡ empty) × place.files.closed Purpose.Input name fault
      IsWritten (Err (Why.Output named fault)) = (named ≡ unwrap_or output []) × Input IsUnused
          × (desk.output ≡ None) × IsNoOutput place.files output fault
      IsWritten (Err (Why.Rules one)) = Input IsUnused × Output IsUnused × RulesAre (Err one)
      IsWritten (Err (Why.Stream one rules)) = RulesAre (Ok rules)
          × Output (λ before after. Does place.sink rules before after (Err one))
      IsWritten (Ok None) = (rules : MaskRules) × RulesAre (Ok rules)
          × Output (λ before after. Does place.sink rules before after (Ok tt))
      IsWritten outcome = ⊥

    -- The same, while the output is held in memory. It is saved in the file of a name if the task
    -- succeeds, and otherwise the file is as before.
    module _ (output : List ℕ) where
      abbrev pub Target : (T → T → Type 0) → Type 0
      Target = IsLeft (place.files.targets true output) desk.target

      -- The task left this text.
      abbrev pub Holds : MaskRules → WrittenBytes → Result (Unit {0}) Unstreamed → Type 0
      Holds rules text outcome = RulesAre (Ok rules) × Does text_sink rules no_text text outcome

      -- An allocation failed for the text.
      abbrev pub IsTooLong : Type 0
      IsTooLong = (rules : MaskRules) × (text : WrittenBytes)
          × (outcome : Result (Unit {0}) Unstreamed) × Holds rules text outcome
          × (0 < text.failures)

      -- The text was complete, and was saved or not.
      pub record IsFinished (outcome : Result (Unit {0}) ReplaceFault) : Type 0 where
        pub rules : MaskRules
        pub text : WrittenBytes
        pub holds : Holds rules text (Ok tt)
        pub complete : text.failures ≡ 0
        pub saves : Target (λ before after. Saves place.file text.out before after outcome)

      abbrev pub IsSavedIn : Result (Option Answer) Why → Type 0
      IsSavedIn (Err (Why.Unread None (Unopened fault))) =
          (desk ≡ empty) × place.files.closed Purpose.Input name fault
      IsSavedIn (Err (Why.Output named fault)) = (named ≡ output) × Input IsUnused
          × (desk.target ≡ None) × place.files.no_target true output fault
      IsSavedIn (Err (Why.Rules one)) = Input IsUnused × Target IsUnused × RulesAre (Err one)
      IsSavedIn (Err (Why.Input Memory)) = Target IsUnused × IsTooLong
      IsSavedIn (Err (Why.Stream one rules)) = Target IsUnused
          × ((text : WrittenBytes) × Holds rules text (Err one) × (text.failures ≡ 0))
      IsSavedIn (Err (Why.Unsaved named fault)) = (named ≡ output) × IsFinished (Err fault)
      IsSavedIn (Ok None) = IsFinished (Ok tt)
      IsSavedIn outcome = ⊥

  module _ (task : Task) (values : List (List ℕ)) (name : List ℕ) (desk : Desk I O T) where
    -- The output is not a file that is replaced, and is written.
    pub record WritesTo (output : Option (List ℕ)) (outcome : Result (Option Answer) Why) : Type 0
      where
        pub shown : Option ShowRequest
        pub requests : TaskRequests task (Ok shown)
        pub written : IsWritten task shown values name desk output outcome

    pub record SavesIn (output : List ℕ) (outcome : Result (Option Answer) Why) : Type 0 where
      pub shown : Option ShowRequest
      pub requests : TaskRequests task (Ok shown)
      pub saved : IsSavedIn task shown values name desk output outcome
      pub apart : LosesRules place.files (task_rules task) output None

    -- The output is the rules file of the task, which would be lost.
    pub record IsLost (output : List ℕ) (outcome : Result (Option Answer) Why) : Type 0 where
      pub lost : List ℕ
      pub loses : LosesRules place.files (task_rules task) output (Some lost)
      pub outcome_is : outcome ≡ Err (Why.SameFile OutputAndRules lost)
      pub unopened : desk ≡ empty

    -- An output that has a name is a device, or a file that is replaced.
    abbrev pub GoesTo : Option (List ℕ) → Result (Option Answer) Why → Type 0
    GoesTo None outcome = WritesTo None outcome
    GoesTo (Some output) outcome =
        (place.files.is_device output true × WritesTo (Some output) outcome)
        ⊎ (place.files.is_device output false × (IsLost output outcome ⊎ SavesIn output outcome))

    -- The options of the task are mistaken.
    pub record IsMistaken (outcome : Result (Option Answer) Why) : Type 0 where
      pub mistake : Mistake
      pub requests : TaskRequests task (Err mistake)
      pub outcome_is : outcome ≡ Err (Why.Mistake mistake)
      pub unopened : desk ≡ empty

    abbrev pub StreamIsRun : Option (List ℕ) → Result (Option Answer) Why → Type 0
    StreamIsRun output outcome = IsMistaken outcome ⊎ GoesTo (output_name output) outcome

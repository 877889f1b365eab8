-- What the program prints and reports for a job. Source: own.
use Rattle.std.specs.Prelude.{◌≡◌, ℕ, IsErrOf, [], ◌∷◌, Result, string_bytes}
use Rattle.dap_commands.specs.{Jobs.mode_for, declared.commands.{Job.Job, UsageFault.UsageFault}}
use Rattle.dap_compact.specs.Compacting.{Compacts, compacting}
use Rattle.dap_device.specs.Devices.{Read, Written}
use Rattle.dap_device.specs.declared.device.{Sink.Ghosts as Sink, Source.Ghosts as Source}
use Rattle.dap_input.specs.{Engine.{Answers, ReadsNoneOrAll}, Refusals.IsRefused}
use Rattle.dap_input.specs.{RefusedText.refused_text, declared.limits.Limits.Limits}
use Rattle.dap_input.specs.declared.refused.Refused.{Refused, TheVariants.Memory}
use Rattle.dap_normalise.specs.{Checking.Checks, Streaming.Streams}
use Rattle.dap_record.specs.TracingRun.{RecordsTrace}
use Rattle.dap_rename.specs.declared.mode.Mode.{Mode}
use Rattle.dap_show.specs.Viewing.{ShowsLists}
use Rattle.dapnorm.specs.{Answers.accepted_line, Lines.fault_line}
use Rattle.dapnorm.specs.Reporting.{Answered, HasSent, IsReported, IsSent, ResultIsReported}
use Rattle.dapnorm.specs.Reporting.{refused_status}

-- ---- the results of the command functions, and what was read if an allocation failed

module _ {R W : Type 0} (source : Source R) (sink : Sink W) (limits : Limits) where
  -- The result of `compact`. If an allocation failed, either nothing of the input was read, or all
  -- of it.
  pub record HasCompacted (old new : R) (before after : W) (outcome : Result (Unit {0}) Refused)
      : Type 0 where
    pub answers : Answers source sink limits.input (Compacts limits)
        (IsRefused (compacting limits)) old new before after outcome
    pub memory : IsErrOf outcome Memory → ReadsNoneOrAll source limits.input old new

  -- The result of `show`. If an allocation failed, either nothing of the input was read, or all of
  -- it.
  pub record HasShown (old new : R) (before after : W) (outcome : Result (Unit {0}) Refused)
      : Type 0 where
    pub answers : ShowsLists limits source sink old new before after outcome
    pub memory : IsErrOf outcome Memory → ReadsNoneOrAll source limits.input old new

  -- The result of `normalise`. If an allocation failed, the reader did not fail.
  pub record HasNormalised (mode : Mode) (old new : R) (before after : W)
      (outcome : Result (Unit {0}) Refused) : Type 0 where
    pub streams : Streams source sink limits mode old new before after outcome
    pub memory : IsErrOf outcome Memory → source.failures new ≡ source.failures old

-- ---- what is printed and reported

module _ {R W E : Type 0} (limits : Limits) (input : Read R) (output : Written W)
    (errors : Written E) (status : ℕ) where
  -- An engine ends with this result, and an error is reported.
  abbrev pub Ends : (R → R → W → W → Result (Unit {0}) Refused → Type 0) → Type 0
  Ends Leaves = Answered (Leaves input.old input.new output.old output.new)
      (IsReported errors.sink errors.old errors.new) status

  -- The job is done over the reader: what it prints, what it reports, and its status. A job over
  -- two inputs is not done.
  abbrev pub JobIsDone : Job → Type 0
  JobIsDone Job.Compact = Ends (HasCompacted input.source output.sink limits)
  JobIsDone Job.Record = Ends (RecordsTrace input.source output.sink limits)
  JobIsDone (Job.Normalise per_stop) =
      Ends (HasNormalised input.source output.sink limits (mode_for per_stop))
  JobIsDone (Job.Check complete per_stop) = ResultIsReported output.sink errors.sink accepted_line
      (λ _. 0) refused_text refused_status
      (Checks input.source limits (mode_for per_stop) complete input.old input.new) output.old
      output.new errors.old errors.new status
  JobIsDone Job.Show = Ends (HasShown input.source output.sink limits)
  JobIsDone (Job.Compare a b per_stop) = ⊥

module _ {W E : Type 0} (sink : Sink W) (errors : Sink E) where
  -- Help is written to the output, and the error of a user to the errors, as well as the line that
  -- an allocation failed.
  abbrev pub ReportsUsage : UsageFault → W → W → E → E → ℕ → Type 0
  ReportsUsage (UsageFault.Help text) before after old new status =
      IsSent sink before after (string_bytes text) 0 status × (new ≡ old)
  ReportsUsage (UsageFault.Usage text) before after old new status = (status ≡ 3)
      × HasSent errors old new (string_bytes text) × (after ≡ before)
  ReportsUsage UsageFault.Memory before after old new status = (status ≡ 5)
      × HasSent errors old new (fault_line (refused_text Memory ∷ [])) × (after ≡ before)

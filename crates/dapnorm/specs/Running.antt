-- What the program does for a command. Source: own.
use Rattle.std.specs.Prelude.{◌≡◌, ◌≢◌, ◌⊎◌, ℕ, List, [], Option, Some, None, Result, Ok, Err}
use Rattle.std.specs.Prelude.{string_bytes}
use Rattle.dap_commands.specs.declared.commands.{Command.Command, UsageFault.UsageFault}
use Rattle.dap_host.specs.declared.host.Stream.TheVariants.{Errors}
use Rattle.dap_input.specs.declared.refused.Refused.TheVariants.{Memory}
use Rattle.dap_profile.specs.RowLines.{lines_of}
use Rattle.dapnorm.specs.Answers.{answer_status, answer_stream, answer_text}
use Rattle.dapnorm.specs.{Checks.CheckIsRun, Comparisons.PairIsRun, Goldens.GoldenIsRun}
use Rattle.dapnorm.specs.Desks.{IsLeft, Place, empty}
use Rattle.dapnorm.specs.{Reasons.{why_line, why_status}, Reporting.{HasSent, IsPrinted}}
use Rattle.dapnorm.specs.{Streams.{StreamIsRun, input_name}, Suggestions.SuggestionIsRun}
use Rattle.dapnorm.specs.{WordOption.{AreAccepted, HasNoLines}, declared.answer.Answer.Answer}
use Rattle.dapnorm.specs.declared.{desk.Desk.Desk, rules.NoRules.TheVariants.Words}
use Rattle.dapnorm.specs.declared.running.Ended.{Ended}
use Rattle.dapnorm.specs.declared.why.{Mistake.TheVariants.NoRow, Why.Why}

-- The lines of the requested rows are found; or there are none; or an allocation failed, and there
-- are some.
abbrev pub FindsRows : Option (List ℕ) → Result (Option Answer) Why → Type 0
FindsRows number (Ok (Some (Answer.Rows lines))) = (lines_of number ≢ [])
    × (string_bytes lines ≡ lines_of number)
FindsRows number (Err (Why.Mistake NoRow)) = lines_of number ≡ []
FindsRows number (Err (Why.Input Memory)) = lines_of number ≢ []
FindsRows number outcome = ⊥

module _ {I O T : Type 0} (place : Place I O T) (desk : Desk I O T) where
  -- The command is done with these values of the option `--word`. The desk has the devices as they
  -- are then. Without an answer, the output is written already.
  abbrev pub IsDone : List (List ℕ) → Command → Result (Option Answer) Why → Type 0
  IsDone values (Command.Stream task input output) outcome =
      StreamIsRun place task values (input_name input) desk output outcome
  IsDone values (Command.Check complete mode input rules) outcome =
      CheckIsRun place desk complete mode (input_name input) rules values outcome
  IsDone values (Command.Pair printed a b rules mode) outcome =
      PairIsRun place printed mode a b desk rules values outcome
  IsDone values (Command.Suggest strict a b rules) outcome =
      SuggestionIsRun place strict a b rules values desk outcome
  IsDone values (Command.Golden golden) outcome =
      GoldenIsRun place golden values (input_name golden.input) desk outcome
  IsDone values (Command.Rows number) outcome = FindsRows number outcome

  -- The values of the option are rejected alone, before a file is opened.
  pub record RejectsWords (values : List (List ℕ)) (outcome : Result (Option Answer) Why) : Type 0
    where
      pub fault : UsageFault
      pub no_lines : HasNoLines values [] fault
      pub outcome_is : outcome ≡ Err (Why.Rules (Words fault))
      pub unopened : desk ≡ empty

  -- Or they are accepted alone, and the command is done.
  abbrev pub IsAnswered : List (List ℕ) → Command → Result (Option Answer) Why → Type 0
  IsAnswered values one outcome =
      RejectsWords values outcome ⊎ (AreAccepted values × IsDone values one outcome)

-- An answer is printed on standard output, or why there is none is reported on standard error. The
-- status is that of the answer, of a failed writer, or of the reason.
module _ {I O T : Type 0} (place : Place I O T) where
  abbrev pub IsFinished : Result (Option Answer) Why → Option O → Option O → O → O → ℕ → Type 0
  IsFinished (Ok None) before after old new status =
      (after ≡ before) × (new ≡ old) × (status ≡ 0)
  IsFinished (Ok (Some found)) before after old new status =
      IsLeft (place.files.streams (answer_stream found)) after (λ empty written.
      IsPrinted place.sink place.sink (answer_text found) (answer_status found) empty written old
      new status)
  IsFinished (Err reason) before after old new status =
      (after ≡ before) × HasSent place.sink old new (why_line reason) × (status ≡ why_status reason)

-- The command is done, and finished. Nothing else is written to standard error.
pub record IsRun {I O T : Type 0} (place : Place I O T) (values : List (List ℕ)) (one : Command)
    (run : Ended I O T) : Type 0 where
  pub desk : Desk I O T
  pub errors : O
  pub answered : IsAnswered place desk values one run.outcome
  pub opens : place.files.streams Errors errors
  pub finished : IsFinished place run.outcome desk.output run.desk.output errors run.errors
      run.status
  pub desk_is : run.desk ≡ record {
    a = desk.a;
    b = desk.b;
    output = run.desk.output;
    target = desk.target;
  }

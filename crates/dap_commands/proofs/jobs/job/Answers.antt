use Rattle.std.proofs.Common.{◌≡◌, Err, IfErr, None, Ok, Option, Result, Some, is_some, refl}
use Rattle.std.proofs.Common.{subst, sym, true}
use Rattle.std.specs.Prelude.{option_and_then}
use Rattle.std.specs.Result.{IsErrAnd}
use Rattle.clap.specs.Walk.{texts}
use Rattle.dap_commands.proofs.LeadingArguments.{first_decides}
use Rattle.dap_commands.specs.CommandLine.{job_of, program}
use Rattle.dap_commands.specs.Reading.{IsUsageErrorFor}
use Rattle.dap_commands.specs.declared.commands.Command.{Command}
use Rattle.dap_commands.proofs.jobs.job.Goals as goal

-- A property of the error of `?` holds for the error that the function returns.
passed_on : {T E : Type 0} (r : Result T E) {e : E} (P : E → Type 0) → IsErrAnd r (λ y. y ≡ e)
    → P e → IfErr r P
passed_on (Ok x) P is holds = tt
passed_on (Err y) P is holds = subst P (sym is) holds

is_command : (found : Option Command) → is_some (option_and_then job_of found) ≡ true
    → is_some found ≡ true
is_command None named = named
is_command (Some command) named = refl

pub returns-in_err-request-clause-err : goal.returns-in_err-request-clause-err
returns-in_err-request-clause-err c =
    passed_on c.from_residual.result _ c.from_residual.ensures.1
    (λ taken named. c.in_err-request.ensures.err taken (is_command _ named))

pub returns-clause-reported : goal.returns-clause-reported
returns-clause-reported c = c.no_subcommand.ensures _ c.in_ok-request.ensures.taken

pub returns-clause-first : goal.returns-clause-first
returns-clause-first c =
    first_decides program.subs (texts c.args.words.now)
    (λ kinds. IsUsageErrorFor kinds c.no_subcommand.result)
    (c.no_subcommand.ensures _ c.in_ok-request.ensures.taken)

use Rattle.std.proofs.Common.{Ok, ◌∙◌, ap, subst}
use Rattle.dap_commands.specs.Jobs.{job_mode}
use Rattle.dap_normalise.specs.Checking.{Checks}
use Rattle.dap_rename.specs.declared.mode.Mode.{Mode}
use Rattle.dapnorm.proofs.run_job.run_stream_with.Goals as goal

pub returns-in-Ok-clause-done : goal.returns-in-Ok-clause-done
returns-in-Ok-clause-done g c = rw (c.in-Check.is) (record {
  outcome = Ok c.in-Ok.checked;
  finds = subst (λ (mode : Mode). Checks g.R.Source c.args.limits mode c.in-Check.complete
      c.args.reader.now c.check_with.new.reader (Ok c.in-Ok.checked))
      (c.mode-in-Check.ensures ∙ ap job_mode c.in-Check.is) c.in-Ok.ensures.outcome;
  reports = c.print.ensures;
})

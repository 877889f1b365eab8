use Rattle.std.proofs.Common.{subst}
use Rattle.dap_commands.specs.Reading.{text_in}
use Rattle.dapnorm.specs.{Checks.CheckIsRun, Desks.here, Streams.input_name}
use Rattle.dapnorm.proofs.running.done.Goals as goal

pub returns-in-Check-clause-done : goal.returns-in-Check-clause-done
returns-in-Check-clause-done g c =
    let place = here (g.H.Host.files c.args.host.now) g.H.Input.Source g.H.Output.Sink
    g.H.Target.Replaceable in
    let asked = c.in-Check in
    let run = CheckIsRun place c.run_check.new.desk asked.complete asked.mode in
    let rules = text_in c.text_of-rules.result in
    rw (asked.is) (
    subst (λ one. run (input_name asked.input) one c.args.words.now c.run_check.result)
    c.text_of-rules.ensures
    (subst (λ name. run name rules c.args.words.now c.run_check.result)
    c.input_name-name.ensures c.run_check.ensures.run)
    )

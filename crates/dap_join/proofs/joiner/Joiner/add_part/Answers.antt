use Rattle.std.proofs.Common.{ap}
use Rattle.std.proofs.lemmas.Result.{on_ok_weaker}
use Rattle.dap_join.specs.Outputs.{Item, other, output}
use Rattle.dap_join.specs.JoiningSteps.{groups_shown, output_shown}
use Rattle.dap_normalise.specs.JudgingSteps.{payload_of}
use Rattle.dap_join.specs.declared.joiner.Joiner.{Joiner}
use Rattle.dap_join.proofs.JoiningFacts.{adds, starts_no_other, starts_no_output}
use Rattle.dap_join.proofs.Written.{writes_none}
use Rattle.dap_join.proofs.joiner.Joiner.add_part.Goals as goal

pub returns-in-Output : goal.returns-in-Output
returns-in-Output c =
    let item : Item = record {
      number = c.args.number;
      held = payload_of c.args.whole.now;
      part = output (output_shown c.in-Output.output);
    } in
    let old = c.args.self.now in
    let new : Joiner = record { groups = c.add_output.new.groups; writing = old.writing } in
    rw c.in-Output.is
    (on_ok_weaker c.add_output.result
    (λ grouped. adds c.args.limits c.args.joining old new item
    (starts_no_output c.args.joining (output_shown c.in-Output.output)) grouped
    (writes_none c.args.limits old.writing))
    c.add_output.ensures)

pub returns-in-Other : goal.returns-in-Other
returns-in-Other c =
    let item : Item = record {
      number = c.args.number;
      held = payload_of c.args.whole.now;
      part = other;
    } in
    rw c.in-Other.is
    (on_ok_weaker c.keep.result
    (adds c.args.limits c.args.joining c.args.self.now c.keep.new.self item
    (starts_no_other c.args.joining) (ap groups_shown c.keep.ensures.groups))
    c.keep.ensures.writes)

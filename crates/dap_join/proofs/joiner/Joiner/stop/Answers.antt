use Rattle.std.proofs.Common.{ap, refl}
use Rattle.std.proofs.lemmas.Result.{on_ok_weaker}
use Rattle.dap_join.specs.Outputs.{Item, stopped}
use Rattle.dap_join.specs.JoiningSteps.{groups_shown}
use Rattle.dap_normalise.specs.JudgingSteps.{payload_of}
use Rattle.dap_mask.specs.declared.joining.Joining.TheVariants.{Whole, PerStop}
use Rattle.dap_join.proofs.JoiningFacts.{adds, adds_start}
use Rattle.dap_join.proofs.joiner.Joiner.stop.Goals as goal

pub returns-in-Whole : goal.returns-in-Whole
returns-in-Whole c =
    let item : Item = record {
      number = c.args.number;
      held = payload_of c.args.whole.now;
      part = stopped;
    } in
    rw c.in-Whole.is
    (on_ok_weaker c.keep.result
    (adds c.args.limits Whole c.args.self.now c.keep.new.self item refl
    (ap groups_shown c.keep.ensures.groups))
    c.keep.ensures.writes)

pub returns-in_ok-end_segment-in-PerStop : goal.returns-in_ok-end_segment-in-PerStop
returns-in_ok-end_segment-in-PerStop c =
    let item : Item = record {
      number = c.args.number;
      held = payload_of c.args.whole.now;
      part = stopped;
    } in
    rw c.in-PerStop.is
    (on_ok_weaker c.keep-in-PerStop.result
    (adds_start c.args.limits PerStop c.args.self.now c.keep-in-PerStop.new.self item
    c.end_segment.new.self refl c.in_ok-end_segment-in-PerStop.ensures
    (ap groups_shown c.keep-in-PerStop.ensures.groups))
    c.keep-in-PerStop.ensures.writes)

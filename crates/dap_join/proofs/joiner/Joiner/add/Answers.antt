use Rattle.std.proofs.Common.{subst, sym}
use Rattle.std.proofs.lemmas.Result.{on_ok_weaker}
use Rattle.dap_join.specs.JoiningSteps.{part_shown}
use Rattle.dap_join.specs.Outputs.{IsPart}
use Rattle.dap_normalise.specs.JudgingSteps.{payload_of}
use Rattle.dap_join.proofs.joiner.Joiner.add.Goals as goal

pub returns : goal.returns
returns c =
    on_ok_weaker c.add_part.result
    (λ adds. record {
      part = part_shown c.part_if_read-part.result;
      is_part = subst (IsPart (payload_of c.args.whole.now)) (sym c.part_if_read-part.ensures)
          c.in_ok-tree.ensures;
      adds = adds;
    })
    c.add_part.ensures

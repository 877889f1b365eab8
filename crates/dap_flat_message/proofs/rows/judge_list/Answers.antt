use Rattle.std.proofs.Common.{◌∷◌, ◌+◌, sym, option_map}
use Rattle.std.proofs.lemmas.Result.{IfOk-weaker}
use Rattle.dap_profile.specs.PlaceSteps.{each}
use Rattle.dap_flat.specs.declared.node.Node.TheVariants as node
use Rattle.dap_flat_message.specs.Judging.{Judges, JudgesItems, part_steps}
use Rattle.dap_flat_message.proofs.Judged.{list_judged}
use Rattle.dap_flat_message.proofs.rows.judge_list.Goals as goal

pub returns : goal.returns
returns c =
    let ns = c.args.nodes.now in
    let at = c.args.at in
    let ps = part_steps (option_map (λ s. s.now) c.args.part) in
    IfOk-weaker c.judge_items.result (JudgesItems ns (at + 1) ps c.args.want c.args.needed)
    (Judges ns at (each ∷ ps) c.args.want c.args.needed)
    (λ found judged. list_judged ns at node.Null ps c.args.want c.args.needed found
    (sym c.if-not-is_list.ensures) judged)
    c.judge_items.ensures

use Rattle.std.proofs.Common.{◌∙◌}
use Rattle.dap_flat.specs.declared.node.Node.TheVariants as node
use Rattle.dap_flat_message.proofs.Judged.{value_judged}
use Rattle.dap_flat_message.proofs.rows.judge_value.Goals as goal

pub returns : goal.returns
returns c n d h =
    c.judge_node.ensures n
    ∙ value_judged c.args.nodes.now c.args.at node.Null c.args.want c.args.needed n d h

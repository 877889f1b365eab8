use Rattle.std.proofs.Common.{ap, refl, rules, ◌∙◌}
use Rattle.dap_flat.specs.declared.node.Node.TheVariants as node
use Rattle.dap_message.specs.Views.{reference_value}
use Rattle.dap_tree.specs.Doc.{id, whole}
use Rattle.dap_show.proofs.FlatElements.{leaf_member}
use Rattle.dap_show.proofs.flat_lines.reference_at.Goals as goal

pub returns-in-Negative : goal.returns-in-Negative
returns-in-Negative c = λ d h.
    ap reference_value (leaf_member c.args.nodes.now c.args.at c.in_ok-place.place
    c.args.name.now (node.Negative c.in-Negative.number) node.Null (whole c.in-Negative.number)
    c.in_ok-place.ensures.1 c.in-Negative.is refl d h) ∙ search rules

pub returns-in-Id : goal.returns-in-Id
returns-in-Id c = λ d h.
    ap reference_value (leaf_member c.args.nodes.now c.args.at c.in_ok-place.place
    c.args.name.now (node.Id c.in-Id.field-0 c.in-Id.number) node.Null
    (id c.in-Id.field-0 c.in-Id.number) c.in_ok-place.ensures.1 c.in-Id.is refl d h)
    ∙ search rules

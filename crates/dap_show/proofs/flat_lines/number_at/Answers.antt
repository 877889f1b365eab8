use Rattle.std.proofs.Common.{ap, pos, refl, rules, ◌∙◌}
use Rattle.dap_flat.specs.declared.node.Node.TheVariants as node
use Rattle.dap_message.specs.Views.{number_value}
use Rattle.dap_tree.specs.Doc.{id, whole}
use Rattle.dap_show.proofs.FlatElements.{leaf_member}
use Rattle.dap_show.proofs.flat_lines.number_at.Goals as goal

pub returns-in-Unsigned : goal.returns-in-Unsigned
returns-in-Unsigned c = λ d h.
    ap number_value (leaf_member c.args.nodes.now c.args.at c.in_ok-place.place c.args.name.now
    (node.Unsigned c.in-Unsigned.number) node.Null (whole (pos c.in-Unsigned.number))
    c.in_ok-place.ensures.1 c.in-Unsigned.is refl d h) ∙ search rules

pub returns-in-Negative : goal.returns-in-Negative
returns-in-Negative c = λ d h.
    ap number_value (leaf_member c.args.nodes.now c.args.at c.in_ok-place.place c.args.name.now
    (node.Negative c.in-Negative.number) node.Null (whole c.in-Negative.number)
    c.in_ok-place.ensures.1 c.in-Negative.is refl d h) ∙ search rules

pub returns-in-Id : goal.returns-in-Id
returns-in-Id c = λ d h.
    ap number_value (leaf_member c.args.nodes.now c.args.at c.in_ok-place.place c.args.name.now
    (node.Id c.in-Id.field-0 c.in-Id.number) node.Null (id c.in-Id.field-0 c.in-Id.number)
    c.in_ok-place.ensures.1 c.in-Id.is refl d h) ∙ search rules

use Rattle.std.proofs.Common.{ap, refl}
use Rattle.dap_flat.specs.declared.node.Node.TheVariants as node
use Rattle.dap_message.specs.Envelope.{text_value}
use Rattle.dap_tree.specs.Doc.{text}
use Rattle.dap_show.proofs.FlatElements.{leaf_member}
use Rattle.dap_show.proofs.flat_lines.text_at.Goals as goal

pub returns-in-Text : goal.returns-in-Text
returns-in-Text c = λ d h.
    ap text_value (leaf_member c.args.nodes.now c.args.at c.in_ok-place.place c.args.name.now
    (node.Text c.in-Text.text) node.Null (text c.in-Text.text.now) c.in_ok-place.ensures.1
    c.in-Text.is refl d h)

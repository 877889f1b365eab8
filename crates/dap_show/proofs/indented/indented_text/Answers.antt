use Rattle.std.proofs.Common.{◌++◌, ◌∙◌, ap}
use Rattle.std.proofs.lemmas.Bool.{leb-true}
use Rattle.dap_flat.specs.Pieces.{Represents}
use Rattle.dap_flat.specs.Writing.{tokens_of}
use Rattle.dap_tree.proofs.Booleans.{and_left, and_right}
use Rattle.dap_tree.specs.Doc.{all_in_range, depth, max_depth}
use Rattle.dap_tree.specs.View.{view}
use Rattle.std.specs.Prelude.{nat_le}
use Rattle.json.specs.Layout.{pretty}
use Rattle.dap_show.proofs.IndentedText.{pretty_indented}
use Rattle.dap_show.proofs.LeafLines.{all_appended}
use Rattle.dap_show.proofs.indented.indented_text.Goals as goal

pub nodes_of-requires : goal.nodes_of-requires
nodes_of-requires c =
    let d = view c.args.tree.now in
    and_right (nat_le (depth d) max_depth) (all_in_range d) c.requires

pub returns : goal.returns
returns c =
    let d = view c.args.tree.now in
    let shows = all_appended c.new-nodes.result.items c.nodes_of.new.nodes.items d
    c.new-nodes.ensures.items c.in_ok-nodes_of.ensures in
    let few = leb-true (depth d) max_depth
    (and_left (nat_le (depth d) max_depth) (all_in_range d) c.requires) in
    let ns = c.deref.result.now in
    c.into_inner.ensures.layout
    ∙ ap pretty (c.in_ok-push_nodes.ensures ∙ ap (λ ts. ts ++ tokens_of ns) c.new-out.ensures
    ∙ ap tokens_of c.deref.ensures.value)
    ∙ pretty_indented c.nodes_of.new.nodes.items d shows few

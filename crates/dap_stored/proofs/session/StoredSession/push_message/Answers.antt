use Rattle.std.proofs.Common.{◌≡◌, ◌++◌, ◌∙◌, List, [], ap, map, sym, subst, true}
use Rattle.dap_tree.specs.Doc.{Doc, all_in_range}
use Rattle.dap_flat.specs.declared.node.Node.{Node}
use Rattle.dap_flat.specs.Pieces.{Appends, Represents, piece_of, pieces}
use Rattle.dap_message.specs.Message.{doc_of, side_of}
use Rattle.dap_stored.proofs.Contents.{in_range_of_content}
use Rattle.dap_stored.proofs.session.StoredSession.push_message.Goals as goal

-- nodes that are appended to none represent the document
represented : (old new : List Node) (d e : Doc) → old ≡ [] → d ≡ e → Appends old new (pieces d)
    → Represents new e
represented old new d e none same f =
    ap (map piece_of) (f.added ∙ ap (λ ns. ns ++ f.more) none) ∙ f.shows ∙ ap pieces same

pub nodes_of-requires : goal.nodes_of-requires
nodes_of-requires c =
    let m = c.args.message.now in
    subst (λ d. all_in_range d ≡ true) (sym c.tree.ensures)
    (in_range_of_content (side_of m) c.requires.0 (doc_of m) c.requires.1)

pub add-requires-clause-nodes : goal.add-requires-clause-nodes
add-requires-clause-nodes c =
    let m = c.args.message.now in
    ∣ subst (λ ns. Represents ns (doc_of m)) (sym c.deref.ensures.value)
    (represented _ _ _ _ c.new-nodes.ensures.items c.tree.ensures c.in_ok-nodes_of.ensures) ∣₁

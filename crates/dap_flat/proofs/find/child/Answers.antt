use Rattle.std.proofs.Common.{◌+◌, sym, subst, Option, Some, None, ℕ, List, refl}
use Rattle.std.proofs.lemmas.Result.{IfOk-weaker}
use Rattle.dap_tree.specs.Doc.{Members, object, get, get_member, change_child, change_member}
use Rattle.dap_flat.specs.Finding.{Finds, FindsChild, FindsMember}
use Rattle.dap_flat.specs.Pieces.{pieces, members_pieces}
use Rattle.dap_flat.specs.declared.node.Node.{Node}
use Rattle.dap_flat.specs.declared.node.Node.TheVariants as node
use Rattle.dap_flat.proofs.Found.{object_inside, child_found}
use Rattle.dap_flat.proofs.find.child.Goals as goal

of_object : (ns : List Node) (at : ℕ) (k : List ℕ) (ms : Members) (found : Option ℕ)
    → Finds ns (at + 1) (members_pieces ms) (λ f. members_pieces (change_member k f ms)) found
    (get_member k ms)
    → Finds ns at (pieces (object ms)) (λ f. pieces (change_child k f (object ms))) found
    (get k (object ms))
of_object ns at k ms None h = h
of_object ns at k ms (Some i) h = child_found ns at i k ms h

pub returns-in-Object : goal.returns-in-Object
returns-in-Object c =
    let ns = c.args.nodes.now in
    let at = c.args.at in
    let k = c.args.name.now in
    IfOk-weaker c.member.result (FindsMember ns (at + 1) k) (FindsChild ns at k)
    (λ found h d holds.
    let inside = object_inside ns at d (node.Object c.in-Object.field-0) node.Null
    c.in-Object.field-0 holds c.in-Object.is refl in
    subst (λ e. Finds ns at (pieces e) (λ f. pieces (change_child k f e)) found (get k e))
    (sym inside.1) (of_object ns at k inside.0 found (h inside.0 inside.2))) c.member.ensures

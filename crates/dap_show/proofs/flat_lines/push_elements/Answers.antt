use Rattle.std.proofs.Common.{◌≡◌, ◌+◌, IfSome, ap, get_or, subst}
use Rattle.dap_flat.specs.Pieces.{piece_of}
use Rattle.dap_flat.specs.Placing.{size}
use Rattle.dap_flat.specs.declared.node.Node.TheVariants as node
use Rattle.dap_show.proofs.FlatElements.{all_left, element_passed, elements_ended, end_node}
use Rattle.dap_show.proofs.flat_lines.push_elements.Goals as goal

pub loop-p-init : goal.loop-p-init
loop-p-init c ds s = all_left c.args.kind c.args.nodes.now c.args.from c.args.out.now.items ds s

pub returns-in-EndList : goal.returns-in-EndList
returns-in-EndList c ds s =
    let p = c.loop-p.p in
    let there : get_or c.args.nodes.now p node.Null ≡ node.EndList = c.in-EndList.is in
    elements_ended c.args.kind c.args.nodes.now p node.Null c.args.out.now.items c.loop-p.out.items
    ds (c.loop-p.invariant ds s) (ap piece_of there)

pub loop-p-preserved : goal.loop-p-preserved
loop-p-preserved c ds s =
    let ns = c.args.nodes.now in
    let p = c.loop-p.p in
    let found = c.in_ok-end.ensures.ok_part in
    let width : c.in_ok-end.end ≡ p + size (piece_of (get_or ns p node.Null)) =
    subst (λ r. IfSome r (λ end. (x : _) → end ≡ p + size (piece_of (get_or ns p x)))) found
    c.value_end.ensures.size node.Null in
    element_passed c.args.kind ns p c.in_ok-end.end node.Null c.args.out.now.items
    c.loop-p.out.items c.push_element.new.out.items ds (c.loop-p.invariant ds s)
    (λ is_end. c.in_default.not-EndList (end_node (get_or ns p node.Null) is_end))
    c.loop-p-test.true width c.in_ok-push_element.ensures

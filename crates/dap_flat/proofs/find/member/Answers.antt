use Rattle.std.proofs.Common.{◌≡◌, ◌+◌, ◌<◌, ◌≤◌, IfSome, length, get_or, bytes_eq, true, false}
use Rattle.std.proofs.Common.{refl, sym, ◌∙◌, arith, subst}
use Rattle.dap_flat.specs.declared.node.Node.{Node}
use Rattle.dap_flat.specs.Pieces.{piece_of}
use Rattle.dap_flat.specs.Placing.{size}
use Rattle.dap_flat.specs.declared.node.Node.TheVariants as node
use Rattle.dap_flat.proofs.Found.{all_left, member_passed, member_found, none_left}
use Rattle.dap_flat.proofs.find.member.Goals as goal

pub loop-p-init : goal.loop-p-init
loop-p-init c = (λ ms h. all_left c.args.nodes.now c.args.from c.args.name.now ms h)

pub loop-p-preserved : goal.loop-p-preserved
loop-p-preserved c =
    let ns = c.args.nodes.now in
    let k = c.args.name.now in
    let s = c.in-Name.other.now in
    let p = c.loop-p.p in
    let there : get_or ns p node.Null ≡ node.Name c.in-Name.other = c.in-Name.is in
    let other : bytes_eq k s ≡ false = sym c.same_text.ensures ∙ c.if-same_text.false in
    let found = c.in_ok-p-in-Name.ensures.ok_part in
    let within : (p + 1 < c.in_ok-p-in-Name.p) × (c.in_ok-p-in-Name.p ≤ length ns) =
    subst (λ r. IfSome r (λ end. (p + 1 < end) × (end ≤ length ns))) found
    c.value_end.ensures.within in
    let width : c.in_ok-p-in-Name.p ≡ p + 1 + size (piece_of (get_or ns (p + 1) node.Null)) =
    subst (λ r. IfSome r (λ end. (x : Node) → end ≡ p + 1 + size (piece_of (get_or ns (p + 1) x))))
    found c.value_end.ensures.size node.Null in
    let some : p + 1 < length ns = omega (arith, within) in
    (λ ms h. member_passed ns c.args.from p c.in_ok-p-in-Name.p k s ms (node.Name c.in-Name.other)
    node.Null (c.loop-p.invariant ms h) there refl other some width)

pub returns-then-same_text : goal.returns-then-same_text
returns-then-same_text c =
    let ns = c.args.nodes.now in
    let k = c.args.name.now in
    let there : get_or ns c.loop-p.p node.Null ≡ node.Name c.in-Name.other = c.in-Name.is in
    let equal : bytes_eq k c.in-Name.other.now ≡ true =
    sym c.same_text.ensures ∙ c.if-same_text.true in
    (λ ms h. member_found ns c.args.from c.loop-p.p k c.in-Name.other.now ms
    (node.Name c.in-Name.other) node.Null (c.loop-p.invariant ms h) there refl equal)

pub returns-in-EndObject : goal.returns-in-EndObject
returns-in-EndObject c =
    let ns = c.args.nodes.now in
    let k = c.args.name.now in
    (λ ms h. let left = c.loop-p.invariant ms h in
    left.alike ∙ none_left ns c.loop-p.p k left.members node.EndObject node.Null left.holds
    c.in-EndObject.is refl)

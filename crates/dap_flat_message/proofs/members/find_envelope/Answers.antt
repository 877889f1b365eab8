use Rattle.std.proofs.Common.{◌≡◌, ◌+◌, ◌<◌, ◌≤◌, IfSome, length, get_or, refl, sym, arith, subst}
use Rattle.dap_flat.specs.declared.node.Node.{Node}
use Rattle.dap_flat.specs.Pieces.{piece_of}
use Rattle.dap_flat.specs.Placing.{size}
use Rattle.dap_flat.specs.declared.node.Node.TheVariants as node
use Rattle.dap_flat_message.proofs.Heads.{all_left, envelope_passed, envelope_ended, no_envelope}
use Rattle.dap_flat_message.proofs.members.find_envelope.Goals as goal

pub loop-p-init : goal.loop-p-init
loop-p-init c ms h = all_left c.args.nodes.now c.new-found.result ms c.new-found.ensures h

pub loop-p-preserved : goal.loop-p-preserved
loop-p-preserved c =
    let ns = c.args.nodes.now in
    let p = c.loop-p.p in
    let end = c.in_ok-p-in-Name.p in
    let there : get_or ns p node.Null ≡ node.Name c.in-Name.name = c.in-Name.is in
    let found = c.in_ok-p-in-Name.ensures.ok_part in
    let within : (p + 1 < end) × (end ≤ length ns) =
    subst (λ r. IfSome r (λ end. (p + 1 < end) × (end ≤ length ns))) found
    c.value_end.ensures.within in
    let width : end ≡ p + 1 + size (piece_of (get_or ns (p + 1) node.Null)) =
    subst (λ r. IfSome r (λ end. (x : Node) → end ≡ p + 1 + size (piece_of (get_or ns (p + 1) x))))
    found c.value_end.ensures.size node.Null in
    let some : p + 1 < length ns = omega (arith, within) in
    (λ ms h. envelope_passed ns p end c.in-Name.name.now ms (node.Name c.in-Name.name) node.Null
    c.loop-p.found c.noted-found.result (c.loop-p.invariant ms h) there refl some width
    c.noted-found.ensures)

pub returns-then-not-is_object : goal.returns-then-not-is_object
returns-then-not-is_object c d shows =
    no_envelope c.args.nodes.now node.Null c.new-found.result d (sym c.if-not-is_object.ensures)
    c.new-found.ensures shows

pub returns-in-EndObject : goal.returns-in-EndObject
returns-in-EndObject c d shows =
    envelope_ended c.args.nodes.now c.loop-p.p node.EndObject node.Null node.Null
    c.loop-p.found d c.loop-p.invariant (sym c.if-not-is_object.ensures) c.in-EndObject.is refl
    shows

use Rattle.std.proofs.Common.{◌≡◌, ◌+◌, ◌<◌, ◌≤◌, length, arith, true, sym, ap, ◌∙◌, Greater}
use Rattle.std.proofs.Common.{nat_cmp, refl}
use Rattle.std.specs.Cmp.Lexicographic.{slice_cmp}
use Rattle.std.specs.Ordering.{is_lt}
use Rattle.dap_flat.specs.declared.node.Node.TheVariants as node
use Rattle.dap_flat.proofs.Position.{none_between, goes_before, is_greatest, pass}
use Rattle.dap_flat.proofs.place.position.Goals as goal

pub loop-p-init : goal.loop-p-init
loop-p-init c = (omega arith, (λ ms e. none_between c.args.held.now c.args.name.now ms e))

pub loop-p-preserved : goal.loop-p-preserved
loop-p-preserved c =
    let held = c.args.held.now in
    let k = c.args.name.now in
    let s = c.in-Name.other.now in
    let there = c.in-Name.is in
    let cmp : slice_cmp nat_cmp k s ≡ Greater = sym c.name_order.ensures ∙ c.in-Greater.is in
    let end = c.in_ok-p.ensures in
    let within : c.loop-p.p < length held = omega (arith, end.within) in
    let more : c.loop-p.p + 1 < length held = omega (arith, end.within) in (
      end.within.1,
      (λ ms e. pass held k s c.loop-p.p c.in_ok-p.p ms (node.Name c.in-Name.other) node.Null
          (c.loop-p.invariant.1 ms e) within there refl cmp more (end.size node.Null)),
    )

pub returns-in-Less-clause-goes : goal.returns-in-Less-clause-goes
returns-in-Less-clause-goes c =
    let held = c.args.held.now in
    let k = c.args.name.now in
    let s = c.in-Name.other.now in
    let less : is_lt (slice_cmp nat_cmp k s) ≡ true = ap is_lt (sym c.name_order.ensures ∙ c.in-Less.is) in
    (λ ms d e. goes_before held k s c.loop-p.p ms d (node.Name c.in-Name.other) node.Null
    (c.loop-p.invariant.1 ms e) c.in-Name.is refl less)

pub returns-clause-goes : goal.returns-clause-goes
returns-clause-goes c =
    let held = c.args.held.now in
    let over : length held ≤ c.loop-p.p = omega arith in
    (λ ms d e. is_greatest held c.args.name.now c.loop-p.p ms d (c.loop-p.invariant.1 ms e) over)

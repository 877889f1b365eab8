use Rattle.std.proofs.Common.{◌≡◌, ◌-◌, IfSome, take, drop, ap, ◌∙◌, subst}
use Rattle.dap_flat.specs.Placing.{InsertsAt}
use Rattle.dap_flat.proofs.Position.{placed, slice_held}
use Rattle.dap_flat.proofs.place.insert_member.Goals as goal

pub returns : goal.returns
returns c before held more ms d is here there shown value =
    let k = c.args.name.now in
    let at : take (c.args.at - c.args.start) (drop c.args.start c.deref.result.now) ≡ held =
    ap (λ xs. take (c.args.at - c.args.start) (drop c.args.start xs)) (c.deref.ensures.value ∙ is)
    ∙ slice_held before held more c.args.start c.args.at here there in
    let goes : InsertsAt (take (c.args.at - c.args.start) (drop c.args.start c.deref.result.now)) k
    c.in_ok-p.p =
    subst (λ r. IfSome r (InsertsAt (take (c.args.at - c.args.start)
    (drop c.args.start c.deref.result.now)) k)) c.in_ok-p.ensures.ok_part c.position.ensures.goes in
    let there_goes = subst (λ xs. InsertsAt xs k c.in_ok-p.p) at goes in
    placed before held more c.args.nodes.now.items c.rotate.new.nodes.items k ms d c.args.start
    c.args.at c.in_ok-p.p is here there value (there_goes ms d shown) c.rotate.ensures

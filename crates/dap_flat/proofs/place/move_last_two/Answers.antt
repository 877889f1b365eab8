use Rattle.std.proofs.Common.{◌+◌, ◌∙◌, ap, set, get_or}
use Rattle.dap_flat.specs.declared.node.Node.TheVariants as node
use Rattle.dap_flat.proofs.Moving.{last_moved}
use Rattle.dap_flat.proofs.place.move_last_two.Goals as goal

pub returns : goal.returns
returns c =
    let ns = c.args.nodes.now in
    let mid = c.args.mid in
    ap (λ ys. set (set ys 0 (get_or ns mid node.Null)) 1 (get_or ns (mid + 1) node.Null))
    c.copy_within.ensures.after ∙ last_moved ns mid node.Null c.requires

use Rattle.std.proofs.Common.{◌-◌, ◌++◌, length, take, refl, ap₂, ◌∙◌}
use Rattle.dap_flat.proofs.Moving.{front_moved}
use Rattle.dap_flat.proofs.place.move_few.Goals as goal

pub returns : goal.returns
returns c =
    let ns = c.args.nodes.now in
    let mid = c.args.mid in
    c.put_last.ensures
    ∙ ap₂ (λ xs ys. take (length ns - mid) xs ++ ys) c.copy_within.ensures.after c.copied-few.ensures
    ∙ front_moved ns mid (length ns - mid) refl

use Rattle.std.proofs.Common.{◌++◌, ◌∙◌, ap, arith, refl}
use Rattle.dap_tree.specs.Doc.{text}
use Rattle.dap_show.specs.Showing.{in_quotes}
use Rattle.dap_show.proofs.leaves.push_text.Goals as goal

pub returns : goal.returns
returns c =
    let s = c.args.text.now in
    let quoted_is = c.in_ok-write_flat.ensures.text (text s) refl
    ∙ ap (λ t. t ++ in_quotes s) c.clear.ensures.items in
    let slice_is = c.as_slice.ensures.value ∙ quoted_is in
    grind (arith, slice_is)

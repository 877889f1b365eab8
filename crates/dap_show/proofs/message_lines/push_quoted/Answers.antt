use Rattle.std.proofs.Common.{◌++◌, ◌∙◌, ap, ap₂, refl}
use Rattle.dap_tree.specs.Doc.{text}
use Rattle.dap_show.specs.Showing.{in_quotes}
use Rattle.dap_show.proofs.message_lines.push_quoted.Goals as goal

pub returns : goal.returns
returns c =
    let s = c.args.text.now in
    let quoted_is = c.in_ok-write_flat.ensures.text (text s) refl
    ∙ ap (λ t. t ++ in_quotes s) c.new-quoted.ensures.items in
    let word_is = c.in_ok-extend_from_slice.ensures.items
    ∙ ap (λ t. c.args.out.now.items ++ t) c.as_bytes.ensures.value in
    c.in_ok-extend_from_slice-2.ensures.items
    ∙ ap₂ (λ a b. a ++ b) word_is (c.as_slice.ensures.value ∙ quoted_is)

use Rattle.std.proofs.Common.{◌++◌, ap, ap₂, ◌∙◌}
use Rattle.std.proofs.lemmas.Result.{on_ok_weaker}
use Rattle.json.specs.Print.{print}
use Rattle.dap_flat.specs.Writing.{tokens_of}
use Rattle.dap_flat.proofs.Spelling.{text_spelled}
use Rattle.dap_flat.proofs.write.write_flat.Goals as goal

pub returns-else-is_err-clause-text : goal.returns-else-is_err-clause-text
returns-else-is_err-clause-text c =
    let ns = c.args.nodes.now in
    let before = c.write_nodes-written.ensures.before ∙ c.new-writer.ensures.before
    ∙ ap (λ v. v.items) c.replace.ensures.value in
    on_ok_weaker c.write_nodes-written.result
    (λ ok d shows. c.into_inner.ensures.items
    ∙ ap₂ (λ xs ts. xs ++ print ts) before (ok
    ∙ ap (λ ts. ts ++ tokens_of ns) c.new-writer.ensures.tokens)
    ∙ ap (λ bs. c.args.out.now.items ++ bs) (text_spelled ns d shows))
    c.write_nodes-written.ensures.ok

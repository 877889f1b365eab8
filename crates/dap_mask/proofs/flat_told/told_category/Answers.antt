use Rattle.std.proofs.Common.{◌∙◌, ◌∷◌, [], codes, option_and_then, sym, ap}
use Rattle.std.proofs.lemmas.Result.{IfOk-weaker}
use Rattle.dap_tree.specs.Doc.{get}
use Rattle.dap_tree.specs.Path.{at, name}
use Rattle.dap_message.proofs.RowMarks.{one_step}
use Rattle.dap_message.specs.Envelope.{text_value}
use Rattle.dap_flat_message.specs.Heads.{text_in}
use Rattle.dap_mask.specs.FlatMasking.{IsTold, told_category}
use Rattle.dap_mask.proofs.FlatTold.{child_told, no_child_told}
use Rattle.dap_mask.proofs.flat_told.told_category.Goals as goal

pub returns-in-Some : goal.returns-in-Some
returns-in-Some c =
    let ns = c.args.nodes.now in
    let k = codes "category" in
    IfOk-weaker c.told_text.result
    (λ s. IsTold ns c.in-Some.place (λ e. text_value (get k e)) (text_in s))
    (λ s. IsTold ns 0 told_category (text_in s))
    (λ s told. child_told ns 0 c.in-Some.place (codes "body") c.in_ok-place.field-0
    (λ o. text_value (option_and_then (at (name k ∷ [])) o)) (text_in s) c.in_ok-place.ensures
    c.in-Some.is (λ e h. told e h ∙ ap text_value (sym (one_step k e))))
    c.told_text.ensures

pub returns-in-None : goal.returns-in-None
returns-in-None c =
    no_child_told c.args.nodes.now 0 (codes "body") c.in_ok-place.field-0
    (λ o. text_value (option_and_then (at (name (codes "category") ∷ [])) o))
    c.in_ok-place.ensures c.in-None.is

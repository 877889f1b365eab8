use Rattle.std.proofs.Common.{Some, codes}
use Rattle.std.proofs.lemmas.Result.{IfOk-weaker}
use Rattle.dap_tree.specs.Doc.{get}
use Rattle.dap_message.specs.Envelope.{text_value}
use Rattle.dap_flat_message.specs.Heads.{text_in}
use Rattle.dap_mask.specs.FlatMasking.{IsTold}
use Rattle.dap_mask.proofs.FlatTold.{child_told, no_child_told}
use Rattle.dap_naming.proofs.flat_rules.element_name.Goals as goal

pub returns-in-Some : goal.returns-in-Some
returns-in-Some c =
    let ns = c.args.nodes.now in
    let at = c.args.at in
    let k = codes "name" in
    IfOk-weaker c.text_at.result
    (λ s. IsTold ns c.in-Some.place (λ e. text_value (Some e)) (text_in s))
    (λ s. IsTold ns at (λ d. text_value (get k d)) (text_in s))
    (λ s told. child_told ns at c.in-Some.place k c.in_ok-place.field-0 text_value (text_in s)
    c.in_ok-place.ensures c.in-Some.is told)
    c.text_at.ensures

pub returns-in-None : goal.returns-in-None
returns-in-None c =
    no_child_told c.args.nodes.now c.args.at (codes "name") c.in_ok-place.field-0 text_value
    c.in_ok-place.ensures c.in-None.is

use Rattle.std.proofs.Common.{◌++◌, ◌∙◌, IfSome, ap, subst}
use Rattle.std.proofs.Math.Logic.{∥∥₁_elim}
use Rattle.std.proofs.Props.{props}
use Rattle.std.proofs.lemmas.Result.{on_ok_weaker}
use Rattle.dap_flat_message.proofs.Heads.{holds_whole}
use Rattle.dap_flat_message.specs.FlatMessages.{flat_doc}
use Rattle.dap_message.specs.Places.{elements}
use Rattle.dap_show.specs.FlatElements.{StartsElements}
use Rattle.dap_show.proofs.FlatElements.{all_listed, not_listed}
use Rattle.dap_show.proofs.flat_lines.push_listed.Goals as goal

pub returns-then-not-answers : goal.returns-then-not-answers
returns-then-not-answers c =
    not_listed c.args.kind (flat_doc c.args.message.now) c.names.result.0.now c.answers.result
    c.args.out.now.items c.names.ensures.command c.answers.ensures c.if-not-answers.true

pub returns : goal.returns
returns c =
    let d = flat_doc c.args.message.now in
    let ns = c.nodes-nodes.result.now in
    let array = c.names.result.1.now in
    let starts : StartsElements ns array c.in_ok-from.from =
    subst (λ r. IfSome r (StartsElements ns array)) c.in_ok-from.ensures.ok_part
    c.first_element.ensures in
    on_ok_weaker c.push_elements.result
    (λ appended. ∥∥₁_elim c.nodes-nodes.ensures (hlevel props)
    (λ shown.
    let there = starts d (holds_whole ns d shown) in
    appended there.0 there.2
    ∙ ap (λ t. c.args.out.now.items ++ t)
    (all_listed c.args.kind d c.names.result.0.now array c.answers.result (elements there.0)
    c.names.ensures.command c.names.ensures.array c.answers.ensures c.if-not-answers.false
    there.1)))
    c.push_elements.ensures

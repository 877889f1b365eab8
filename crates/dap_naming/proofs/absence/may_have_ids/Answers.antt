use Rattle.std.proofs.Common.{◌+◌, ◌<◌, ◌∷◌, length, drop, ap, sym, subst, ◌∙◌, arith}
use Rattle.std.proofs.lemmas.List.{drop_all}
use Rattle.dap_mask.specs.Declarations.{declarations_of}
use Rattle.dap_naming.proofs.Choosing.{drop_first}
use Rattle.dap_naming.proofs.NoIds.{FindNothing, found_step, nothing_found}
use Rattle.dap_naming.proofs.absence.may_have_ids.Goals as goal

pub loop-declaration-init : goal.loop-declaration-init
loop-declaration-init g c = λ all. all

pub loop-declaration-preserved : goal.loop-declaration-preserved
loop-declaration-preserved g c =
    let xs = c.args.declarations.now in
    let i = c.loop-declaration.declaration-index in
    let x = c.declaration-item.result in
    let lt : i < length xs = omega arith in
    λ all. c.loop-declaration.invariant
    (found_step c.args.content.now xs i x (g.M.AnyMessage.sent c.args.message.now).doc
    (drop_first xs i x lt ∙ ap (λ y. y ∷ drop (i + 1) xs) (sym c.declaration-item.is))
    (c.may_find.ensures c.if-may_find.false) all)

pub returns : goal.returns
returns g c =
    let xs = c.args.declarations.now in
    let i = c.loop-declaration.declaration-index in
    let content = c.args.content.now in
    let d = (g.M.AnyMessage.sent c.args.message.now).doc in
    λ none. nothing_found content (declarations_of xs) d c.requires.labels c.requires.content
    (c.loop-declaration.invariant
    (subst (λ ys. FindNothing content (declarations_of ys) d)
    (sym (drop_all i xs c.loop-declaration-test.false)) tt))

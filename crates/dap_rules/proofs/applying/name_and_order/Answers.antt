use Rattle.std.proofs.Common.{◌∙◌, sym, subst}
use Rattle.std.proofs.lemmas.Result.{IfErr-weaker, IfOk-weaker, err_from_is_err_and}
use Rattle.dap_mask.specs.KeptRules.{mask_of}
use Rattle.dap_rules.specs.Applying.{RefusesToName}
use Rattle.dap_rules.specs.NamedRecordings.{IsNamedTo}
use Rattle.dap_rules.proofs.Applied.{is_empty, some_are}
use Rattle.dap_rules.proofs.NamesApplied.{applies_named, applies_unordered, is_ordered}
use Rattle.dap_rules.proofs.NamesApplied.{refuses_masked, refuses_names, refuses_order}
use Rattle.dap_rules.proofs.applying.name_and_order.Goals as goal

pub returns-in_err-named-clause-err : goal.returns-in_err-named-clause-err
returns-in_err-named-clause-err c recording masks =
    let because =
    err_from_is_err_and c.from_residual.result c.from_residual.ensures.1 in
    let mask = mask_of c.args.rules.now in
    rw (because.1, because.2)
    (refuses_masked c.args.limits c.args.mode mask recording c.requires.declared
    c.args.masked.items masks _ (rw c.as_slice.ensures.value at c.in_err-named.ensures.err))

pub returns-then-is_empty-clause-ok : goal.returns-then-is_empty-clause-ok
returns-then-is_empty-clause-ok c recording masks =
    let mask = mask_of c.args.rules.now in
    applies_unordered c.args.limits c.args.mode mask recording c.requires.declared
    c.args.masked.items masks c.in_ok-named.named.items
    (subst (λ bytes. IsNamedTo c.args.limits mask.declared bytes c.in_ok-named.named.items)
    c.as_slice.ensures.value c.in_ok-named.ensures.ok) c.requires.limits
    c.args.rules.now.list.labelled
    (sym c.swaps-swaps.ensures
    ∙ is_empty c.swaps-swaps.result.now (sym c.is_empty.ensures ∙ c.if-is_empty.true))

pub returns-in_err-ordered-clause-err : goal.returns-in_err-ordered-clause-err
returns-in_err-ordered-clause-err c recording masks =
    let because = err_from_is_err_and c.from_residual-in_err-ordered.result
    c.from_residual-in_err-ordered.ensures.1 in
    let limits = c.args.limits in
    let mask = mask_of c.args.rules.now in
    rw (because.1, because.2)
    (refuses_order limits c.args.mode mask recording c.requires.declared c.args.masked.items masks
    c.in_ok-named.named.items
    (subst (λ bytes. IsNamedTo limits mask.declared bytes c.in_ok-named.named.items)
    c.as_slice.ensures.value c.in_ok-named.ensures.ok)
    (some_are c.swaps-swaps.result.now mask.swaps c.swaps-swaps.ensures
    (sym c.is_empty.ensures ∙ c.if-is_empty.false)) _
    (rw (c.swaps-swaps.ensures, c.as_slice-2.ensures.value) at c.in_err-ordered.ensures.err))

pub returns-clause-ok : goal.returns-clause-ok
returns-clause-ok c recording masks =
    let limits = c.args.limits in
    let mask = mask_of c.args.rules.now in
    let ordered = c.in_ok-ordered.ordered.items in
    IfOk-weaker c.name_bytes-2.result _ _
    (λ text is. applies_named limits c.args.mode mask recording c.requires.declared ordered
    (is_ordered limits c.args.mode mask recording c.requires.declared c.args.masked.items masks
    c.in_ok-named.named.items
    (subst (λ bytes. IsNamedTo limits mask.declared bytes c.in_ok-named.named.items)
    c.as_slice.ensures.value c.in_ok-named.ensures.ok)
    (some_are c.swaps-swaps.result.now mask.swaps c.swaps-swaps.ensures
    (sym c.is_empty.ensures ∙ c.if-is_empty.false)) c.in_ok-ordered.ordered.items
    (rw (c.swaps-swaps.ensures, c.as_slice-2.ensures.value) at c.in_ok-ordered.ensures.ok)) text.items
    (subst (λ bytes. IsNamedTo limits mask.declared bytes text.items) c.as_slice-3.ensures.value
    is)) c.name_bytes-2.ensures.ok

pub returns-clause-err : goal.returns-clause-err
returns-clause-err c recording masks =
    let limits = c.args.limits in
    let mask = mask_of c.args.rules.now in
    let ordered = c.in_ok-ordered.ordered.items in
    IfErr-weaker c.name_bytes-2.result _ _
    (λ refused is. refuses_names limits c.args.mode mask recording c.requires.declared ordered
    (is_ordered limits c.args.mode mask recording c.requires.declared c.args.masked.items masks
    c.in_ok-named.named.items
    (subst (λ bytes. IsNamedTo limits mask.declared bytes c.in_ok-named.named.items)
    c.as_slice.ensures.value c.in_ok-named.ensures.ok)
    (some_are c.swaps-swaps.result.now mask.swaps c.swaps-swaps.ensures
    (sym c.is_empty.ensures ∙ c.if-is_empty.false)) c.in_ok-ordered.ordered.items
    (rw (c.swaps-swaps.ensures, c.as_slice-2.ensures.value) at c.in_ok-ordered.ensures.ok)) refused
    (subst (λ bytes. RefusesToName limits mask.declared bytes refused) c.as_slice-3.ensures.value
    is)) c.name_bytes-2.ensures.err

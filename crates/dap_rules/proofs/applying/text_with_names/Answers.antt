use Rattle.std.proofs.Common.{sym, subst}
use Rattle.dap_mask.specs.KeptRules.{mask_of}
use Rattle.dap_rules.specs.Applying.{IsRefusedByRules}
use Rattle.dap_rules.proofs.NamesApplied.{refuses_mask}
use Rattle.dap_rules.proofs.applying.text_with_names.Goals as goal

pub returns-in-Ok-name_and_order-clause-ok : goal.returns-in-Ok-name_and_order-clause-ok
returns-in-Ok-name_and_order-clause-ok c =
    c.in-Ok-name_and_order.ensures.ok c.args.recording.now c.in-Ok.ensures.ok

pub returns-in-Err-clause-err : goal.returns-in-Err-clause-err
returns-in-Err-clause-err c =
    let mask = mask_of c.args.rules.now in
    subst (IsRefusedByRules c.args.limits c.args.mode mask c.args.recording.now)
    (sym c.mask_refusal.ensures)
    (refuses_mask c.args.limits c.args.mode mask c.args.recording.now c.in-Err.refused
    c.in-Err.ensures.err)

pub returns-in-Err-name_and_order-clause-err : goal.returns-in-Err-name_and_order-clause-err
returns-in-Err-name_and_order-clause-err c =
    let mask = mask_of c.args.rules.now in
    subst (IsRefusedByRules c.args.limits c.args.mode mask c.args.recording.now)
    (sym c.order_refusal.ensures)
    (c.in-Err-name_and_order.ensures.err c.args.recording.now c.in-Ok.ensures.ok)

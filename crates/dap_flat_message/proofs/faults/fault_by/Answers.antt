use Rattle.std.proofs.Common.{◌∙◌, ap, sym, Some}
use Rattle.dap_flat_message.specs.Judging.{reported}
use Rattle.dap_flat_message.proofs.faults.fault_by.Goals as goal

pub returns-in-Some-Missing : goal.returns-in-Some-Missing
returns-in-Some-Missing c d h =
    let n = c.args.row.now.number in
    ap (λ b. reported n (Some b)) (sym c.in-Some-Missing.field-0-is)
    ∙ ap (reported n) (sym c.in-Some-Missing.is) ∙ c.in_ok-broken_by.ensures n d h

pub returns-in-Some-WrongType : goal.returns-in-Some-WrongType
returns-in-Some-WrongType c d h =
    let n = c.args.row.now.number in
    ap (λ b. reported n (Some b)) (sym c.in-Some-WrongType.field-0-is)
    ∙ ap (reported n) (sym c.in-Some-WrongType.is) ∙ c.in_ok-broken_by.ensures n d h

pub returns-in-None : goal.returns-in-None
returns-in-None c d h =
    let n = c.args.row.now.number in
    ap (reported n) (sym c.in-None.is) ∙ c.in_ok-broken_by.ensures n d h

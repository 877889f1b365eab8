use Rattle.std.proofs.Common.{sym, ap, ◌∙◌, cond, Some, bytes_eq}
use Rattle.dap_naming.specs.Known.{number_at}
use Rattle.dap_naming.proofs.Knowing.{numbers_known, numbers_added, held_added, kept_added}
use Rattle.dap_naming.proofs.Knowing.{room_for_known, room_for_new, full_for_new}
use Rattle.dap_naming.proofs.Limits.{same_fault}
use Rattle.dap_naming.proofs.value_numbers.ValueNumbers.number.Goals as goal

pub returns-in-Some-clause-number : goal.returns-in-Some-clause-number
returns-in-Some-clause-number c =
    numbers_known c.args.self.now c.args.label.now c.args.value.now c.in-Some.number c.requires
    (c.in-Some.ensures ∙ ap (number_at c.args.self.now) c.in_ok-key.ensures)

pub returns-clause-number : goal.returns-clause-number
returns-clause-number c =
    let old = c.args.self.now in
    numbers_added old c.add.new.self c.args.label.now c.args.value.now c.in_ok-number.number
    c.requires (c.in_default.ensures ∙ ap (number_at old) c.in_ok-key.ensures)
    c.in_ok-number.ensures.next
    (λ k. c.in_ok-add.ensures.numbers k
    ∙ ap (λ q. cond (bytes_eq q k) (Some c.in_ok-number.number) (number_at old k))
    c.in_ok-key.ensures)
    c.in_ok-add.ensures.counts

pub returns-in-Some-clause-held : goal.returns-in-Some-clause-held
returns-in-Some-clause-held c =
    sym (c.in-Some.ensures ∙ ap (number_at c.args.self.now) c.in_ok-key.ensures)

pub returns-clause-held : goal.returns-clause-held
returns-clause-held c =
    ap (number_at c.add.new.self) (sym c.in_ok-key.ensures)
    ∙ held_added c.args.self.now c.add.new.self c.in_ok-key.key.items c.in_ok-number.number
    c.in_ok-add.ensures.numbers

pub returns-clause-keeps : goal.returns-clause-keeps
returns-clause-keeps c =
    kept_added c.args.self.now c.add.new.self c.in_ok-key.key.items c.in_ok-number.number
    c.in_default.ensures c.in_ok-add.ensures.numbers

pub returns-in-Some-clause-room : goal.returns-in-Some-clause-room
returns-in-Some-clause-room c =
    room_for_known c.args.self.now c.args.label.now c.args.value.now c.in-Some.number c.requires
    (c.in-Some.ensures ∙ ap (number_at c.args.self.now) c.in_ok-key.ensures)

pub returns-clause-room : goal.returns-clause-room
returns-clause-room c =
    room_for_new c.args.self.now c.args.label.now c.args.value.now c.requires
    c.in_ok-number.ensures.room

pub returns-in_err-number-clause-full : goal.returns-in_err-number-clause-full
returns-in_err-number-clause-full c =
    λ e. full_for_new c.args.self.now c.args.label.now c.args.value.now c.requires
    (c.in_default.ensures ∙ ap (number_at c.args.self.now) c.in_ok-key.ensures)
    (c.next.ensures.full (same_fault c.next.result c.from_residual-in_err-number.result
    c.in_err-number.field-0.0 c.in_err-number.was c.from_residual-in_err-number.ensures.1 e))

use Rattle.std.proofs.Common.{arith}
use Rattle.dap_flat.proofs.SplicedLengths.{own_parts, spliced_parts}
use Rattle.dap_flat.proofs.splicing.spliced_length.Goals as goal

pub returns-in_err-between : goal.returns-in_err-between
returns-in_err-between c = λ text long own.
    let parts = own_parts text c.args.marks.now own in
    let none = c.in_err-between.ensures in
    rw c.from_residual.ensures (omega (arith, parts, long, none))

pub returns-in_err-checked_sub : goal.returns-in_err-checked_sub
returns-in_err-checked_sub c = λ text long own.
    let parts = own_parts text c.args.marks.now own in
    let spliced = spliced_parts 0 text c.args.marks.now c.args.numbers.now in
    let rest = c.in_ok-between.ensures in
    let none = c.in_err-checked_sub.ensures in
    rw c.from_residual-in_err-checked_sub.ensures (omega (arith, parts, long, rest, spliced, none))

pub returns-in_err-left : goal.returns-in_err-left
returns-in_err-left c = λ text long own.
    let parts = own_parts text c.args.marks.now own in
    let spliced = spliced_parts 0 text c.args.marks.now c.args.numbers.now in
    let rest = c.in_ok-between.ensures in
    let within = c.in_ok-checked_sub.ensures in
    let none = c.in_err-left.ensures in
    rw c.from_residual-in_err-left.ensures
    (omega (arith, parts, long, rest, spliced, within, none))

pub returns : goal.returns
returns c = λ text long own.
    let parts = own_parts text c.args.marks.now own in
    let spliced = spliced_parts 0 text c.args.marks.now c.args.numbers.now in
    let rest = c.in_ok-between.ensures in
    let within = c.in_ok-checked_sub.ensures in
    let left = c.in_ok-left.ensures in (
      omega (arith, parts, long, rest, spliced, within, left),
      omega (arith, left),
    )

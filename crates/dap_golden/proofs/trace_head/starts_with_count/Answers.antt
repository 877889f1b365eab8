use Rattle.std.proofs.Common.{sym, subst, arith}
use Rattle.std.proofs.lemmas.Bool.{ltb-true}
use Rattle.std.proofs.lemmas.List.{take_rest}
use Rattle.dap_golden.specs.TraceHead.{IsLineEnd}
use Rattle.dap_golden.proofs.TraceHeads.{end_behind, some_counted, starts}
use Rattle.dap_golden.proofs.trace_head.starts_with_count.Goals as goal

pub returns-then-digits-gt0 : goal.returns-then-digits-gt0
returns-then-digits-gt0 c =
    let bytes = c.args.bytes.now in
    let count = c.digit_count-digits.result in
    let is = c.digit_count-digits.ensures.digits in
    let rest = take_rest bytes count in (
      (λ yes. starts bytes count is c.if-digits-gt0.true
          (subst IsLineEnd rest (c.is_line_end.ensures.0 yes))),
      (λ starts. c.is_line_end.ensures.1
          (subst IsLineEnd (sym rest) (end_behind bytes count is starts))),
    )

pub returns-else-digits-gt0 : goal.returns-else-digits-gt0
returns-else-digits-gt0 c =
    let bytes = c.args.bytes.now in
    let count = c.digit_count-digits.result in
    let is = c.digit_count-digits.ensures.digits in (
      (λ yes. absurd (let none = c.if-digits-gt0.false in
          let some = ltb-true 0 count yes in omega (arith, none, some))),
      (λ starts. absurd (let none = c.if-digits-gt0.false in
          let some = some_counted bytes count is starts in omega (arith, none, some))),
    )

use Rattle.std.proofs.Common.{arith}
use Rattle.dap_flat.proofs.DigitCounts.{one_digit, one_more_digit, few_digits}
use Rattle.dap_flat.proofs.digits.digit_count.Goals as goal

pub overflow_add-count : goal.overflow_add-count
overflow_add-count c =
    omega (arith, c.loop-rest.invariant.digits, few_digits c.args.number (omega arith))

pub loop-rest-preserved : goal.loop-rest-preserved
loop-rest-preserved c =
    let was = c.loop-rest.invariant in
    let more = one_more_digit c.loop-rest.rest c.loop-rest-test.true (omega arith) in record {
      within = omega (arith, was.within);
      digits = omega (arith, was.digits, more);
    }

pub returns-clause-count : goal.returns-clause-count
returns-clause-count c =
    omega (arith, c.loop-rest.invariant.digits, one_digit c.loop-rest.rest c.loop-rest-test.false)

pub returns-clause-few : goal.returns-clause-few
returns-clause-few c =
    omega (
      arith,
      c.loop-rest.invariant.digits,
      one_digit c.loop-rest.rest c.loop-rest-test.false,
      few_digits c.args.number (omega arith),
    )

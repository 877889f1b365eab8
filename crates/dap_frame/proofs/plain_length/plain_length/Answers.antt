use Rattle.std.proofs.Common.{◌≡◌, ◌+◌, ◌*◌, ◌<◌, ◌≤◌, true, length, drop, take, get_or, sym, subst}
use Rattle.std.proofs.Common.{arith, rules, codes}
use Rattle.std.proofs.lemmas.Bool.Decides.{Decides-eqb}
use Rattle.std.proofs.lemmas.List.{take_rest}
use Rattle.std.proofs.lemmas.Slice.Eq.{starts_is}
use Rattle.std.specs.Char.{is_ascii_digit}
use Rattle.dap_frame.proofs.PlainLengths.{AreDigitsOf, more_digits, plain_ended}
use Rattle.dap_frame.proofs.plain_length.plain_length.Goals as goal

pub returns-then-not-is_ascii_digit : goal.returns-then-not-is_ascii_digit
returns-then-not-is_ascii_digit c =
    let starts = rw (take_rest c.args.text.now c.loop-i.i) at c.starts_with.ensures.value in
    plain_ended c.args.text.now c.loop-i.i c.loop-i.number c.loop-i.invariant.digits c.args.limits
    c.requires (grind arith) c.loop-i.invariant.few (omega arith)
    ((starts_is Decides-eqb (drop c.loop-i.i c.args.text.now) (codes "\r\n\r\n")
    c.starts_with.result starts).0 c.if-not-starts_with.false)

pub loop-i-preserved : goal.loop-i-preserved
loop-i-preserved c =
    let few : c.loop-i.i ≤ 8 = grind (arith, c.loop-i.invariant.few) in
    let inside : c.loop-i.i < length c.args.text.now = omega arith in
    let digit : is_ascii_digit (get_or c.args.text.now c.loop-i.i 0) ≡ true = search rules in
    record {
      few = omega arith;
      digits = subst
          (λ n. AreDigitsOf (c.loop-i.number * 10 + n) (c.loop-i.i + 1)
          (take (c.loop-i.i + 1) c.args.text.now))
          (sym c.from.ensures)
          (more_digits c.args.text.now c.loop-i.i c.loop-i.number c.loop-i.invariant.digits inside
          few digit);
    }

use Rattle.std.proofs.Common.{◌≡◌, ◌+◌, ◌-◌, ◌*◌, ◌^◌, ◌≤◌, true, false, length, refl, arith, lit<}
use Rattle.std.proofs.Common.{rules}
use Rattle.std.proofs.Math.Nat.{pow-le-pow_right}
use Rattle.std.specs.Char.{is_ascii_digit}
use Rattle.dap_recording.proofs.TraceSteps.{more_digit}
use Rattle.dap_recording.proofs.count.take_byte.Goals as goal

pub returns : goal.returns
returns c = λ text was.
    let at : 10 ^ length text ≤ 10 ^ 9 =
    (let short : length text
    ≤ 9 = omega (arith, was.digits) in pow-le-pow_right (lit< tt) short) in
    let small = was.small in
    let number : c.saturating_add-number.result ≡ c.args.count.number * 10 + (c.args.byte - 48) =
    omega arith in
    let digit : is_ascii_digit c.args.byte ≡ true = search rules in
    let plain : c.args.count.is_zero ≡ false = search rules in
    more_digit c.args.count _ text c.args.byte was digit plain (omega arith) refl number
    c.is_first_zero.ensures.zero c.is_first_zero.ensures.other

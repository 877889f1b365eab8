use Rattle.std.proofs.Common.{◌≡◌, ◌++◌, ◌∷◌, [], refl, arith, ap, length, length-append}
use Rattle.std.specs.Prelude.{codes, decimal}
use Rattle.dap_normalise.proofs.messages.record_len.Goals as goal

pub returns-clause-len : goal.returns-clause-len
returns-clause-len c side content is =
    let digits = decimal (length content) in
    let end = codes "\r\n\r\n" in
    let four : length end ≡ 4 = refl in
    omega (
      arith,
      is,
      four,
      ap (λ n. length (decimal n)) is,
      c.digit_count.ensures.count,
      length-append ((digits ++ end) ++ content) (10 ∷ []),
      length-append (digits ++ end) content,
      length-append digits end,
    )

use Rattle.std.proofs.Common.{◌≡◌, false, Some, ap, drop, ◌∙◌}
use Rattle.dap_transcript.specs.Canonical.{string_rest}
use Rattle.json.specs.Print.{quoted}
use Rattle.dap_transcript.proofs.StringRests.{quoted_rest}
use Rattle.dap_transcript.proofs.ValueEnds.{divided}
use Rattle.dap_transcript.proofs.canonical.split_string.Goals as goal

pub returns-in_err-end-clause-string : goal.returns-in_err-end-clause-string
returns-in_err-end-clause-string c s more is =
    let rest : string_rest false (drop 1 c.args.text.now) ≡ Some more =
    ap (λ t. string_rest false (drop 1 t)) is ∙ quoted_rest s more in
    absurd (cc (c.in_err-end.ensures.rest, rest))

pub returns-clause-string : goal.returns-clause-string
returns-clause-string c s more is =
    let t = c.args.text.now in
    let end = c.in_ok-end.end in
    let rest : string_rest false (drop 1 t) ≡ Some more =
    ap (λ u. string_rest false (drop 1 u)) is ∙ quoted_rest s more in
    let left : drop end t ≡ more = cc (c.in_ok-end.ensures.rest, rest) in (
      c.split_at.ensures.front
          ∙ divided t (quoted s) more end is c.in_ok-end.ensures.within.1 left,
      c.split_at.ensures.back ∙ left,
    )

use Rattle.std.proofs.Common.{◌∙◌, ◌++◌, List, ℕ, ap, rules}
use Rattle.std.proofs.lemmas.Result.{on_ok_weaker}
use Rattle.dap_transcript.proofs.TextLines.{few_blanks}
use Rattle.dap_transcript.proofs.lines.push_margin.Goals as goal

pub returns-in-Some : goal.returns-in-Some
returns-in-Some c =
    let found = c.in-Some.ensures.lookup.0 in
    on_ok_weaker c.extend_from_slice.result
    (λ is. is ∙ ap (λ (t : List ℕ). c.args.out.now.items ++ t)
    (found.2 ∙ few_blanks c.args.len found.1))
    (search rules)

use Rattle.std.proofs.Common.{◌++◌, ◌∙◌, ap, sym, rules}
use Rattle.std.proofs.lemmas.Result.{on_ok_weaker}
use Rattle.dap_transcript.proofs.LowBytes.{low_bytes_escaped}
use Rattle.dap_transcript.proofs.scalars.push_escaped.Goals as goal

pub returns-then-are_low : goal.returns-then-are_low
returns-then-are_low c =
    let s = c.args.text.now in
    on_ok_weaker c.extend_from_slice.result
    (λ is. is ∙ ap (λ t. c.args.out.now.items ++ t)
    (sym (low_bytes_escaped s (sym c.are_low.ensures ∙ c.if-are_low.true))))
    (search rules)

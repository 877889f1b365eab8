use Rattle.std.proofs.Common.{sym, ◌∙◌}
use Rattle.dap_transcript.proofs.ValueEnds.{string_ends}
use Rattle.dap_transcript.proofs.canonical.value_end.Goals as goal

pub returns-then-opens_string-clause-value : goal.returns-then-opens_string-clause-value
returns-then-opens_string-clause-value c =
    string_ends c.args.text.now c.string_end.result c.string_end.ensures.rest
    (sym c.opens_string.ensures ∙ c.if-opens_string.true)

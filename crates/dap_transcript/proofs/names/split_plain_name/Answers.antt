use Rattle.std.proofs.Common.{◌∙◌, sym}
use Rattle.dap_transcript.proofs.CanonicalNames.{starts_with_plain}
use Rattle.dap_transcript.proofs.names.split_plain_name.Goals as goal

pub returns-then-is_plain_word-clause-plain : goal.returns-then-is_plain_word-clause-plain
returns-then-is_plain_word-clause-plain c =
    starts_with_plain c.args.text.now c.in_ok-inside.inside.now c.in_ok-name.name.now
    c.in_ok-name.end.now c.in_ok-colon.colon.now c.in_ok-value.value.now c.in_ok-inside.ensures
    c.in_ok-name.ensures.0 c.in_ok-colon.ensures c.in_ok-value.ensures c.in_ok-name.ensures.1
    (sym c.is_plain_word.ensures ∙ c.if-is_plain_word.true)

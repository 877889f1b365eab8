use Rattle.std.proofs.Common.{◌++◌, ◌∙◌, ap, sym, rules}
use Rattle.std.proofs.lemmas.Result.{on_ok_weaker}
use Rattle.dap_transcript.proofs.CanonicalNames.{plain_text, quoted_name}
use Rattle.dap_transcript.proofs.names.push_name.Goals as goal

pub returns-then-is_plain : goal.returns-then-is_plain
returns-then-is_plain c =
    on_ok_weaker c.extend_from_slice.result
    (λ is k own. is ∙ ap (λ t. c.args.out.now.items ++ t)
    (plain_text k c.without_quotes-inside.result.now (c.without_quotes-inside.ensures k own)
    (sym c.is_plain.ensures ∙ c.if-is_plain.true)))
    (search rules)

pub returns : goal.returns
returns c =
    on_ok_weaker c.push_escaped.result
    (λ is k own. is ∙ ap (λ t. c.args.out.now.items ++ t)
    (quoted_name k c.args.name.now c.without_quotes-inside.result.now own
    (c.without_quotes-inside.ensures k own) (sym c.is_plain.ensures ∙ c.if-is_plain.false)))
    c.push_escaped.ensures

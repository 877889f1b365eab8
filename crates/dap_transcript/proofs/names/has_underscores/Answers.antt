use Rattle.std.proofs.Common.{◌==◌, sym, ◌∙◌, ap}
use Rattle.std.specs.List.{list_all}
use Rattle.dap_transcript.proofs.PlainNames.{underscores}
use Rattle.dap_transcript.proofs.names.has_underscores.Goals as goal

pub returns-then-eq : goal.returns-then-eq
returns-then-eq c =
    underscores c.args.word.now c.args.name.now c.split_at.result.0.now c.are_underscores.result
    c.split_at.ensures.front (sym c.eq.ensures ∙ c.if-eq.true)
    (c.are_underscores.ensures ∙ ap (list_all (λ b. b == 95)) c.split_at.ensures.back)

use Rattle.std.proofs.Common.{◌∙◌, [], ap, codes, map, Bor}
use Rattle.std.proofs.lemmas.List.{take_all}
use Rattle.std.specs.Option.{unwrap_or}
use Rattle.clap.proofs.WalkLemmas.{raw_values-rows}
use Rattle.clap.specs.Words.{found_of}
use Rattle.dap_commands.proofs.reading.words_of.Goals as goal

pub returns-in_default : goal.returns-in_default
returns-in_default c =
    let none = ap (λ found. unwrap_or found [])
    (c.in_default.ensures ∙ raw_values-rows (found_of c.args.rows.now) (codes "word")) in
    cc

pub returns : goal.returns
returns c =
    c.loop-text.invariant
    ∙ ap (map (λ (text : Bor _). text.now))
    (take_all c.loop-text.text-index c.in-Some.texts.now c.loop-text-test.false)
    ∙ ap (λ found. unwrap_or found [])
    (c.in-Some.ensures ∙ raw_values-rows (found_of c.args.rows.now) (codes "word"))

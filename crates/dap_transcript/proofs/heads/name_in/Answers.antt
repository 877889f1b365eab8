use Rattle.std.proofs.Common.{[], ◌∷◌, ◌++◌, ◌∙◌, ap, append-nil, sym}
use Rattle.dap_tree.specs.{Doc.text, Json.text_of}
use Rattle.dap_transcript.proofs.Escapes.{simple_stays}
use Rattle.dap_transcript.proofs.heads.name_in.Goals as goal

pub returns : goal.returns
returns c s is =
    let split = c.in_ok-name.ensures.string s [] (is ∙ sym (append-nil (text_of (text s)))) in
    let same = simple_stays s split.2 in
    c.without_quotes.ensures s (split.0 ∙ ap (λ t. 34 ∷ (t ++ 34 ∷ [])) (sym same)) ∙ same

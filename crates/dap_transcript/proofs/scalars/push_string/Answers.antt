use Rattle.std.proofs.Common.{◌++◌, ◌∙◌, ap, refl}
use Rattle.std.proofs.lemmas.Result.{on_ok_weaker}
use Rattle.dap_tree.specs.{Doc.text, Json.text_of}
use Rattle.dap_transcript.specs.Scalars.{escaped}
use Rattle.dap_transcript.proofs.scalars.push_string.Goals as goal

pub returns : goal.returns
returns c =
    let s = c.args.text.now in
    let quoted_is = c.as_slice.ensures.value ∙ c.in_ok-write_flat.ensures.text (text s) refl
    ∙ ap (λ t. t ++ text_of (text s)) c.clear.ensures.items in
    on_ok_weaker c.push_escaped.result
    (λ is. is ∙ ap (λ t. c.args.out.now.items ++ escaped t) quoted_is)
    c.push_escaped.ensures

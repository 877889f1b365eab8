use Rattle.std.proofs.Common.{◌∙◌, Some, ap, sym}
use Rattle.dap_tree.specs.Doc.{get}
use Rattle.dap_mask.specs.Index.{asks_for}
use Rattle.dap_mask.proofs.Indexed.{text_asked}
use Rattle.dap_mask.proofs.flat_told.has_text.Goals as goal

pub returns : goal.returns
returns c d h =
    c.asks_for.ensures ∙ ap (asks_for (Some c.args.word.now)) (c.in_ok-text.ensures d h)
    ∙ sym (text_asked c.args.word.now (get c.args.name.now d))

use Rattle.std.proofs.Common.{ap, ◌∙◌}
use Rattle.dap_flat.specs.Ids.{numbered}
use Rattle.dap_flat.proofs.IdPieces.{all_numbered}
use Rattle.dap_flat.proofs.ids.replace_ids.Goals as goal

pub returns : goal.returns
returns c d shows =
    c.number_ids.ensures ∙ ap (λ ps. numbered ps c.args.numbers.now) shows
    ∙ all_numbered d c.args.numbers.now

use Rattle.std.proofs.Common.{◌∙◌, ap, sym}
use Rattle.dap_flat_message.specs.Heads.{text_in}
use Rattle.dap_mask.proofs.FlatTold.{kind_told, no_kind_told}
use Rattle.dap_mask.proofs.flat_told.told_kind.Goals as goal

pub returns-in-Some : goal.returns-in-Some
returns-in-Some c d h =
    c.named.ensures
    ∙ kind_told c.in-Some.word.now d
    (ap text_in (sym c.in-Some.is) ∙ c.in_ok-word.ensures d h)

pub returns-in-None : goal.returns-in-None
returns-in-None c d h =
    no_kind_told d (ap text_in (sym c.in-None.is) ∙ c.in_ok-word.ensures d h)

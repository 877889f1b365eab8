use Rattle.std.proofs.Common.{◌∙◌, sym, subst}
use Rattle.dap_flat.specs.Pieces.{pieces}
use Rattle.dap_flat_message.proofs.Replacing.{same_again}
use Rattle.dap_flat_message.specs.Marking.{Replaced}
use Rattle.dap_mask.specs.KeptRules.{changes_of}
use Rattle.dap_mask.proofs.Indexed.{masked_untold}
use Rattle.dap_mask.proofs.flat_masking.mask_flat.Goals as goal

pub mask_told-requires : goal.mask_told-requires
mask_told-requires c d h = sym c.in-Some.is ∙ c.in_ok-kind.ensures d h

pub returns-in-None : goal.returns-in-None
returns-in-None c d h =
    let ns = c.args.nodes.now in
    let told = sym (c.in_ok-kind.ensures d h) ∙ c.in-None.is in
    subst (λ e. Replaced ns ns 0 (pieces d) (pieces e))
    (sym (masked_untold (changes_of c.args.rules.now) d told)) (same_again ns 0 (pieces d) h)

use Rattle.std.proofs.Common.{sym}
use Rattle.dap_tree.specs.View.{view}
use Rattle.dap_mask.specs.KeptRules.{changes_of}
use Rattle.dap_mask.proofs.Indexed.{masked_untold}
use Rattle.dap_mask.proofs.masking.mask_all.Goals as goal

pub returns-in-None : goal.returns-in-None
returns-in-None c =
    sym (masked_untold (changes_of c.args.rules.now) (view c.args.tree.now) (sym c.in-None.ensures))

use Rattle.std.proofs.Common.{◌∙◌}
use Rattle.dap_tree.specs.View.{view}
use Rattle.dap_tree.proofs.Depths.{fits_is}
use Rattle.dap_tree.proofs.tree.Tree.sound.Goals as goal

pub returns : goal.returns
returns c = c.fits.ensures ∙ fits_is 127 (view c.args.self.now)

use Rattle.std.proofs.Common.{rules}
use Rattle.dap_tree.proofs.Views.{view-Object}
use Rattle.dap_tree.specs.declared.tree.Tree.{the_lemmas}
use Rattle.dap_mask.proofs.filling.set_default.Goals as goal

pub returns-in_ok-default_member : goal.returns-in_ok-default_member
returns-in_ok-default_member c = search (rules, the_lemmas, view-Object)

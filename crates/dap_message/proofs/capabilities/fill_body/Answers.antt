use Rattle.dap_tree.specs.declared.tree.Tree.{the_lemmas}
use Rattle.dap_tree.proofs.Views.{view-Object}
use Rattle.std.proofs.Common.{rules}
use Rattle.dap_message.proofs.capabilities.fill_body.Goals as goal

pub returns-in_ok-set_false-in-Object : goal.returns-in_ok-set_false-in-Object
returns-in_ok-set_false-in-Object c = search (rules, the_lemmas, view-Object)

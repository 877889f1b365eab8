use Rattle.std.proofs.Common.{Some, map, filter_map, ◌∙◌, ap}
use Rattle.dap_tree.specs.View.{view}
use Rattle.dap_message.specs.Views.{scope_of}
use Rattle.dap_message.proofs.ListedElements.{each_shown}
use Rattle.dap_message.proofs.message.Message.scopes.Goals as goal

pub returns-clause-every : goal.returns-clause-every
returns-clause-every c =
    ap (map Some) (c.new.ensures ∙ ap (filter_map scope_of) c.listed.ensures)
    ∙ (each_shown (view c.args.self.now.tree) c.args.self.now.shown).1

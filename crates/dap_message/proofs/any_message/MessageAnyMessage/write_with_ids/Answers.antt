use Rattle.std.proofs.Common.{◌∙◌, ap, sym}
use Rattle.dap_tree.specs.Ids.{id_count}
use Rattle.dap_tree.specs.View.{view}
use Rattle.dap_tree.proofs.IdNumbers.{count_ids}
use Rattle.dap_message.proofs.any_message.MessageAnyMessage.write_with_ids.Goals as goal

pub replace_ids-requires-clause-one_each : goal.replace_ids-requires-clause-one_each
replace_ids-requires-clause-one_each c =
    c.requires ∙ count_ids (view c.args.self.tree) ∙ ap id_count (sym c.into_tree-tree.ensures.doc)

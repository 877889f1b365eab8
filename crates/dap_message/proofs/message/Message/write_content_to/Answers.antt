use Rattle.dap_tree.specs.View.{view}
use Rattle.dap_message.proofs.Contents.{typed_back, renumbered_back}
use Rattle.dap_message.proofs.message.Message.write_content_to.Goals as goal

pub returns-in-Ok-clause-typed_again : goal.returns-in-Ok-clause-typed_again
returns-in-Ok-clause-typed_again c =
    typed_back c.args.self.now.side (view c.args.self.now.tree) _ c.in-Ok.ensures.reads_back

pub returns-in-Ok-clause-renumbered_again : goal.returns-in-Ok-clause-renumbered_again
returns-in-Ok-clause-renumbered_again c =
    renumbered_back c.args.self.now.side (view c.args.self.now.tree) _ c.in-Ok.ensures.reads_back

use Rattle.dap_tree.specs.View.{view}
use Rattle.dap_mask.proofs.Loosening.{read_loose}
use Rattle.dap_mask.proofs.loose.read_loosely.Goals as goal

pub returns-in-Ok-clause-ok : goal.returns-in-Ok-clause-ok
returns-in-Ok-clause-ok c = read_loose c.args.content.now (view c.in-Ok.tree) c.in-Ok.ensures.ok

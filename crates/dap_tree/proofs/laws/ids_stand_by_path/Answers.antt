use Rattle.dap_tree.proofs.IdPaths.{ids_by_path}
use Rattle.dap_tree.proofs.laws.ids_stand_by_path.Goals as goal

pub returns : goal.returns
returns c = ids_by_path

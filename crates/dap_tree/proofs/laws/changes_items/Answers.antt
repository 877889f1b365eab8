use Rattle.dap_tree.proofs.Paths.{item-change, get-change_items}
use Rattle.dap_tree.proofs.laws.changes_items.Goals as goal

pub returns : goal.returns
returns c = record { items = item-change; members = get-change_items }

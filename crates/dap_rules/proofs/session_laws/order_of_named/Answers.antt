use Rattle.dap_rules.proofs.NamedOrder.{order_of_named}
use Rattle.dap_rules.proofs.NamedOrdered.{names_after_order, order_of_same_declared}
use Rattle.dap_rules.proofs.session_laws.order_of_named.Goals as goal

pub returns : goal.returns
returns c = record {
  order = order_of_named;
  names = names_after_order;
  same = order_of_same_declared;
}

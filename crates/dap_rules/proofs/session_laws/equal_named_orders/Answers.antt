use Rattle.dap_rules.proofs.NamedOrdered.{equal_named_orders, one_named_normal_form}
use Rattle.dap_rules.proofs.session_laws.equal_named_orders.Goals as goal

pub returns : goal.returns
returns c = record {
  equal = equal_named_orders;
  normal = one_named_normal_form;
}

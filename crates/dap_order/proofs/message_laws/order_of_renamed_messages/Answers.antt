use Rattle.dap_session.specs.Laws.{Renames}
use Rattle.dap_order.proofs.RenamedOrder.{ordered_renamed}
use Rattle.dap_order.proofs.SameButOrder.{orders_renamed, same_from_orders}
use Rattle.dap_order.proofs.SameMessages.{same_orders, from_same_orders}
use Rattle.dap_order.proofs.SameMessages.{one_normal_form, same_from_normal_form}
use Rattle.dap_order.proofs.message_laws.order_of_renamed_messages.Goals as goal

pub returns-clause-order : goal.returns-clause-order
returns-clause-order c = λ rules pairs ms ns one is keeps h.
    ordered_renamed (Renames pairs) one rules ms ns is keeps h

pub returns-clause-same : goal.returns-clause-same
returns-clause-same c = λ rules pairs ms ns one is keeps. (
  orders_renamed (Renames pairs) one rules ms ns is keeps,
  same_from_orders (Renames pairs) one rules ms ns is,
)

pub returns-clause-whole : goal.returns-clause-whole
returns-clause-whole c = λ rules ms ns is keeps. (
  same_orders rules ms ns is keeps,
  from_same_orders rules ms ns is,
)

pub returns-clause-normal : goal.returns-clause-normal
returns-clause-normal c = λ rules ms ns n k is keeps p q. (
  one_normal_form rules ms ns n k is keeps p q,
  same_from_normal_form rules ms ns n k is p q,
)

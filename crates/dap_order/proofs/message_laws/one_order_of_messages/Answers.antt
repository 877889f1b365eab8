use Rattle.dap_order.proofs.Labels.{order_by_label_ordered, one_ordered_by_label}
use Rattle.dap_order.specs.MessageOrder.{message_labels, ordered}
use Rattle.dap_order.proofs.MessageOrder.{are_message_labels, to_ordered, one_ordered}
use Rattle.dap_order.proofs.MessageOrder.{from_ordered, ordered_keeps, keeps_ordered}
use Rattle.dap_order.proofs.FirstAndParts.{order_begins, unnamed_parts, ordered_again}
use Rattle.dap_order.proofs.message_laws.one_order_of_messages.Goals as goal

pub returns-clause-reached : goal.returns-clause-reached
unfolding ordered
returns-clause-reached c = λ rules ms. (
  to_ordered rules ms,
  order_by_label_ordered (message_labels rules) (are_message_labels rules) ms,
)

pub returns-clause-one : goal.returns-clause-one
returns-clause-one c = λ rules ms ns. (one_ordered rules ms ns, from_ordered rules ms ns)

pub returns-clause-only : goal.returns-clause-only
returns-clause-only c = λ rules.
    one_ordered_by_label (message_labels rules) (are_message_labels rules)

pub returns-clause-kept : goal.returns-clause-kept
returns-clause-kept c = λ rules ms. (ordered_keeps rules ms, keeps_ordered rules ms)

pub returns-clause-again : goal.returns-clause-again
returns-clause-again c = ordered_again

pub returns-clause-parts : goal.returns-clause-parts
returns-clause-parts c = unnamed_parts

pub returns-clause-begins : goal.returns-clause-begins
returns-clause-begins c = order_begins

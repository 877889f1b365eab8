use Rattle.dap_rules.proofs.OrderedTexts.{ordered_is_accepted}
use Rattle.dap_rules.proofs.OrderedTexts.{ordered_keeps_open, ordered_stands_still}
use Rattle.dap_rules.proofs.order_laws.ordered_text.Goals as goal

pub returns-clause-accepted : goal.returns-clause-accepted
returns-clause-accepted c = ordered_is_accepted

pub returns-clause-open : goal.returns-clause-open
returns-clause-open c = ordered_keeps_open

pub returns-clause-still : goal.returns-clause-still
returns-clause-still c = ordered_stands_still

use Rattle.dap_session.proofs.RulesOneByOne.{none_keep, keeps_one_more, keeps_front}
use Rattle.dap_session.proofs.RulesOneByOne.{keeps_or_breaks}
use Rattle.dap_session.proofs.laws.rules_one_by_one.Goals as goal

pub returns-clause-none : goal.returns-clause-none
returns-clause-none c = none_keep

pub returns-clause-one_more : goal.returns-clause-one_more
returns-clause-one_more c = keeps_one_more

pub returns-clause-front : goal.returns-clause-front
returns-clause-front c = keeps_front

pub returns-clause-decided : goal.returns-clause-decided
returns-clause-decided c = keeps_or_breaks

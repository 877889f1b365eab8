use Rattle.dap_session.proofs.Positions.{by_position, first_by_position}
use Rattle.dap_session.proofs.laws.rules_by_position.Goals as goal

pub returns-clause-each : goal.returns-clause-each
returns-clause-each c = by_position

pub returns-clause-first : goal.returns-clause-first
returns-clause-first c = first_by_position

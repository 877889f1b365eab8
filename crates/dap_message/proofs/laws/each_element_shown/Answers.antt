use Rattle.dap_message.proofs.ListedElements.{content_shows, shows_all-alike, each_shown}
use Rattle.dap_message.proofs.laws.each_element_shown.Goals as goal

pub returns-clause-content : goal.returns-clause-content
returns-clause-content c = content_shows

pub returns-clause-renumbered : goal.returns-clause-renumbered
returns-clause-renumbered c = shows_all-alike

pub returns-clause-each : goal.returns-clause-each
returns-clause-each c = each_shown

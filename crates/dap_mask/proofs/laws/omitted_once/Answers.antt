use Rattle.dap_mask.proofs.OmittedKeeps.{filled_redacted, redacted_stays_in, equal_outside}
use Rattle.dap_mask.proofs.OmittedKeeps.{ordered_omitted, sound_omitted, utf8_omitted}
use Rattle.dap_mask.proofs.OmittedOnce.{redacted_once, omitted_in_any_order}
use Rattle.dap_mask.proofs.laws.omitted_once.Goals as goal

pub returns-clause-filled : goal.returns-clause-filled
returns-clause-filled c = filled_redacted

pub returns-clause-stays : goal.returns-clause-stays
returns-clause-stays c = redacted_stays_in

pub returns-clause-equal : goal.returns-clause-equal
returns-clause-equal c = equal_outside

pub returns-clause-ordered : goal.returns-clause-ordered
returns-clause-ordered c = ordered_omitted

pub returns-clause-sound : goal.returns-clause-sound
returns-clause-sound c = sound_omitted

pub returns-clause-utf8 : goal.returns-clause-utf8
returns-clause-utf8 c = utf8_omitted

pub returns-clause-redacted : goal.returns-clause-redacted
returns-clause-redacted c = redacted_once

pub returns-clause-any_order : goal.returns-clause-any_order
returns-clause-any_order c = omitted_in_any_order

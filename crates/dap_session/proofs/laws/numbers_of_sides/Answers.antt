use Rattle.dap_session.proofs.RenamedMessages.{renamed_numbered}
use Rattle.dap_session.proofs.SequenceNumbers.{typed_numbered}
use Rattle.dap_session.proofs.laws.numbers_of_sides.Goals as goal

pub returns-clause-typed : goal.returns-clause-typed
returns-clause-typed c = typed_numbered

pub returns-clause-renamed : goal.returns-clause-renamed
returns-clause-renamed c = renamed_numbered

use Rattle.dap_stored.specs.Sessions.{messages_of}
use Rattle.dap_normalise.specs.NormalSteps.{remaining}
use Rattle.dap_normalise.proofs.StoredInput.{HasStored}
use Rattle.dap_normalise.proofs.sessions.store_records.Given as goal

abbrev pub invariant-loop-session : goal.invariant-loop-session
invariant-loop-session g l =
    HasStored g.T.NameTable.numbers g.T.NameTable.limit g.R.Source l.fn.limits l.fn.mode
    l.fn.reader l.reader l.records (messages_of l.session)

abbrev pub decreases-loop-session : goal.decreases-loop-session
decreases-loop-session g l = remaining l.records

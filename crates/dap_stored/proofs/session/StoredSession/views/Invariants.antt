use Rattle.std.proofs.Common.{◌≡◌, take, map}
use Rattle.dap_stored.specs.Heads.{message_at}
use Rattle.dap_stored.specs.Sessions.{stored_sent}
use Rattle.dap_stored.proofs.session.StoredSession.views.Given as goal

-- the views so far represent the messages of the first heads
abbrev pub invariant-loop-head : goal.invariant-loop-head
invariant-loop-head l =
    map stored_sent l.views.items
    ≡ map (message_at l.self.parts) (take l.head-index l.head-items)

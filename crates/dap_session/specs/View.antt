-- The model of `Requests`.
use Rattle.std.specs.Prelude.{◌≡◌}
use Rattle.dap_session.specs.declared.requests.Requests.TheInside.{Inside}
use Rattle.dap_session.specs.SessionState.{Requests, unanswered}
use Rattle.dap_session.specs.Stored.{stored}

-- The requests that are stored.
abbrev pub listed : Inside → Requests
listed a = stored a.store

-- The counter is the number of requests that have no response.
abbrev pub IsCounted : Inside → Type 0
IsCounted a = a.open ≡ unanswered (listed a)

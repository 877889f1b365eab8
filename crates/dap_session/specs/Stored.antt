-- The requests that a `Store` contains.
use Rattle.std.specs.Prelude.{ℤ, List, Option, option_map, map}
use Rattle.std.specs.Rc.{rc_str_bytes}
use Rattle.dap_session.specs.declared.store.Request.{Request}
use Rattle.dap_session.specs.declared.store.Store.{Store}
use Rattle.dap_session.specs.SessionState.{Requests, RequestEntry, Others}

-- The command of a request, and whether it is answered.
abbrev pub noted_of : Request → RequestEntry
noted_of r = (rc_str_bytes r.command, r.answered)

-- The same with the number of the request.
abbrev pub entry_of : ℤ × Request → ℤ × RequestEntry
entry_of e = (e.0, noted_of e.1)

abbrev pub entries_of : List (ℤ × Request) → Others
entries_of es = map entry_of es

abbrev pub slots_of : List (Option Request) → List (Option RequestEntry)
slots_of ss = map (λ s. option_map noted_of s) ss

abbrev pub stored : Store → Requests
stored s = record {
  first = s.first;
  slots = slots_of s.slots.items;
  others = entries_of s.others.entries;
}

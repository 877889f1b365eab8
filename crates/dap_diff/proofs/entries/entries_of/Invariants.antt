use Rattle.std.proofs.Common.{take}
use Rattle.dap_stored.specs.Sessions.{messages_of, stored_sent}
use Rattle.dap_diff.proofs.EntryLists.{AreUpTo}
use Rattle.dap_diff.proofs.entries.entries_of.Given as goal

abbrev pub invariant-loop-place : goal.invariant-loop-place
invariant-loop-place l =
    AreUpTo stored_sent l.fn.mode 0 1 (take l.place (messages_of l.session)) l.entries.items l.stop

use Rattle.std.proofs.Common.{◌≡◌, ◌≤◌, drop, map}
use Rattle.dap_message.specs.Message.{sent}
use Rattle.dap_rename.specs.Carrying.{carries_list}
use Rattle.dap_rename.specs.Modes.{stop_in}
use Rattle.dap_rename.proofs.carries.carries_list.Given as goal

abbrev pub invariant-loop-message : goal.invariant-loop-message
invariant-loop-message l =
    record {
      few : l.stops ≤ l.message-index;
      same : carries_list l.renaming.pairs.items (stop_in l.mode) l.stops
          (map sent (drop l.message-index l.from)) (map sent l.rest)
          ≡ carries_list l.renaming.pairs.items (stop_in l.mode) 0 (map sent l.from)
          (map sent l.fn.to);
    }

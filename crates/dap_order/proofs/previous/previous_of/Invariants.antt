use Rattle.std.proofs.Common.{map, take}
use Rattle.std.specs.BTreeMap.{get}
use Rattle.dap_order.specs.Entries.{sent_by}
use Rattle.dap_order.specs.Keys.{own_key, ArePrevious}
use Rattle.dap_order.proofs.KeyEquality.{key_cmp}
use Rattle.dap_order.proofs.PreviousPlaces.{HasLast}
use Rattle.dap_order.proofs.previous.previous_of.Given as goal

abbrev pub invariant-loop-entry : goal.invariant-loop-entry
invariant-loop-entry g l =
    let ks = map (own_key l.by) (map sent_by (take l.entry-index l.entries)) in
    record {
      previous : ArePrevious ks ks l.previous.items;
      last : HasLast ks l.entry-index (get key_cmp l.last);
    }

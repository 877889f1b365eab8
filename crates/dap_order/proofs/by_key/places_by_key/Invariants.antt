use Rattle.std.proofs.Common.{◌≡◌, map, take}
use Rattle.std.specs.Prelude.{IsPermutation}
use Rattle.std.specs.List.{All, range_with_len}
use Rattle.dap_order.specs.SortKeys.{keys_in}
use Rattle.dap_order.proofs.SortedKeys.{IsKeyOf}
use Rattle.dap_order.proofs.by_key.places_by_key.Given as goal

abbrev pub invariant-loop-place : goal.invariant-loop-place
invariant-loop-place g l = record {
  places : IsPermutation (range_with_len 0 l.place) (map (λ k. k.place) (keys_in l.parts));
  keys : All (IsKeyOf l.entries) (keys_in l.parts);
}

abbrev pub invariant-loop-key : goal.invariant-loop-key
invariant-loop-key g l = l.places.items ≡ map (λ k. k.place) (take l.key-index l.key-items)

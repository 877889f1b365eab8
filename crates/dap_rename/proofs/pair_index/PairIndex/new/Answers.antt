use Rattle.std.proofs.Common.{rules, ◌≡◌, length, subst}
use Rattle.std.proofs.lemmas.Fn.{always_returns_same}
use Rattle.std.specs.List.{range_with_len}
use Rattle.std.specs.List.Sorted.{IsPermutation}
use Rattle.dap_rename.specs.PairIndex.{key_at}
use Rattle.dap_rename.proofs.PairIndexing.{places_sorted}
use Rattle.dap_rename.proofs.pair_index.PairIndex.new.Goals as goal

pub returns-clause-index : goal.returns-clause-index
returns-clause-index c =
    let all : c.in_ok-places.places.items ≡ range_with_len 0 (length c.args.pairs.now) =
    search rules in
    places_sorted c.args.pairs.now (record { places = c.sort_unstable_by_key.new.self })
    (subst (λ l. IsPermutation l c.sort_unstable_by_key.new.self.items) all
    c.sort_unstable_by_key.ensures.permutation)
    (c.sort_unstable_by_key.ensures.sorted (key_at c.args.pairs.now)
    (always_returns_same _ _ _ (λ a r g called. search rules)))

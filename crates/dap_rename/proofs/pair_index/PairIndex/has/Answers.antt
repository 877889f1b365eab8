use Rattle.std.proofs.Common.{rules, ◌∙◌, subst}
use Rattle.std.proofs.lemmas.Fn.{always_returns_same}
use Rattle.std.specs.List.Sorted.{IsBinarySearchResult}
use Rattle.dap_rename.specs.Pairs.{class_of}
use Rattle.dap_rename.specs.PairIndex.{key_at, pair_key_cmp}
use Rattle.dap_rename.proofs.PairIndexing.{index_tells}
use Rattle.dap_rename.proofs.pair_index.PairIndex.has.Goals as goal

pub returns : goal.returns
returns c =
    let ps = c.args.pairs.now in
    let p = c.args.pair.now in
    let found = c.binary_search_by_key-place.ensures in
    let by_key = found.position (key_at ps)
    (always_returns_same _ _ _ (λ a r g called. search rules)) in
    c.is_ok.ensures.value
    ∙ index_tells ps c.args.self.now (class_of p) p.from p.to c.requires c.deref.result.now
    c.deref.ensures.value _ found.bound
    (subst (λ k. IsBinarySearchResult (λ n. pair_key_cmp (key_at ps n) k) c.deref.result.now
    c.binary_search_by_key-place.result) c.pair_key-wanted.ensures by_key)

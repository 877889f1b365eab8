use Rattle.std.proofs.Common.{◌≡◌, ℕ, ◌+◌, List, [], ◌∷◌, ◌++◌, map, take, Option, sym, ap}
use Rattle.std.proofs.Common.{◌∙◌, subst, arith}
use Rattle.std.specs.BTreeMap.{get}
use Rattle.std.proofs.lemmas.List.{take_more, map-append, length-take-le}
use Rattle.dap_order.specs.Entries.{sent_by}
use Rattle.dap_order.specs.Keys.{Key, own_key, ArePrevious}
use Rattle.dap_order.proofs.KeyEquality.{key_cmp}
use Rattle.dap_order.proofs.Lists.{len_map}
use Rattle.dap_order.proofs.PreviousPlaces.{HasLast, one_more}
use Rattle.dap_order.proofs.previous.previous_of.Goals as goal

pub loop-entry-preserved : goal.loop-entry-preserved
loop-entry-preserved g c =
    let i = c.loop-entry.entry-index in
    let all = c.args.entries.now in
    let e = c.entry-item.result in
    let by = c.args.by in
    let ms = map sent_by (take i all) in
    let inv = c.loop-entry.invariant in
    let next : map sent_by (take (i + 1) all) ≡ ms ++ sent_by e ∷ [] =
    ap (map sent_by) (take_more all i e c.loop-entry-test.true
    ∙ ap (λ z. take i all ++ z ∷ []) (sym c.entry-item.is))
    ∙ map-append sent_by (take i all) (e ∷ []) in
    let keys = ap (map (own_key by)) next ∙ map-append (own_key by) ms (sent_by e ∷ []) in
    let long = len_map (own_key by) ms ∙ len_map sent_by (take i all)
    ∙ length-take-le i all (omega (arith, c.loop-entry-test.true)) in
    let place : c.len.result ≡ i =
    c.len.ensures ∙ c.loop-entry.previous.ok.0 ∙ inv.previous.len ∙ long in
    let step = one_more (map (own_key by) ms) c.loop-entry.previous.items (own_key by (sent_by e)) i
    c.len.result c.own_key.result (get key_cmp c.loop-entry.last)
    (get key_cmp c.insert.new.self) c.in_ok-place.place long place c.own_key.ensures
    c.in_ok-place.ensures.old c.in_ok-place.ensures.updates.0 inv.previous inv.last in
    record {
      previous = subst (λ (zs : List (Option ℕ)).
          ArePrevious (map (own_key by) (map sent_by (take (i + 1) all)))
          (map (own_key by) (map sent_by (take (i + 1) all))) zs)
          (sym c.in_ok-push.ensures.items)
          (subst (λ (zs : List Key). ArePrevious zs zs
          (c.loop-entry.previous.items ++ c.in_ok-place.place ∷ [])) (sym keys) step.0);
      last = subst (λ (zs : List Key). HasLast zs (i + 1) (get key_cmp c.insert.new.self))
          (sym keys) step.1;
    }

use Rattle.std.proofs.Common.{◌≡◌, ℕ, ◌+◌, List, [], ◌∷◌, ◌++◌, map, length, sym, ap}
use Rattle.std.proofs.Common.{◌∙◌, subst, arith, get_or, length-append, Vec, Global}
use Rattle.dap_message.specs.SwapRules.{swaps_of}
use Rattle.dap_order.specs.Entries.{sent_by}
use Rattle.dap_order.specs.Keys.{look_key}
use Rattle.dap_order.specs.Looks.{AreGroups}
use Rattle.dap_order.proofs.Lists.{len_map, one_item, got, get_at}
use Rattle.dap_order.proofs.PreviousPlaces.{earlier_is}
use Rattle.dap_order.proofs.Grouping.{group_again, group_begun}
use Rattle.dap_order.proofs.looks.groups_of.Goals as goal
use Rattle.dap_order.proofs.looks.groups_of.Goals.{in-Some, in-None+in_ok-push-in-None}

pub index-requires-in-Some : goal.index-requires-in-Some
index-requires-in-Some g c =
    let ms = map sent_by c.args.entries.now in
    let before = (earlier_is (look_key (swaps_of c.args.rules.now)) ms
    c.in_ok-previous.previous.items c.in_ok-previous.ensures c.loop-place.place c.index.result.now
    c.in-Some.earlier (omega (arith, c.loop-place-test.true, len_map sent_by c.args.entries.now))
    c.index.ensures c.in-Some.is).0 in
    omega (arith, before, c.loop-place.invariant.len, c.loop-place.groups.ok.0)

pub loop-place-preserved : goal.loop-place-preserved
loop-place-preserved g c =
    let ms = map sent_by c.args.entries.now in
    let ks = map (look_key (swaps_of c.args.rules.now)) ms in
    let n = c.loop-place.place in
    let groups = c.loop-place.groups.items in
    let firsts = c.loop-place.firsts.items in
    let inv = c.loop-place.invariant in
    elim c.match-index.branch [
      | in-Some w ↦ (
          let there_is = earlier_is (look_key (swaps_of c.args.rules.now)) ms
          c.in_ok-previous.previous.items c.in_ok-previous.ensures n c.index.result.now
          w.in-Some.earlier
          (omega (arith, c.loop-place-test.true, len_map sent_by c.args.entries.now))
          c.index.ensures w.in-Some.is in
          let p = w.in-Some.earlier in
          let group : c.match-index.group ≡ get_or groups p 0 =
          w.group-is ∙ one_item groups p w.index-in-Some.result.now (get_or groups p 0)
          (got groups p w.index-in-Some.result.now (omega (arith, there_is.0, inv.len))
          w.index-in-Some.ensures) (get_at groups p 0 (omega (arith, there_is.0, inv.len))) in
          subst (AreGroups ks (n + 1) c.push-in-loop-place.new.self.items)
          (sym (ap (λ (v : Vec ℕ Global). v.items) w.firsts-is))
          (subst (λ (zs : List ℕ). AreGroups ks (n + 1) zs firsts)
          (sym (c.in_ok-push.ensures.items ∙ ap (λ g. groups ++ g ∷ []) group))
          (group_again ks n groups firsts inv p there_is.0 there_is.1))
          )
      | in-None+in_ok-push-in-None w ↦ (
          let long : length (firsts ++ n ∷ []) ≡ length firsts + 1 =
          length-append firsts (n ∷ []) in
          let items : w.push.new.self.items ≡ firsts ++ n ∷ [] =
          w.in_ok-push-in-None.ensures.items in
          let group : c.match-index.group ≡ length firsts =
          omega (arith, w.group-is, w.len.ensures, w.push.new.self.ok.0, ap length items, long) in
          subst (AreGroups ks (n + 1) c.push-in-loop-place.new.self.items)
          (sym (ap (λ (v : Vec ℕ Global). v.items) w.firsts-is ∙ items))
          (subst (λ (zs : List ℕ). AreGroups ks (n + 1) zs (firsts ++ n ∷ []))
          (sym c.in_ok-push.ensures.items)
          (group_begun ks n groups firsts inv c.match-index.group group))
          )
    ]

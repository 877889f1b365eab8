use Rattle.std.proofs.Common.{◌≡◌, ◌<◌, ◌++◌, ◌∷◌, [], Some, None, Option, List, length, get_or, set}
use Rattle.std.proofs.Common.{ℕ, sym, ap, arith, ◌∙◌, subst}
use Rattle.std.specs.List.{Contains}
use Rattle.std.proofs.lemmas.List.{get_or_default, get_or_read}
use Rattle.std.proofs.lemmas.List.Elements.{AllWithin-more}
use Rattle.dap_order.specs.Plan.{place_count, followed_by}
use Rattle.dap_order.specs.Links.{HasFrom, FollowBelow}
use Rattle.dap_order.specs.declared.links.Cell.{Cell}
use Rattle.dap_order.proofs.FollowerLists.{pushed, pushed_kept, pushed_added, follow_more}
use Rattle.dap_order.proofs.links.links_of.Goals as goal

pub loop-earlier-preserved : goal.loop-earlier-preserved
loop-earlier-preserved c =
    let plan = c.args.plan.now in
    let place = c.loop-place.place in
    let was = c.loop-earlier.invariant in
    let firsts = c.loop-earlier.firsts.items in
    let cells = c.loop-earlier.cells.items in
    let after = c.followed_by-earlier-items.result.now in
    let at = c.loop-earlier.earlier-index in
    let e = get_or after at 0 in
    let low : place < place_count plan = omega (arith, plan.groups.ok, c.loop-place-test.true) in
    let is_after = c.followed_by-earlier-items.ensures in
    let before : e < place =
    subst (λ (zs : List ℕ). get_or zs at 0 < place) (sym is_after)
    (c.requires.earlier place low at 0
    (omega (arith, c.loop-earlier-test.true, ap length is_after))) in
    let in_range : e < length firsts = omega (arith, before, low, was.below.len) in
    let is_next : c.index-next.result.now ≡ get_or firsts e None =
    get_or_read firsts e c.index-next.result.now in_range c.index-next.ensures None in
    let new_firsts : set firsts e (Some c.len-in-loop-earlier.result)
    ≡ set firsts e (Some (length cells)) =
    ap (λ n. set firsts e (Some n)) (c.len-in-loop-earlier.ensures ∙ c.loop-earlier.cells.ok.0) in
    let cell : Cell = record { place = place; next = get_or firsts e None } in
    let new_cells : c.push.new.self.items ≡ cells ++ cell ∷ [] =
    c.in_ok-push.ensures.items
    ∙ ap (λ (o : Option ℕ). cells ++ record { place = place; next = o } ∷ []) is_next in
    rw new_firsts (rw new_cells (record {
      below = pushed plan place firsts cells was.below low e in_range;
      added = AllWithin-more
          (λ list. HasFrom (cells ++ cell ∷ []) place
          (get_or (set firsts e (Some (length cells))) list None)) after 0 at
          (λ k d from to. pushed_kept plan place firsts cells was.below low e in_range
          (get_or after k d) place (was.added k d from to))
          (λ d. subst (λ k. HasFrom (cells ++ cell ∷ []) place
          (get_or (set firsts e (Some (length cells))) k None))
          (get_or_default after at 0 d (omega (arith, c.loop-earlier-test.true)))
          (pushed_added plan place firsts cells was.below low e in_range));
    }))

pub loop-place-preserved : goal.loop-place-preserved
loop-place-preserved c =
    let plan = c.args.plan.now in
    let was = c.loop-earlier.invariant in
    let place = c.loop-place.place in
    let after = c.followed_by-earlier-items.result.now in
    follow_more plan place c.loop-earlier.firsts.items c.loop-earlier.cells.items was.below
    (λ list there.
    let here = subst (λ (zs : List ℕ). Contains zs list) (sym c.followed_by-earlier-items.ensures)
    there in
    subst (λ k. HasFrom c.loop-earlier.cells.items place (get_or c.loop-earlier.firsts.items k None))
    here.2 (was.added here.0 list (omega arith) (omega (arith, here.1, c.loop-earlier-test.false))))

-- Properties of places after another one is written, and of a group that is released.
use Rattle.std.proofs.Common.{◌≡◌, ◌≢◌, ℕ, ◌+◌, ◌-◌, ◌<◌, Bool, true, false, List, length}
use Rattle.std.proofs.Common.{get_or, set, inl, inr, arith, sym, ap, ◌∙◌, subst}
use Rattle.std.specs.Prelude.{nat_lt, not, ◌&&◌}
use Rattle.std.specs.List.{All}
use Rattle.std.proofs.lemmas.Bool.{and_parts, not-true}
use Rattle.std.proofs.lemmas.Bool.{ltb-true}
use Rattle.std.proofs.lemmas.List.{get_or-set_other}
use Rattle.dap_order.specs.Plan.{group_of, followed_by}
use Rattle.dap_order.specs.Progress.{is_written, HasRank, blocks_group, is_held, IsUnblocked}
use Rattle.dap_order.specs.Progress.{IsReadyPlace, IsListed, IsReleased, AreReleasedBut}
use Rattle.dap_order.specs.declared.plan.Plan.{Plan}
use Rattle.dap_order.specs.declared.links.Links.{Links}
use Rattle.dap_order.specs.declared.progress.Progress.{Progress}
use Rattle.dap_order.proofs.ReadyRanks.{stays_written}

module _ (plan : Plan) where
  pub unblocked_stays : (w : List Bool) (p group place : ℕ) → IsUnblocked plan w group place
      → IsUnblocked plan (set w p true) group place
  unblocked_stays w p group place u = λ i h b. stays_written w p i (u i h b)

  pub ready_stays : (w : List Bool) (p place : ℕ) → place ≢ p → IsReadyPlace plan w place
      → IsReadyPlace plan (set w p true) place
  ready_stays w p place apart was = record {
    in_range = was.in_range;
    not_written = get_or-set_other w p place true false apart ∙ was.not_written;
    unblocked = unblocked_stays w p (group_of plan place) place was.unblocked;
    followed = λ k d h.
        stays_written w p (get_or (followed_by plan place) k d) (was.followed k d h);
  }

  -- A place remains listed if nothing is removed from the set, and nothing is written or released.
  pub listed_stays : (links : Links) (old new : Progress) (place : ℕ)
      → new.written.items ≡ old.written.items → new.released.items ≡ old.released.items
      → ((rank : ℕ) → HasRank old.ready rank → HasRank new.ready rank)
      → IsListed plan links old place → IsListed plan links new place
  listed_stays links old new place w r kept was unwritten low followed =
      kept (get_or links.ranks.items place 0)
      (was (subst (λ v. get_or v place false ≡ false) w unwritten)
      (subst (λ v. place < get_or v (group_of plan place) 0) r low)
      (subst (λ v. All (λ a. get_or v a false ≡ true) (followed_by plan place)) w followed))

  -- A group is released if its next place is held.
  pub released_held : (p : Progress) (group place : ℕ) → get_or p.released.items group 0 ≡ place
      → is_held plan p.written.items group place ≡ true → IsReleased plan p group
  released_held p group place next held =
      let last = is_written p.written.items (place - 1) in
      let parts =
      and_parts (nat_lt 0 place) (not last && blocks_group plan (place - 1) group) held in
      let low : 0 < place = ltb-true 0 place parts.0 in
      let rest = and_parts (not last) (blocks_group plan (place - 1) group) parts.1 in
      inr (place - 1, omega arith, rest.1, not-true last rest.0)

  pub released_stays : (old new : Progress) (group : ℕ)
      → get_or new.released.items group 0 ≡ get_or old.released.items group 0
      → new.written.items ≡ old.written.items → IsReleased plan old group
      → IsReleased plan new group
  released_stays old new group r w was = elim was [
    | inl all ↦ inl (r ∙ all)
    | inr held ↦ inr (
      held.0,
      held.1 ∙ sym r,
      held.2,
      subst (λ v. get_or v held.0 false ≡ false) (sym w) held.3,
    )
  ]

  -- After a place is written, each group that was released is released, unless the next place is its
  -- first one that is not released.
  pub released_but : (old new : Progress) (place : ℕ) → new.released.items ≡ old.released.items
      → new.written.items ≡ set old.written.items place true
      → ((group : ℕ) → group < length plan.blocks.items → IsReleased plan old group)
      → AreReleasedBut plan new (place + 1)
  released_but old new place r w was group low apart =
      let same = ap (λ v. get_or v group 0) r in
      elim (was group low) [
        | inl all ↦ inl (same ∙ all)
        | inr held ↦ inr (
          held.0,
          held.1 ∙ sym same,
          held.2,
          ap (λ v. get_or v held.0 false) w
              ∙ get_or-set_other old.written.items place held.0 true false
              (λ e. apart (omega (arith, same, held.1, e))) ∙ held.3,
        )
      ]

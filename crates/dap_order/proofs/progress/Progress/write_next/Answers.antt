use Rattle.std.proofs.Common.{◌≡◌, true, get_or, arith, refl, sym, ◌∙◌, subst}
use Rattle.std.proofs.lemmas.List.{get_or_read, length-set}
use Rattle.std.proofs.lemmas.Map.Keys.{le_from_not_gt}
use Rattle.dap_order.specs.Plan.{place_at_rank, followed_by}
use Rattle.dap_order.specs.Progress.{IsReadyPlace}
use Rattle.dap_order.proofs.RankPlaces.{by_key_len, place_max, one_rank}
use Rattle.dap_order.proofs.ReadyRanks.{removed_kept, removed_others, removed_itself, stays_written}
use Rattle.dap_order.proofs.Standing.{unblocked_stays, ready_stays}
use Rattle.dap_order.proofs.progress.Progress.write_next.Goals as goal

pub index-place-requires : goal.index-place-requires
index-place-requires c =
    let low = c.requires.represents.ready_max c.in_ok-rank.rank c.in_ok-rank.ensures.member in
    omega (arith, low, by_key_len c.args.plan.now c.requires.well_formed, c.args.plan.now.by_key.ok)

pub index_mut-requires : goal.index_mut-requires
index_mut-requires c =
    let plan = c.args.plan.now in
    let well = c.requires.well_formed in
    let rank = c.in_ok-rank.rank in
    let low = c.requires.represents.ready_max rank c.in_ok-rank.ensures.member in
    let is =
    get_or_read plan.by_key.items rank c.index-place.result.now
    (omega (arith, by_key_len plan well)) c.index-place.ensures 0 in
    omega (
      arith,
      is,
      place_max plan well rank low,
      c.requires.represents.written_len,
      c.args.self.now.written.ok,
    )

pub returns : goal.returns
returns c =
    let plan = c.args.plan.now in
    let well = c.requires.well_formed in
    let represents = c.requires.represents in
    let old = c.args.self.now in
    let ready = c.pop_first.new.self in
    let rank = c.in_ok-rank.rank in
    let place = c.index-place.result.now in
    let updates = c.in_ok-rank.ensures.updates in
    let low = represents.ready_max rank c.in_ok-rank.ensures.member in
    let is : place_at_rank plan rank ≡ place =
    sym (get_or_read plan.by_key.items rank place (omega (arith, by_key_len plan well))
    c.index-place.ensures 0) in
    let was = represents.ready rank c.in_ok-rank.ensures.member in
    record {
      represents = record {
        written_len = length-set old.written.items place true ∙ represents.written_len;
        released_len = represents.released_len;
        seen_len = represents.seen_len;
        released_max = represents.released_max;
        released = λ group j h. unblocked_stays plan old.written.items place group j
            (represents.released group j h);
        seen_max = represents.seen_max;
        seen = λ j k d from to. stays_written old.written.items place
            (get_or (followed_by plan j) k d) (represents.seen j k d from to);
        ready_max = λ q h. represents.ready_max q (removed_others old.ready ready rank updates q h);
        ready = λ q h.
            let had = removed_others old.ready ready rank updates q h in
            ready_stays plan old.written.items place (place_at_rank plan q)
            (λ e. removed_itself old.ready ready rank updates q h
            (one_rank plan well q rank (represents.ready_max q had) low (e ∙ sym is)))
            (represents.ready q had);
      };
      rank = rank;
      has_rank = is;
      rank_max = low;
      was_ready = subst (IsReadyPlace plan old.written.items) is was;
      least = λ other h. le_from_not_gt rank other (c.in_ok-rank.ensures.least other h);
      written = refl;
      released = refl;
      kept = removed_kept old.ready ready rank updates;
    }

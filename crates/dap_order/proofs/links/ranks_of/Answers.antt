use Rattle.std.proofs.Common.{◌≡◌, sym, arith, ◌∙◌}
use Rattle.std.proofs.lemmas.List.{get_or_read, length-set}
use Rattle.dap_order.specs.Plan.{place_at_rank}
use Rattle.dap_order.proofs.RankPlaces.{by_key_len, place_max, rank_found, ranks_found}
use Rattle.dap_order.proofs.links.ranks_of.Goals as goal

pub loop-rank-init : goal.loop-rank-init
loop-rank-init c = record {
  len = omega (
    arith,
    c.in_ok-ranks.ensures.len,
    c.in_ok-ranks.ranks.ok,
    c.len.ensures,
    by_key_len c.args.plan.now c.requires,
    c.args.plan.now.by_key.ok,
  );
  found = λ rank h. absurd (omega arith);
}

pub index_mut-requires : goal.index_mut-requires
index_mut-requires c =
    let plan = c.args.plan.now in
    let rank = c.loop-rank.rank in
    let is =
    get_or_read plan.by_key.items rank c.index.result.now
    (omega (arith, plan.by_key.ok)) c.index.ensures 0 in
    omega (
      arith,
      is,
      place_max plan c.requires rank
          (omega (arith, plan.by_key.ok, by_key_len plan c.requires)),
      c.loop-rank.invariant.len,
      c.loop-rank.ranks.ok,
    )

pub loop-rank-preserved : goal.loop-rank-preserved
loop-rank-preserved c =
    let plan = c.args.plan.now in
    let rank = c.loop-rank.rank in
    let place = c.index.result.now in
    let is : place_at_rank plan rank ≡ place =
    sym (get_or_read plan.by_key.items rank place (omega (arith, plan.by_key.ok)) c.index.ensures 0)
    in
    record {
      len = length-set c.loop-rank.ranks.items place rank ∙ c.loop-rank.invariant.len;
      found = rank_found plan c.requires c.loop-rank.ranks.items rank place
          (omega (arith, plan.by_key.ok, by_key_len plan c.requires)) is
          c.loop-rank.invariant.len c.loop-rank.invariant.found;
    }

pub returns : goal.returns
returns c =
    let plan = c.args.plan.now in
    record {
      ranks = ranks_found plan c.requires c.loop-rank.ranks.items c.loop-rank.invariant.len
          (λ rank low. c.loop-rank.invariant.found rank
          (omega (arith, plan.by_key.ok, by_key_len plan c.requires)));
    }

-- The places of a well-formed plan and their ranks.
use Rattle.std.proofs.Common.{◌≡◌, ℕ, ◌+◌, ◌<◌, false, List, length, set, get_or, inl, inr, arith}
use Rattle.std.proofs.Common.{sym, ap, ◌∙◌, subst, eqb}
use Rattle.std.specs.List.{All, Contains, range_with_len}
use Rattle.std.proofs.lemmas.Bool.{cases_order, cases_eq, eq-eqb, ne_eqb, both_ways}
use Rattle.std.proofs.lemmas.List.{get_or_default, get_or-set_same, get_or-set_other}
use Rattle.std.proofs.lemmas.List.Sorted.{All-permutation, Contains-permutation}
use Rattle.std.proofs.lemmas.List.Sorted.{length_permutation}
use Rattle.std.proofs.lemmas.List.FromFn.{length-range_with_len, get_or-range_with_len}
use Rattle.std.proofs.lemmas.Map.Keys.{IsDistinct-from_apart, IsDistinct-IsPermutation}
use Rattle.std.proofs.lemmas.Map.Keys.{apart_from_distinct}
use Rattle.dap_order.specs.Plan.{IsWellFormed, place_count, place_at_rank}
use Rattle.dap_order.specs.Links.{AreRanks}
use Rattle.dap_order.specs.declared.plan.Plan.{Plan}

module _ (plan : Plan) (well : IsWellFormed plan) where
  pub by_key_len : length plan.by_key.items ≡ place_count plan
  by_key_len =
      length_permutation (range_with_len 0 (place_count plan)) plan.by_key.items well.ranks
      ∙ length-range_with_len 0 (place_count plan)

  -- Each rank has a place.
  pub place_max : (rank : ℕ) → rank < place_count plan → place_at_rank plan rank < place_count plan
  place_max rank low =
      All-permutation (λ p. p < place_count plan) (range_with_len 0 (place_count plan))
      plan.by_key.items well.ranks each rank 0 (omega (arith, by_key_len))
    where
      each : All (λ p. p < place_count plan) (range_with_len 0 (place_count plan))
      each k d h =
          let n : k < place_count plan =
          omega (arith, length-range_with_len 0 (place_count plan)) in
          omega (arith, get_or-range_with_len 0 (place_count plan) k d n)

  -- Two ranks of one place are equal.
  pub one_rank : (u v : ℕ) → u < place_count plan → v < place_count plan
      → place_at_rank plan u ≡ place_at_rank plan v → u ≡ v
  one_rank u v low_u low_v e = elim (cases_order u v) [
    | inl same ↦ same
    | inr apart ↦ elim apart [
      | inl below ↦ absurd (both_ways (eqb (place_at_rank plan u) (place_at_rank plan v))
          (differ u v below (omega (arith, by_key_len)))
          (eq-eqb (place_at_rank plan u) (place_at_rank plan v) e))
      | inr above ↦ absurd (both_ways (eqb (place_at_rank plan v) (place_at_rank plan u))
          (differ v u above (omega (arith, by_key_len)))
          (eq-eqb (place_at_rank plan v) (place_at_rank plan u) (sym e)))
    ]
  ]
    where
      range_apart : (i j d : ℕ) → i < j → j < length (range_with_len 0 (place_count plan))
          → eqb (get_or (range_with_len 0 (place_count plan)) i d)
          (get_or (range_with_len 0 (place_count plan)) j d) ≡ false
      range_apart i j d h l =
          let n : j < place_count plan =
          omega (arith, length-range_with_len 0 (place_count plan)) in
          let m : i < place_count plan = omega arith in
          let at_i = get_or-range_with_len 0 (place_count plan) i d m in
          let at_j = get_or-range_with_len 0 (place_count plan) j d n in
          ne_eqb (get_or (range_with_len 0 (place_count plan)) i d)
          (get_or (range_with_len 0 (place_count plan)) j d) (λ same. omega arith)

      flips : (x y : ℕ) → eqb x y ≡ eqb y x
      flips x y = grind arith

      differ : (i j : ℕ) → i < j → j < length plan.by_key.items
          → eqb (place_at_rank plan i) (place_at_rank plan j) ≡ false
      differ i j h l =
          apart_from_distinct eqb plan.by_key.items i j 0
          (IsDistinct-IsPermutation eqb flips (range_with_len 0 (place_count plan))
          plan.by_key.items well.ranks
          (IsDistinct-from_apart eqb (range_with_len 0 (place_count plan)) range_apart)) h l

  -- A place and its rank.
  pub record HasRankOf (place : ℕ) : Type 0 where
    pub rank : ℕ
    pub low : rank < place_count plan
    pub is : place_at_rank plan rank ≡ place

  -- Each place has a rank.
  pub rank_of : (place : ℕ) → place < place_count plan → HasRankOf place
  rank_of place low =
      let there : Contains (range_with_len 0 (place_count plan)) place = (
        place,
        omega (arith, length-range_with_len 0 (place_count plan)),
        omega (arith, get_or-range_with_len 0 (place_count plan) place place low),
      ) in
      let found =
      Contains-permutation (range_with_len 0 (place_count plan)) plan.by_key.items place well.ranks
      there in
      record {
        rank = found.0;
        low = omega (arith, found.1, by_key_len);
        is = get_or_default plan.by_key.items found.0 0 place found.1 ∙ found.2;
      }

  -- One more place receives its rank.
  pub rank_found : (ranks : List ℕ) (rank place : ℕ) → rank < place_count plan
      → place_at_rank plan rank ≡ place → length ranks ≡ place_count plan
      → ((r : ℕ) → r < rank → get_or ranks (place_at_rank plan r) 0 ≡ r)
      → (r : ℕ) → r < rank + 1 → get_or (set ranks place rank) (place_at_rank plan r) 0 ≡ r
  rank_found ranks rank place low is len found r h = elim (cases_eq r rank) [
    | inl same ↦ subst (λ k. get_or (set ranks place rank) (place_at_rank plan k) 0 ≡ k) (sym same)
        (subst (λ p. get_or (set ranks place rank) p 0 ≡ rank) (sym is)
        (get_or-set_same ranks place rank 0 (omega (arith, place_max rank low, is))))
    | inr apart ↦ (let below : r < rank = omega arith in
        get_or-set_other ranks place (place_at_rank plan r) rank 0
        (λ e. apart (one_rank r rank (omega arith) low (e ∙ sym is))) ∙ found r below)
  ]

  -- Ranks that are found for all places are the ranks.
  pub ranks_found : (ranks : List ℕ) → length ranks ≡ place_count plan
      → ((r : ℕ) → r < place_count plan → get_or ranks (place_at_rank plan r) 0 ≡ r)
      → AreRanks plan ranks
  ranks_found ranks len found = record {
    len = len;
    in_range = λ place low.
        let known = rank_of place low in
        let e : get_or ranks place 0 ≡ known.rank =
        subst (λ p. get_or ranks p 0 ≡ known.rank) known.is (found known.rank known.low) in
        omega (arith, e, known.low);
    at_rank = λ place low.
        let known = rank_of place low in
        let e : get_or ranks place 0 ≡ known.rank =
        subst (λ p. get_or ranks p 0 ≡ known.rank) known.is (found known.rank known.low) in
        ap (place_at_rank plan) e ∙ known.is;
  }

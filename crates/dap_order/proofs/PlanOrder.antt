-- Places written by a plan, always the ready one with the smallest key next, are in order.
use Rattle.std.proofs.Common.{◌≡◌, ◌≢◌, ℕ, ◌<◌, ◌≤◌, Bool, true, false, List, [], ◌∷◌, ◌++◌}
use Rattle.std.proofs.Common.{length, get_or, set, replicate, refl, inl, inr, arith, eqb}
use Rattle.std.proofs.Common.{sym, ap, ◌∙◌, subst}
use Rattle.std.specs.List.{Contains, range_with_len, list_any}
use Rattle.std.proofs.lemmas.Bool.{cases_Bool, cases_eq, cases_lt, both_ways, eqb-true}
use Rattle.std.proofs.lemmas.Bool.{true_from_ne_false, false_from_ne_true}
use Rattle.std.proofs.lemmas.Cmp.{nat_eq_equiv}
use Rattle.std.proofs.lemmas.List.{get_or-set_same, get_or-set_other, append_assoc, append-nil}
use Rattle.std.proofs.lemmas.List.{get_or-replicate, length-set}
use Rattle.std.proofs.lemmas.List.Elements.{Contains-get_or, All-contains}
use Rattle.std.proofs.lemmas.Map.Views.{Contains-from_any, list_any-from_Contains}
use Rattle.dap_order.specs.Swaps.{Swaps, AreSwaps}
use Rattle.dap_order.specs.Order.{order}
use Rattle.dap_order.specs.Least.{IsLeast}
use Rattle.dap_order.specs.Plan.{IsWellFormed, IsPlan, place_count, group_of, followed_by}
use Rattle.dap_order.specs.Plan.{place_at_rank}
use Rattle.dap_order.specs.Links.{AreLinks}
use Rattle.dap_order.specs.Progress.{is_written, HasRank, IsReadyPlace, IsReleased, IsListed}
use Rattle.dap_order.specs.Progress.{HasNoRank, Wrote, ConsideredFollowers, ReleasedBelow}
use Rattle.dap_order.specs.declared.plan.Plan.{Plan}
use Rattle.dap_order.specs.declared.links.Links.{Links}
use Rattle.dap_order.specs.declared.progress.Progress.{Progress}
use Rattle.dap_order.proofs.Least.{order-least}
use Rattle.dap_order.proofs.Pending.{pending, pending-none, Between, between, IsNext}
use Rattle.dap_order.proofs.Pending.{next_from_pending}
use Rattle.dap_order.proofs.ReadyRanks.{stays_written}
use Rattle.dap_order.proofs.Standing.{listed_stays}

module _ (plan : Plan) where
  -- A ready place is released.
  reached : (p : Progress) (place : ℕ) → IsReadyPlace plan p.written.items place
      → IsReleased plan p (group_of plan place)
      → place < get_or p.released.items (group_of plan place) 0
  reached p place ready released = elim released [
    | inl all ↦ omega (arith, all, ready.in_range)
    | inr held ↦ elim (cases_lt place (get_or p.released.items (group_of plan place) 0)) [
      | inl low ↦ low
      | inr high ↦ absurd (both_ways (is_written p.written.items held.0) held.3
          (ready.unblocked held.0 (omega (arith, held.1)) held.2))
    ]
  ]

  -- Each place remains listed after one is written, its followers are considered, and others are
  -- released.
  pub listed_after : (links : Links) → AreLinks plan links → (old mid seen new : Progress)
      (place : ℕ) → Wrote plan old mid place → ConsideredFollowers plan links mid seen place
      → ReleasedBelow plan links seen new (length plan.blocks.items)
      → (other : ℕ) → other < place_count plan → IsListed plan links old other
      → IsListed plan links new other
  listed_after links are old mid seen new place wrote considered freed other low was =
      freed.listed other low (elim (cases_Bool (list_any (eqb place) (followed_by plan other))) [
        | inl there ↦ considered.listed other low
            (Contains-from_any (λ x y. eqb-true x y) place (followed_by plan other) there)
        | inr none ↦ listed_stays plan links mid seen other considered.written considered.released
            considered.kept (listed_mid none)
      ])
    where
      apart : list_any (eqb place) (followed_by plan other) ≡ false → (k d : ℕ)
          → k < length (followed_by plan other) → get_or (followed_by plan other) k d ≢ place
      apart none k d h same =
          both_ways (list_any (eqb place) (followed_by plan other)) none
          (list_any-from_Contains nat_eq_equiv place (followed_by plan other)
          (subst (Contains (followed_by plan other)) same
          (Contains-get_or (followed_by plan other) k d h)))

      before : (j : ℕ) → j ≢ place
          → is_written mid.written.items j ≡ is_written old.written.items j
      before j differs =
          ap (λ w. is_written w j) wrote.written
          ∙ get_or-set_other old.written.items place j true false differs

      listed_mid : list_any (eqb place) (followed_by plan other) ≡ false
          → IsListed plan links mid other
      listed_mid none unwritten released followed = elim (cases_eq other place) [
        | inl same ↦ absurd (both_ways (is_written mid.written.items other) unwritten
            (ap (λ w. is_written w other) wrote.written
            ∙ subst (λ k. get_or (set old.written.items place true) k false ≡ true) (sym same)
            (get_or-set_same old.written.items place true false
            (omega (
              arith,
              wrote.represents.written_len,
              ap length wrote.written,
              length-set old.written.items place true,
            )))))
        | inr differs ↦ wrote.kept (get_or links.ranks.items other 0)
            (λ e. differs (sym (are.ranks.at_rank other low) ∙ ap (place_at_rank plan) e
            ∙ wrote.has_rank))
            (was (sym (before other differs) ∙ unwritten)
            (subst (λ r. other < get_or r (group_of plan other) 0) wrote.released released)
            (λ k d h. sym (before (get_or (followed_by plan other) k d) (apart none k d h))
            ∙ followed k d h))
      ]

  module _ (s : Swaps ℕ) where
    -- If a place has been written, so have all earlier places that are not free with it.
    abbrev pub IsClosed : List Bool → Type 0
    IsClosed w = (i j : ℕ) → i < j → j < place_count plan → is_written w j ≡ true
        → s.free i j ≡ false → is_written w i ≡ true

    -- The order consists of the places already returned, followed by the order of the pending ones.
    pub record Goes (places : List ℕ) (w : List Bool) : Type 0 where
      pub closed : IsClosed w
      pub sum : places ++ order s (pending w) ≡ order s (range_with_len 0 (place_count plan))

  module _ (well : IsWellFormed plan) (s : Swaps ℕ) (are : AreSwaps s) (is : IsPlan s plan) where
    not_free : (i j : ℕ) → s.free i j ≡ false → s.free j i ≡ false
    not_free i j bound =
        false_from_ne_true (s.free j i) (λ f. both_ways (s.free i j) bound (are.both_ways j i f))

    -- A place that is free with all earlier places that have not been written is ready.
    ready_from_free : (w : List Bool) (place : ℕ) → place < place_count plan
        → is_written w place ≡ false
        → ((k : ℕ) → k < place → is_written w k ≡ false → s.free place k ≡ true)
        → IsReadyPlace plan w place
    ready_from_free w place low unwritten free = record {
      in_range = low;
      not_written = unwritten;
      unblocked = λ i h b. written i h (is.blocked i place h low b);
      followed = λ k d h.
          written (get_or (followed_by plan place) k d) (well.earlier place low k d h)
          (is.waits (get_or (followed_by plan place) k d) place low
          (Contains-get_or (followed_by plan place) k d h));
    }
      where
        written : (i : ℕ) → i < place → s.free i place ≡ false → is_written w i ≡ true
        written i h bound =
            true_from_ne_false (is_written w i)
            (λ u. both_ways (s.free place i) (not_free i place bound) (free i h u))

    -- A ready place is free with all earlier places that have not been written.
    free_from_ready : (w : List Bool) (place : ℕ) → IsClosed s w → IsReadyPlace plan w place
        → (k : ℕ) → k < place → is_written w k ≡ false → s.free place k ≡ true
    free_from_ready w place closed ready k h unwritten =
        true_from_ne_false (s.free place k)
        (λ bound. both_ways (is_written w k) unwritten (written (not_free place k bound)))
      where
        written : s.free k place ≡ false → is_written w k ≡ true
        written bound = elim (is.complete k place h ready.in_range bound) [
          | inl blocked ↦ ready.unblocked k h blocked
          | inr waits ↦ (let done : is_written w waits.0 ≡ true =
              All-contains (λ a. is_written w a ≡ true) (followed_by plan place) waits.0
              ready.followed waits.1 in
              let low : waits.0 < place =
              All-contains (λ a. a < place) (followed_by plan place) waits.0
              (well.earlier place ready.in_range) waits.1 in
              elim waits.2 [
                | inl same ↦ subst (λ j. is_written w j ≡ true) (sym same) done
                | inr chain ↦ closed k waits.0 chain.0 (omega (arith, low, ready.in_range)) done
                    chain.1
              ])
        ]

    closed_after : (w : List Bool) (place : ℕ) → IsClosed s w → IsReadyPlace plan w place
        → IsClosed s (set w place true)
    closed_after w place closed ready i j h low written bound = elim (cases_eq j place) [
      | inl same ↦ stays_written w place i (true_from_ne_false (is_written w i)
          (λ u. both_ways (s.free place i)
          (not_free i place (subst (λ k. s.free i k ≡ false) same bound))
          (free_from_ready w place closed ready i (subst (λ k. i < k) same h) u)))
      | inr apart ↦ stays_written w place i
          (closed i j h low (sym (get_or-set_other w place j true false apart) ∙ written) bound)
    ]

    pub goes-none : (w : List Bool) → w ≡ replicate (place_count plan) false → Goes s [] w
    goes-none w none = record {
      closed = λ i j h low written bound. absurd (both_ways (is_written w j)
          (ap (λ v. is_written v j) none ∙ get_or-replicate (place_count plan) j false false low)
          written);
      sum = ap (λ v. order s (pending v)) none
          ∙ ap (order s) (pending-none 0 (place_count plan));
    }

    -- Each place that is ready by the swaps has its rank in the set.
    has_rank : (links : Links) (p : Progress) → length p.written.items ≡ place_count plan
        → ((group : ℕ) → group < length plan.blocks.items → IsReleased plan p group)
        → ((place : ℕ) → place < place_count plan → IsListed plan links p place)
        → (place : ℕ) → IsNext s 0 p.written.items place
        → (place < place_count plan) × HasRank p.ready (get_or links.ranks.items place 0)
    has_rank links p len released listed place next =
        let same : next.index ≡ place = omega (arith, next.is) in
        let low : place < place_count plan = omega (arith, next.low) in
        let ready =
        ready_from_free p.written.items place low
        (subst (λ k. is_written p.written.items k ≡ false) same next.unwritten)
        (λ k h u. next.free k k (omega arith) (omega arith) u) in (
          low,
          listed place low ready.not_written
              (reached p place ready
              (released (group_of plan place) (well.groups_in_range place 0 low))) ready.followed,
        )

    pub goes_more : (links : Links) → AreLinks plan links → (old new : Progress) (places : List ℕ)
        (place : ℕ) → Goes s places old.written.items
        → length old.written.items ≡ place_count plan
        → ((group : ℕ) → group < length plan.blocks.items → IsReleased plan old group)
        → ((other : ℕ) → other < place_count plan → IsListed plan links old other)
        → Wrote plan old new place → Goes s (places ++ place ∷ []) new.written.items
    goes_more links are_links old new places place goes len released listed wrote = record {
      closed = subst (IsClosed s) (sym wrote.written)
          (closed_after old.written.items place goes.closed wrote.was_ready);
      sum = append_assoc places (place ∷ []) (order s (pending new.written.items))
          ∙ ap (λ w. places ++ place ∷ order s (pending w)) wrote.written
          ∙ ap (λ xs. places ++ place ∷ order s xs) cut.after
          ∙ ap (λ xs. places ++ xs)
          (sym (order-least s are place cut.front cut.back cut.are_free
          (subst (IsLeast s place) cut.was least)))
          ∙ ap (λ xs. places ++ order s xs) (sym cut.was) ∙ goes.sum;
    }
      where
        free : (k : ℕ) → k < place → is_written old.written.items k ≡ false
            → s.free place k ≡ true
        free = free_from_ready old.written.items place goes.closed wrote.was_ready

        cut : Between s 0 old.written.items place place
        cut =
            between s old.written.items 0 place place (omega arith)
            (omega (arith, len, wrote.was_ready.in_range)) wrote.was_ready.not_written
            (λ k other e h u. let same : k ≡ other = omega arith in
            subst (λ j. s.free place j ≡ true) same (free k h u))

        smaller : (y rank : ℕ) → rank < place_count plan → place_at_rank plan rank ≡ y
            → wrote.rank ≤ rank → s.less y place ≡ true → ⊥
        smaller y rank low at_rank least less = elim (cases_eq rank wrote.rank) [
          | inl same ↦ are.less_itself place (subst (λ k. s.less k place ≡ true)
              (sym at_rank ∙ ap (place_at_rank plan) same ∙ wrote.has_rank) less)
          | inr apart ↦ both_ways (s.less y place)
              (subst (λ k. s.less k place ≡ false) at_rank
              (subst (λ k. s.less (place_at_rank plan rank) k ≡ false) wrote.has_rank
              (is.keys wrote.rank rank (omega arith) low))) less
        ]

        least : IsLeast s place (pending old.written.items)
        least y ready less =
            let next =
            next_from_pending s old.written.items 0 y ready.front ready.back ready.where_it_is
            ready.are_free in
            let has = has_rank links old len released listed y next in
            smaller y (get_or links.ranks.items y 0) (are_links.ranks.in_range y has.0)
            (are_links.ranks.at_rank y has.0)
            (wrote.least (get_or links.ranks.items y 0) has.1) less

    -- If no place is ready, all places have been returned.
    pub goes_all : (links : Links) (old : Progress) (places : List ℕ)
        → Goes s places old.written.items → length old.written.items ≡ place_count plan
        → ((group : ℕ) → group < length plan.blocks.items → IsReleased plan old group)
        → ((other : ℕ) → other < place_count plan → IsListed plan links old other)
        → HasNoRank old.ready
        → places ≡ order s (range_with_len 0 (place_count plan))
    goes_all links old places goes len released listed none =
        at (pending old.written.items) refl
      where
        at : (xs : List ℕ) → pending old.written.items ≡ xs
            → places ≡ order s (range_with_len 0 (place_count plan))
        at [] e =
            sym (append-nil places) ∙ ap (λ xs. places ++ order s xs) (sym e) ∙ goes.sum
        at (x ∷ xs) e =
            let next = next_from_pending s old.written.items 0 x [] xs e refl in
            let has = has_rank links old len released listed x next in
            absurd (none (get_or links.ranks.items x 0) has.1)

-- The state after one more place of a group is released.
use Rattle.std.proofs.Common.{◌≡◌, ◌≢◌, ℕ, ◌+◌, ◌-◌, ◌<◌, ◌≤◌, true, false, length}
use Rattle.std.proofs.Common.{get_or, set, refl, inl, inr, arith, sym, ◌∙◌, subst}
use Rattle.std.specs.Vec.{with_item}
use Rattle.std.proofs.lemmas.Bool.{cases_eq}
use Rattle.std.proofs.lemmas.List.{get_or-set_same, get_or-set_other, length-set}
use Rattle.dap_order.specs.Plan.{place_count, group_of}
use Rattle.dap_order.specs.Progress.{is_written, blocks_group, is_held, IsUnblocked, Stands}
use Rattle.dap_order.specs.Progress.{IsListed, Considered, ReleasedPlace}
use Rattle.dap_order.specs.declared.plan.Plan.{Plan}
use Rattle.dap_order.specs.declared.links.Links.{Links}
use Rattle.dap_order.specs.declared.progress.Progress.{Progress}
use Rattle.dap_order.proofs.Standing.{listed_stays}

-- The state with this number of released places of the group.
abbrev pub with_released : Progress → ℕ → ℕ → Progress
with_released p group count = record {
  written = p.written;
  released = with_item p.released group count;
  seen = p.seen;
  ready = p.ready;
}

module _ (plan : Plan) (p : Progress) (group place : ℕ) where
  is_written_before : is_held plan p.written.items group place ≡ false → 0 < place
      → blocks_group plan (place - 1) group ≡ true → is_written p.written.items (place - 1) ≡ true
  is_written_before free low blocks = grind arith

  unblocked_at : Stands plan p → get_or p.released.items group 0 ≡ place
      → is_held plan p.written.items group place ≡ false
      → IsUnblocked plan p.written.items group place
  unblocked_at is next free i low blocks = elim (cases_eq i (place - 1)) [
    | inl last ↦ subst (λ k. is_written p.written.items k ≡ true) (sym last)
        (is_written_before free (omega arith)
        (subst (λ k. blocks_group plan k group ≡ true) last blocks))
    | inr before ↦ is.released group (place - 1) (omega arith) i (omega arith) blocks
  ]

  pub releasing_stands : Stands plan p → place < place_count plan
      → group < length plan.blocks.items → get_or p.released.items group 0 ≡ place
      → is_held plan p.written.items group place ≡ false
      → Stands plan (with_released p group (place + 1))
  releasing_stands is low in_range next free =
      let was = p.released.items in
      let here : get_or (set was group (place + 1)) group 0 ≡ place + 1 =
      get_or-set_same was group (place + 1) 0 (omega (arith, is.released_len)) in
      let others = λ (g : ℕ) (apart : g ≢ group). get_or-set_other was group g (place + 1) 0 apart
      in
      record {
        written_len = is.written_len;
        released_len = length-set was group (place + 1) ∙ is.released_len;
        seen_len = is.seen_len;
        released_max = λ g. elim (cases_eq g group) [
          | inl same ↦ subst (λ k. get_or (set was group (place + 1)) k 0 ≤ place_count plan)
              (sym same) (omega (arith, here))
          | inr apart ↦ omega (arith, others g apart, is.released_max g)
        ];
        released = λ g j below. elim (cases_eq g group) [
          | inl same ↦
              let lower : j < place + 1 = omega (
                arith,
                here,
                subst (λ k. j < get_or (set was group (place + 1)) k 0) same below,
              ) in
              subst (λ k. IsUnblocked plan p.written.items k j) (sym same)
              (λ i before blocks. unblocked_at is next free i (omega arith) blocks)
          | inr apart ↦ is.released g j (omega (arith, others g apart))
        ];
        seen_max = is.seen_max;
        seen = is.seen;
        ready_max = is.ready_max;
        ready = is.ready;
      }

  -- Any other place remains listed.
  listed_still : (links : Links) → group < length p.released.items
      → get_or p.released.items group 0 ≡ place → (other : ℕ)
      → ((other ≡ place) → group_of plan place ≢ group)
      → IsListed plan links p other
      → IsListed plan links (with_released p group (place + 1)) other
  listed_still links low next other apart was unwritten below followed =
      was unwritten (elim (cases_eq (group_of plan other) group) [
        | inl same ↦
            let next_is = get_or-set_same p.released.items group (place + 1) 0 low in
            let lower : other < place + 1 = omega (
              arith,
              next_is,
              subst (λ k. other < get_or (set p.released.items group (place + 1)) k 0) same below,
            ) in
            let not_last : other ≢ place =
            λ e. apart e (subst (λ k. group_of plan k ≡ group) e same) in
            subst (λ k. other < get_or p.released.items k 0) (sym same) (omega arith)
        | inr other_group ↦
            subst (λ k. other < k)
            (get_or-set_other p.released.items group (group_of plan other) (place + 1) 0 other_group)
            below
      ]) followed

  pub released_another : (links : Links) → Stands plan p → place < place_count plan
      → group < length plan.blocks.items → get_or p.released.items group 0 ≡ place
      → is_held plan p.written.items group place ≡ false → group_of plan place ≢ group
      → ReleasedPlace plan links p (with_released p group (place + 1)) group place
  released_another links is low in_range next free apart = record {
    represents = releasing_stands is low in_range next free;
    written = refl;
    released = refl;
    listed = λ other _. listed_still links (omega (arith, is.released_len)) next other (λ e. apart);
  }

  pub released_here : (links : Links) (new : Progress) → Stands plan p
      → group < length plan.blocks.items → get_or p.released.items group 0 ≡ place
      → Considered plan links (with_released p group (place + 1)) new place
      → ReleasedPlace plan links p new group place
  released_here links new is in_range next considered = record {
    represents = considered.represents;
    written = considered.written;
    released = considered.released;
    listed = λ other _ was. elim (cases_eq other place) [
      | inl same ↦ subst (IsListed plan links new) (sym same) considered.listed
      | inr apart ↦ listed_stays plan links (with_released p group (place + 1)) new other
          considered.written considered.released considered.kept
          (listed_still links (omega (arith, is.released_len)) next other
          (λ e. absurd (apart e)) was)
    ];
  }

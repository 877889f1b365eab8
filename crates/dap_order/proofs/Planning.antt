-- The parts of a plan describe the order of the places of a table.
use Rattle.std.proofs.Common.{◌≡◌, ℕ, zero, suc, ◌+◌, ◌<◌, Bool, true, false, not, ◌&&◌}
use Rattle.std.proofs.Common.{inl, inr, List, [], ◌∷◌, map, length, Some, refl, sym, ap}
use Rattle.std.proofs.Common.{◌∙◌, arith, subst, get_or}
use Rattle.std.specs.Prelude.{slice_get, IsPermutation}
use Rattle.std.specs.List.{All, range_with_len}
use Rattle.std.proofs.lemmas.Bool.{and_left, and_right, and_cases, not-true, not-false}
use Rattle.std.proofs.lemmas.List.Elements.{All-from_get_or, Contains-get_or, All-map}
use Rattle.std.proofs.lemmas.List.Sorted.{All-permutation, length_permutation}
use Rattle.dap_message.specs.Message.{Sent}
use Rattle.dap_message.specs.declared.any_message.AnyMessage.{Ghosts as Form}
use Rattle.dap_message.specs.SwapRules.{SwapRule, swaps_of}
use Rattle.dap_order.specs.Swaps.{Swaps}
use Rattle.dap_order.specs.declared.plan.Plan.{Plan}
use Rattle.dap_order.specs.Plan.{group_of, block_rows, is_blocked_by_group}
use Rattle.dap_order.specs.Plan.{followed_by, place_at_rank, IsWellFormed, IsPlan, HasToFollow}
use Rattle.dap_order.specs.Free.{may_swap}
use Rattle.dap_order.specs.Entries.{sent_by}
use Rattle.dap_order.specs.Keys.{look_key}
use Rattle.dap_order.specs.Looks.{blocks_at, block_table, AreGroups}
use Rattle.dap_order.specs.Waits.{are_tied, at_both, Covers}
use Rattle.dap_order.specs.PlacesByKey.{AreByKey}
use Rattle.dap_order.specs.Table.{place_order}
use Rattle.dap_order.specs.declared.entries.Entry.{Entry}
use Rattle.dap_order.specs.declared.table.Table.{Table}
use Rattle.dap_order.proofs.Lists.{get_below, there, get_map, get_mapped, len_map}
use Rattle.dap_order.proofs.Covering.{both_at}
use Rattle.dap_order.proofs.SameLooks.{swap_alike, free_parts}
use Rattle.dap_order.proofs.TableOrder.{less_is, free_at}

pub index_map : {A B : Type 0} (f : A → B) (xs : List A) (i : ℕ) (d : A) (e : B) → i < length xs
    → get_or (map f xs) i e ≡ f (get_or xs i d)
index_map f [] i d e low = absurd (omega arith)
index_map f (x ∷ xs) zero d e low = refl
index_map f (x ∷ xs) (suc i) d e low = index_map f xs i d e (omega arith)

range_below : (k n i d : ℕ) → i < n → get_or (range_with_len k n) i d < k + n
range_below k zero i d low = absurd (omega arith)
range_below k (suc n) zero d low = omega arith
range_below k (suc n) (suc i) d low = omega (arith, range_below (k + 1) n i d (omega arith))

pub range_len : (k n : ℕ) → length (range_with_len k n) ≡ n
range_len k zero = refl
range_len k (suc n) = omega (arith, range_len (k + 1) n)

-- A permutation of the places below n contains only places below n.
permuted_below : (n : ℕ) (xs : List ℕ) → IsPermutation (range_with_len 0 n) xs
    → All (λ p. p < n) xs
permuted_below n xs p =
    All-permutation (λ i. i < n) (range_with_len 0 n) xs p
    (All-from_get_or (λ i. i < n) (range_with_len 0 n) 0
    (λ i low. omega (arith, range_below 0 n i 0 (omega (arith, range_len 0 n)))))

module _ {M : Type 0} {form : Form M} (t : Table M form) (plan : Plan) (firsts : List ℕ) where
  abbrev rules : List SwapRule
  rules = swaps_of t.rules.now

  abbrev es : List (Entry M form)
  es = t.entries.items

  abbrev ms : List Sent
  ms = map sent_by es

  abbrev s : Swaps ℕ
  s = place_order t

  -- The postconditions of the functions that create the parts.
  pub record HasParts : Type 0 where
    pub groups : AreGroups (map (look_key (swaps_of t.rules.now)) (map sent_by t.entries.items))
        (length t.entries.items) plan.groups.items firsts
    pub blocks : block_rows plan
        ≡ block_table (swaps_of t.rules.now) (map sent_by t.entries.items) firsts
    pub after_len : length plan.after.items ≡ length t.entries.items
    pub after : (place : ℕ) → place < length t.entries.items
        → Covers are_tied (map sent_by t.entries.items) place (followed_by plan place)
    pub ranks : IsPermutation (range_with_len 0 (length t.entries.items)) plan.by_key.items
    pub by_key : AreByKey t.entries.items plan.by_key.items

  module _ (h : HasParts) where
    blocks_len : length plan.blocks.items ≡ length firsts
    blocks_len =
        sym (len_map (λ row. row.items) plan.blocks.items) ∙ ap length h.blocks
        ∙ len_map (λ i. map (blocks_at rules ms i) firsts) firsts

    pub well_formed : IsWellFormed plan
    well_formed = record {
      groups_in_range = All-from_get_or (λ g. g < length plan.blocks.items) plan.groups.items 0
          (λ i low. omega (arith, h.groups.in_range i (omega (arith, h.groups.len)), blocks_len));
      square = subst (All (λ (row : List Bool). length row ≡ length plan.blocks.items))
          (sym h.blocks)
          (All-map (λ (row : List Bool). length row ≡ length plan.blocks.items)
          (λ i. map (blocks_at rules ms i) firsts) firsts
          (λ i d low. len_map (blocks_at rules ms (get_or firsts i d)) firsts ∙ sym blocks_len));
      after_len = h.after_len ∙ sym h.groups.len;
      earlier = λ place low. All-from_get_or (λ a. a < place) (followed_by plan place) 0
          (λ i in_row. (h.after place (omega (arith, h.groups.len))).earlier
          (get_or (followed_by plan place) i 0)
          (Contains-get_or (followed_by plan place) i 0 in_row));
      ranks = subst (λ (n : ℕ). IsPermutation (range_with_len 0 n) plan.by_key.items)
          (sym h.groups.len) h.ranks;
    }

    -- The message at a place.
    abbrev Here : ℕ → Type 0
    Here i = (e : Entry M form) × (slice_get es i ≡ Some e)

    here : (i : ℕ) → i < length es → Here i
    here i low = there es i low

    looks : (i : ℕ) (e : Entry M form) → slice_get es i ≡ Some e → (x : Sent)
        × (slice_get ms (get_or firsts (group_of plan i) 0) ≡ Some x)
        × (look_key rules x ≡ look_key rules (sent_by e))
    looks i e at =
        let low : i < length es = get_below es i e at in
        get_mapped (look_key rules) ms (get_or firsts (group_of plan i) 0)
        (look_key rules (sent_by e))
        (h.groups.same i low
        ∙ get_map (look_key rules) ms i (sent_by e) (get_map sent_by es i e at))

    -- Groups block each other if their messages may not be swapped.
    blocked_is : (i j : ℕ) (e f : Entry M form) → i < length es → j < length es
        → slice_get es i ≡ Some e → slice_get es j ≡ Some f
        → is_blocked_by_group plan i j ≡ not (may_swap rules (sent_by e) (sent_by f))
    blocked_is i j e f low below at there =
        let g : group_of plan i < length firsts = h.groups.in_range i low in
        let k : group_of plan j < length firsts = h.groups.in_range j below in
        let u = looks i e at in
        let v = looks j f there in
        ap (λ (rows : List (List Bool)). get_or (get_or rows (group_of plan i) []) (group_of plan j)
        false) h.blocks
        ∙ ap (λ (row : List Bool). get_or row (group_of plan j) false)
        (index_map (λ p. map (blocks_at rules ms p) firsts) firsts (group_of plan i) 0 [] g)
        ∙ index_map (blocks_at rules ms (get_or firsts (group_of plan i) 0)) firsts
        (group_of plan j) 0 false k
        ∙ ap not (both_at ms (may_swap rules) (get_or firsts (group_of plan i) 0)
        (get_or firsts (group_of plan j) 0) u.0 v.0 u.1 v.1
        ∙ swap_alike rules u.0 (sent_by e) v.0 (sent_by f) u.2 v.2)

    free_is : (i j : ℕ) (e f : Entry M form) → slice_get es i ≡ Some e → slice_get es j ≡ Some f
        → s.free i j
        ≡ may_swap rules (sent_by e) (sent_by f) && not (are_tied (sent_by e) (sent_by f))
    free_is i j e f at there =
        free_at rules es t.requests_are i j e f at there
        ∙ free_parts rules (sent_by e) (sent_by f)

    tied_is : (i j : ℕ) (e f : Entry M form) → slice_get es i ≡ Some e → slice_get es j ≡ Some f
        → at_both are_tied ms i j ≡ are_tied (sent_by e) (sent_by f)
    tied_is i j e f at there =
        both_at ms are_tied i j (sent_by e) (sent_by f) (get_map sent_by es i e at)
        (get_map sent_by es j f there)

    tied_not_free : (i j : ℕ) → i < length es → j < length es → at_both are_tied ms i j ≡ true
        → s.free i j ≡ false
    tied_not_free i j low below tied =
        let e = here i low in
        let f = here j below in
        free_is i j e.0 f.0 e.1 f.1
        ∙ and_right (may_swap rules (sent_by e.0) (sent_by f.0)) _
        (ap not (sym (tied_is i j e.0 f.0 e.1 f.1) ∙ tied))

    blocked_not_free : (i j : ℕ) → i < length es → j < length es
        → is_blocked_by_group plan i j ≡ true → s.free i j ≡ false
    blocked_not_free i j low below b =
        let e = here i low in
        let f = here j below in
        free_is i j e.0 f.0 e.1 f.1
        ∙ and_left _ (not (are_tied (sent_by e.0) (sent_by f.0)))
        (not-true (may_swap rules (sent_by e.0) (sent_by f.0))
        (sym (blocked_is i j e.0 f.0 low below e.1 f.1) ∙ b))

    follows : (i j : ℕ) → i < j → j < length es → s.free i j ≡ false → HasToFollow s plan i j
    follows i j before below apart =
        let e = here i (omega arith) in
        let f = here j below in
        elim (and_cases (may_swap rules (sent_by e.0) (sent_by f.0))
        (not (are_tied (sent_by e.0) (sent_by f.0))) (sym (free_is i j e.0 f.0 e.1 f.1) ∙ apart)) [
          | inl m ↦ inl (blocked_is i j e.0 f.0 (omega arith) below e.1 f.1 ∙ ap not m)
          | inr m ↦ elim ((h.after j below).all i before (tied_is i j e.0 f.0 e.1 f.1
              ∙ not-false (are_tied (sent_by e.0) (sent_by f.0)) m)) [
                | inl w ↦ inr (i, w, inl refl)
                | inr w ↦ (
                    let later : w.0 < j = (h.after j below).earlier w.0 w.1 in
                    inr (w.0, w.1, inr (w.2, tied_not_free i w.0 (omega arith) (omega arith) w.3))
                    )
              ]
        ]

    pub is_plan : IsPlan s plan
    is_plan = record {
      keys = λ u v before below.
          let long : length plan.by_key.items ≡ length es =
          length_permutation _ _ h.ranks ∙ range_len 0 (length es) in
          let high : v < length plan.by_key.items = omega (arith, long, h.groups.len) in
          let within = permuted_below (length es) plan.by_key.items h.ranks in
          let e = here (place_at_rank plan u) (within u 0 (omega arith)) in
          let f = here (place_at_rank plan v) (within v 0 high) in
          less_is rules es t.requests_are (place_at_rank plan v) (place_at_rank plan u) f.0 e.0 f.1
          e.1 ∙ h.by_key u v before high e.0 f.0 e.1 f.1;
      blocked = λ i j before below b.
          let low : j < length es = omega (arith, h.groups.len) in
          blocked_not_free i j (omega arith) low b;
      waits = λ i j below w.
          let low : j < length es = omega (arith, h.groups.len) in
          let covers = h.after j low in
          let before : i < j = covers.earlier i w in
          tied_not_free i j (omega arith) low (covers.tied i w);
      complete = λ i j before below apart.
          let low : j < length es = omega (arith, h.groups.len) in
          follows i j before low apart;
    }

-- The parts of a plan, created from the entries and the first places as slices.
pub has_parts : {M : Type 0} {form : Form M} (t : Table M form) (plan : Plan) (firsts : List ℕ)
    (es : List (Entry M form)) (fs : List ℕ)
    → es ≡ t.entries.items → fs ≡ firsts
    → AreGroups (map (look_key (swaps_of t.rules.now)) (map sent_by es)) (length es)
    plan.groups.items firsts
    → block_rows plan ≡ block_table (swaps_of t.rules.now) (map sent_by es) fs
    → length plan.after.items ≡ length es
    → ((place : ℕ) → place < length es
    → Covers are_tied (map sent_by es) place (followed_by plan place))
    → IsPermutation (range_with_len 0 (length es)) plan.by_key.items
    → AreByKey es plan.by_key.items → HasParts t plan firsts
has_parts t plan firsts es fs e f groups blocks after_len after ranks by_key = record {
  groups = subst (λ (zs : List (Entry _ _)). AreGroups (map (look_key (swaps_of t.rules.now))
      (map sent_by zs)) (length zs) plan.groups.items firsts) e groups;
  blocks = blocks
      ∙ ap (λ (zs : List (Entry _ _)). block_table (swaps_of t.rules.now) (map sent_by zs) fs) e
      ∙ ap (block_table (swaps_of t.rules.now) (map sent_by t.entries.items)) f;
  after_len = after_len ∙ ap length e;
  after = λ place low. subst (λ (zs : List (Entry _ _)). Covers are_tied (map sent_by zs) place
      (followed_by plan place)) e (after place (omega (arith, low, ap length e)));
  ranks = subst (λ (zs : List (Entry _ _)). IsPermutation (range_with_len 0 (length zs))
      plan.by_key.items) e ranks;
  by_key = subst (λ (zs : List (Entry _ _)). AreByKey zs plan.by_key.items) e by_key;
}

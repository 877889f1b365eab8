-- The followers of each place, after one more is added.
use Rattle.std.proofs.Common.{◌≡◌, ◌≢◌, ℕ, ◌+◌, ◌<◌, ◌≤◌, List, [], ◌∷◌, ◌++◌, length, get_or, set}
use Rattle.std.proofs.Common.{Option, Some, None, ◌⊎◌, inl, inr, refl, arith, sym, ap, ◌∙◌, subst}
use Rattle.std.proofs.Common.{length-append}
use Rattle.std.specs.Prelude.{slice_get}
use Rattle.std.specs.List.{AllWithin, Contains}
use Rattle.std.proofs.lemmas.Bool.{cases_eq}
use Rattle.std.proofs.lemmas.List.{get_or-set_same, get_or-set_other, length-set}
use Rattle.dap_order.specs.Plan.{place_count, followed_by}
use Rattle.dap_order.specs.Links.{IsBelow, HasFrom, here, later, FollowBelow}
use Rattle.dap_order.specs.declared.links.Cell.{Cell}
use Rattle.dap_order.specs.declared.plan.Plan.{Plan}
use Rattle.dap_order.proofs.Lists.{get_below, get_old, get_new, get_cases, one_item}

pub below_more : (n m : ℕ) (o : Option ℕ) → n ≤ m → IsBelow n o → IsBelow m o
below_more n m None low h = h
below_more n m (Some i) low h = omega arith

pub no_cell : (cells : List Cell) (place : ℕ) (o : Option ℕ) → o ≡ None → HasFrom cells place o → ⊥
no_cell cells place o e (here i cell f at is) = let bad : None ≡ Some i = sym e ∙ f in cc
no_cell cells place o e (later i cell f at rest) = let bad : None ≡ Some i = sym e ∙ f in cc

module _ (cells : List Cell) (place : ℕ) where
  -- A place of a list is in its first cell, or in the list of the next cell.
  pub next_cell : (i : ℕ) (cell : Cell) (o : Option ℕ) → o ≡ Some i
      → slice_get cells i ≡ Some cell → HasFrom cells place o
      → (cell.place ≡ place) ⊎ HasFrom cells place cell.next
  next_cell i cell o e at (here j other f there is) =
      inl (ap (λ (z : Cell). z.place) (same i j cell other o e f at there) ∙ is)
    where
      same : (i j : ℕ) (cell other : Cell) (o : Option ℕ) → o ≡ Some i → o ≡ Some j
          → slice_get cells i ≡ Some cell → slice_get cells j ≡ Some other → cell ≡ other
      same i j cell other o e f at there =
          let both : Some i ≡ Some j = sym e ∙ f in
          let index : i ≡ j = cc in
          one_item cells i cell other at (ap (slice_get cells) index ∙ there)
  next_cell i cell o e at (later j other f there rest) =
      let both : Some i ≡ Some j = sym e ∙ f in
      let index : i ≡ j = cc in
      inr (subst (λ (z : Cell). HasFrom cells place z.next)
      (sym (one_item cells i cell other at (ap (slice_get cells) index ∙ there))) rest)

  still : (x : Cell) (o : Option ℕ) → HasFrom cells place o → HasFrom (cells ++ x ∷ []) place o
  still x o (here i cell e at is) =
      here i cell e (get_old cells x i (get_below cells i cell at) ∙ at) is
  still x o (later i cell e at rest) =
      later i cell e (get_old cells x i (get_below cells i cell at) ∙ at)
      (still x cell.next rest)

-- The list of the place e has one more cell, which is its first one.
module _ (plan : Plan) (place : ℕ) (firsts : List (Option ℕ)) (cells : List Cell)
    (was : FollowBelow plan firsts cells place) (low : place < place_count plan) (e : ℕ)
    (in_range : e < length firsts) where
  abbrev cell : Cell
  cell = record { place = place; next = get_or firsts e None }

  abbrev new : List (Option ℕ)
  new = set firsts e (Some (length cells))

  first_is : get_or new e None ≡ Some (length cells)
  first_is = get_or-set_same firsts e (Some (length cells)) None in_range

  at_end : slice_get (cells ++ cell ∷ []) (length cells) ≡ Some cell
  at_end = get_new cells cell (length cells) refl

  long : length (cells ++ cell ∷ []) ≡ length cells + 1
  long = length-append cells (cell ∷ [])

  pub pushed_kept : (list x : ℕ) → HasFrom cells x (get_or firsts list None)
      → HasFrom (cells ++ cell ∷ []) x (get_or new list None)
  pushed_kept list x h = elim (cases_eq list e) [
    | inl same ↦ subst (λ k. HasFrom (cells ++ cell ∷ []) x (get_or new k None)) (sym same)
        (later (length cells) cell first_is at_end
        (subst (λ k. HasFrom (cells ++ cell ∷ []) x (get_or firsts k None)) same
        (still cells x cell (get_or firsts list None) h)))
    | inr apart ↦ subst (HasFrom (cells ++ cell ∷ []) x)
        (sym (get_or-set_other firsts e list (Some (length cells)) None apart))
        (still cells x cell (get_or firsts list None) h)
  ]

  pub pushed_added : HasFrom (cells ++ cell ∷ []) place (get_or new e None)
  pushed_added = here (length cells) cell first_is at_end refl

  pub pushed : FollowBelow plan new (cells ++ cell ∷ []) place
  pushed = record {
    len = length-set firsts e (Some (length cells)) ∙ was.len;
    first = λ k d h. elim (cases_eq k e) [
      | inl same ↦ subst (IsBelow (length (cells ++ cell ∷ [])))
          (sym (ap (λ j. get_or new j d) same
          ∙ get_or-set_same firsts e (Some (length cells)) d in_range)) (omega (arith, long))
      | inr apart ↦ subst (IsBelow (length (cells ++ cell ∷ [])))
          (sym (get_or-set_other firsts e k (Some (length cells)) d apart))
          (below_more (length cells) (length (cells ++ cell ∷ [])) (get_or firsts k d)
          (omega (arith, long)) (was.first k d
          (omega (arith, length-set firsts e (Some (length cells))))))
    ];
    next = λ i x at. elim (get_cases cells cell i x at) [
      | inl old ↦ was.next i x old
      | inr last ↦ subst (λ (z : Cell). (z.place < place_count plan) × IsBelow i z.next) last.1
          (low, subst (λ n. IsBelow n cell.next) (sym last.0) (was.first e None in_range))
    ];
    has = λ list x below follows. pushed_kept list x (was.has list x below follows);
  }

-- Each place that the next place follows has it in its list.
pub follow_more : (plan : Plan) (place : ℕ) (firsts : List (Option ℕ)) (cells : List Cell)
    → FollowBelow plan firsts cells place
    → ((list : ℕ) → Contains (followed_by plan place) list
    → HasFrom cells place (get_or firsts list None))
    → FollowBelow plan firsts cells (place + 1)
follow_more plan place firsts cells was added = record {
  len = was.len;
  first = was.first;
  next = was.next;
  has = λ list follower h there. elim (cases_eq follower place) [
    | inl same ↦ subst (λ x. HasFrom cells x (get_or firsts list None)) (sym same)
        (added list (subst (λ j. Contains (followed_by plan j) list) same there))
    | inr apart ↦ was.has list follower (omega arith) there
  ];
}

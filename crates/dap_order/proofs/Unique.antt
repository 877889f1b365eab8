-- All lists that swaps lead to have the same order.
use Rattle.std.proofs.Common.{◌≡◌, true, false, inl, inr, List, [], ◌∷◌, ◌++◌, refl}
use Rattle.std.proofs.Common.{sym, ap, ◌∙◌, subst}
use Rattle.std.specs.Prelude.{◌&&◌}
use Rattle.std.proofs.lemmas.Bool.{and_parts, and_from, and_right, cases_Bool, both_ways}
use Rattle.std.proofs.lemmas.Bool.{false_from_ne_true}
use Rattle.dap_order.specs.Swaps.{Swaps, AreSwaps, Swapped, Reordered, unmoved, swapped}
use Rattle.dap_order.specs.Order.{all_free, IsOrdered, goes_before, put, put_all, order}
use Rattle.dap_order.proofs.Put.{put-here, put-later, goes_parts, goes_from, free-put}
use Rattle.dap_order.proofs.Moves.{reordered_on, reordered_back, order_reordered}
use Rattle.dap_order.proofs.InOrder.{order_ordered, ordered_stays}

module _ {X : Type 0} (s : Swaps X) (are : AreSwaps s) where
  goes-put : (x y z : X) (ys : List X) → s.free x z ≡ true
      → goes_before s x y (put s ys z) ≡ goes_before s x y ys
  goes-put x y z ys f = ap (λ b. (s.free x y && b) && s.less x y) (free-put s x z ys f)

  -- Two free items a and b, of which a has the smaller key, can be inserted in either order.
  module _ (a b : X) (free : s.free a b ≡ true) (below : s.less a b ≡ true) where
    not_before : (ys : List X) → goes_before s b a ys ≡ false
    not_before ys = and_right (all_free s b (a ∷ ys)) (s.less b a)
        (false_from_ne_true (s.less b a)
        (λ above. are.less_itself a (are.less_on a b a below above)))

    -- If a goes before y.
    first_here : (y : X) (ys : List X) → goes_before s a y ys ≡ true
        → put s (put s (y ∷ ys) b) a ≡ a ∷ put s (y ∷ ys) b
    first_here y ys here = elim (cases_Bool (goes_before s b y ys)) [
      | inl both ↦ (
          let parts = goes_parts s a y ys here in
          let is = put-here s b y ys both in
          let first : goes_before s a b (y ∷ ys) ≡ true =
          goes_from s a b (y ∷ ys) free
          (and_from (s.free a y) (all_free s a ys) parts.0 parts.1) below in
          ap (λ zs. put s zs a) is ∙ put-here s a b (y ∷ ys) first
          ∙ ap (λ zs. a ∷ zs) (sym is)
          )
      | inr other ↦ (
          let is = put-later s b y ys other in
          ap (λ zs. put s zs a) is
          ∙ put-here s a y (put s ys b) (goes-put a y b ys free ∙ here)
          ∙ ap (λ zs. a ∷ zs) (sym is)
          )
    ]

    -- If a goes after y, and b before y.
    second_here : (y : X) (ys : List X) → goes_before s a y ys ≡ false
        → goes_before s b y ys ≡ true
        → put s (put s (y ∷ ys) a) b ≡ put s (put s (y ∷ ys) b) a
    second_here y ys after here =
        let back = are.both_ways a b free in
        let put_a = put-later s a y ys after in
        let put_b = put-here s b y ys here in
        let not_first : goes_before s a b (y ∷ ys) ≡ false =
        false_from_ne_true (goes_before s a b (y ∷ ys)) (λ goes.
        let all = goes_parts s a b (y ∷ ys) goes in
        let each = and_parts (s.free a y) (all_free s a ys) all.1 in
        both_ways (goes_before s a y ys) after
        (goes_from s a y ys each.0 each.1
        (are.less_on a b y below (goes_parts s b y ys here).2))) in
        ap (λ zs. put s zs b) put_a
        ∙ put-here s b y (put s ys a) (goes-put b y a ys back ∙ here)
        ∙ ap (λ zs. b ∷ zs) (sym put_a)
        ∙ sym (put-later s a b (y ∷ ys) not_first)
        ∙ ap (λ zs. put s zs a) (sym put_b)

    put_twice : (ys : List X) → put s (put s ys a) b ≡ put s (put s ys b) a
    put_twice [] =
        put-later s b a [] (not_before [])
        ∙ sym (put-here s a b [] (goes_from s a b [] free refl below))
    put_twice (y ∷ ys) = elim (cases_Bool (goes_before s a y ys)) [
      | inl here ↦ ap (λ zs. put s zs b) (put-here s a y ys here)
          ∙ put-later s b a (y ∷ ys) (not_before (y ∷ ys))
          ∙ sym (first_here y ys here)
      | inr after ↦ elim (cases_Bool (goes_before s b y ys)) [
        | inl here ↦ second_here y ys after here
        | inr other ↦ ap (λ zs. put s zs b) (put-later s a y ys after)
            ∙ put-later s b y (put s ys a)
            (goes-put b y a ys (are.both_ways a b free) ∙ other)
            ∙ ap (λ zs. y ∷ zs) (put_twice ys)
            ∙ sym (put-later s a y (put s ys b) (goes-put a y b ys free ∙ after))
            ∙ ap (λ zs. put s zs a) (sym (put-later s b y ys other))
      ]
    ]

  -- Two free items can be inserted in either order.
  pub put_either_way : (a b : X) (ys : List X) → s.free a b ≡ true
      → put s (put s ys a) b ≡ put s (put s ys b) a
  put_either_way a b ys free = elim (are.apart a b free) [
    | inl below ↦ put_twice a b free below ys
    | inr above ↦ sym (put_twice b a (are.both_ways a b free) above ys)
  ]

  pub put_all-append : (done xs ys : List X)
      → put_all s done (xs ++ ys) ≡ put_all s (put_all s done xs) ys
  put_all-append done [] ys = refl
  put_all-append done (x ∷ xs) ys = put_all-append (put s done x) xs ys

  swapped_order : (xs ys : List X) → Swapped s.free xs ys → order s xs ≡ order s ys
  swapped_order xs ys one =
      let done = put_all s [] one.front in
      ap (order s) one.before
      ∙ put_all-append [] one.front (one.x ∷ one.y ∷ one.back)
      ∙ ap (λ zs. put_all s zs one.back) (put_either_way one.x one.y done one.are_free)
      ∙ sym (put_all-append [] one.front (one.y ∷ one.x ∷ one.back))
      ∙ ap (order s) (sym one.after)

  -- All lists that swaps lead to have the same order.
  pub one_order : (xs ys : List X) → Reordered s.free xs ys → order s xs ≡ order s ys
  one_order xs ys unmoved = refl
  one_order xs ys (swapped {ys = us} p one) = one_order xs us p ∙ swapped_order us ys one

  -- Swaps lead from a list to every list with the same order.
  pub reordered_from_order : (xs ys : List X) → order s xs ≡ order s ys → Reordered s.free xs ys
  reordered_from_order xs ys e =
      reordered_on s.free xs (order s xs) ys (order_reordered s are xs)
      (subst (λ zs. Reordered s.free zs ys) (sym e)
      (reordered_back s.free are.both_ways ys (order s ys) (order_reordered s are ys)))

  -- Only one of the lists that swaps lead to is in order.
  pub one_ordered : (xs ys : List X) → Reordered s.free xs ys → IsOrdered s xs → IsOrdered s ys
      → xs ≡ ys
  one_ordered xs ys p is also_is =
      sym (ordered_stays s xs is) ∙ one_order xs ys p ∙ ordered_stays s ys also_is

  pub order_again : (xs : List X) → order s (order s xs) ≡ order s xs
  order_again xs = ordered_stays s (order s xs) (order_ordered s are xs)

  -- A list in order that swaps lead to is the order.
  pub order_is : (xs ys : List X) → Reordered s.free xs ys → IsOrdered s ys → order s xs ≡ ys
  order_is xs ys p is = one_order xs ys p ∙ ordered_stays s ys is

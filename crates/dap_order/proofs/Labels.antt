-- Swaps preserve the labels, so all lists that swaps lead to have the same order by labels.
use Rattle.std.proofs.Common.{◌≡◌, true, inl, inr, List, [], ◌∷◌, ◌++◌, refl}
use Rattle.std.proofs.Common.{suc, length, take, drop, sym, ap, ◌∙◌, subst}
use Rattle.std.specs.Prelude.{◌||◌}
use Rattle.std.proofs.lemmas.Bool.{and_parts, and_from, or_left, or_right}
use Rattle.std.proofs.lemmas.List.{append_assoc, append-nil, map-append, length-map}
use Rattle.std.proofs.lemmas.List.{take_at, drop_at}
use Rattle.dap_order.specs.Swaps.{AreSwaps, Swapped, Reordered, unmoved, swapped}
use Rattle.dap_order.specs.Order.{IsOrdered, order}
use Rattle.dap_order.specs.Labels.{Labels, AreLabels, label_after, label, by_label}
use Rattle.dap_order.specs.Labels.{Labelled}
use Rattle.dap_order.specs.Labels.{items_of, order_by_label}
use Rattle.dap_order.proofs.Ordering.{labelled_are_swaps}
use Rattle.dap_order.proofs.Moves.{reordered_on, reordered_back, order_reordered}
use Rattle.dap_order.proofs.InOrder.{order_ordered, ordered_stays}
use Rattle.dap_order.proofs.Unique.{one_order}

module _ {X L : Type 0} (s : Labels X L) where
  -- Labels leave the items unchanged.
  items_after : (before xs : List X) → items_of s (label_after s before xs) ≡ xs
  items_after before [] = refl
  items_after before (x ∷ xs) = ap (λ ys. x ∷ ys) (items_after (before ++ x ∷ []) xs)

  pub label_append : (before xs ys : List X)
      → label_after s before (xs ++ ys)
      ≡ label_after s before xs ++ label_after s (before ++ xs) ys
  label_append before [] ys = ap (λ zs. label_after s zs ys) (sym (append-nil before))
  label_append before (x ∷ xs) ys =
      ap (λ zs. record { item = x; label = s.label_of before x } ∷ zs)
      (label_append (before ++ x ∷ []) xs ys
      ∙ ap (λ zs. label_after s (before ++ x ∷ []) xs ++ label_after s zs ys)
      (append_assoc before (x ∷ []) xs))

  -- The same labels follow after either list.
  record SameBefore (before other : List X) : Type 0 where
    same_label : (between : List X) (z : X)
        → s.label_of (before ++ between) z ≡ s.label_of (other ++ between) z

  same_after : (before other xs : List X) → SameBefore before other
      → label_after s before xs ≡ label_after s other xs
  same_after before other [] same = refl
  same_after before other (x ∷ xs) same =
      let here : s.label_of before x ≡ s.label_of other x =
      ap (λ zs. s.label_of zs x) (sym (append-nil before)) ∙ same.same_label [] x
      ∙ ap (λ zs. s.label_of zs x) (append-nil other) in
      let next : SameBefore (before ++ x ∷ []) (other ++ x ∷ []) = record {
        same_label = λ between z.
            ap (λ zs. s.label_of zs z) (append_assoc before (x ∷ []) between)
            ∙ same.same_label (x ∷ between) z
            ∙ ap (λ zs. s.label_of zs z) (sym (append_assoc other (x ∷ []) between));
      } in
      ap (λ a. record { item = x; label = a } ∷ label_after s (before ++ x ∷ []) xs) here
      ∙ ap (λ zs. record { item = x; label = s.label_of other x } ∷ zs)
      (same_after (before ++ x ∷ []) (other ++ x ∷ []) xs next)

  module _ (are : AreLabels s) where
    pub are_swaps : AreSwaps (by_label s)
    are_swaps = labelled_are_swaps s.free s.less are.both_ways are.less_itself are.less_on

    -- An item with its label after others.
    abbrev labelled_at : List X → X → Labelled X L
    labelled_at before x = record { item = x; label = s.label_of before x }

    free_with_labels : (before : List X) (x y : X) → s.free x y ≡ true
        → (by_label s).free (labelled_at before x) (labelled_at before y) ≡ true
    free_with_labels before x y f =
        let a = s.label_of before x in
        let b = s.label_of before y in
        and_from (s.free x y) (s.less a b || s.less b a) f
        (elim (are.apart before x y f) [
          | inl below ↦ or_left (s.less a b) (s.less b a) below
          | inr above ↦ or_right (s.less a b) (s.less b a) above
        ])

    label_two : (front back : List X) (x y : X) → s.free x y ≡ true
        → label s (front ++ x ∷ y ∷ back)
        ≡ label s front ++ labelled_at front x ∷ labelled_at front y
        ∷ label_after s (front ++ x ∷ y ∷ []) back
    label_two front back x y f =
        label_append [] front (x ∷ y ∷ back)
        ∙ ap (λ a. label s front ++ labelled_at front x ∷ record { item = y; label = a }
        ∷ label_after s ((front ++ x ∷ []) ++ y ∷ []) back) (are.own front x y f)
        ∙ ap (λ zs. label s front ++ labelled_at front x ∷ labelled_at front y
        ∷ label_after s zs back) (append_assoc front (x ∷ []) (y ∷ []))

    same_before : (front : List X) (x y : X) → s.free x y ≡ true
        → SameBefore (front ++ x ∷ y ∷ []) (front ++ y ∷ x ∷ [])
    same_before front x y f = record {
      same_label = λ between z.
          ap (λ zs. s.label_of zs z) (append_assoc front (x ∷ y ∷ []) between)
          ∙ are.after front between x y z f
          ∙ ap (λ zs. s.label_of zs z) (sym (append_assoc front (y ∷ x ∷ []) between));
    }

    label_two_swapped : (front back : List X) (x y : X) → s.free x y ≡ true
        → label s (front ++ y ∷ x ∷ back)
        ≡ label s front ++ labelled_at front y ∷ labelled_at front x
        ∷ label_after s (front ++ x ∷ y ∷ []) back
    label_two_swapped front back x y f =
        label_two front back y x (are.both_ways x y f)
        ∙ ap (λ zs. label s front ++ labelled_at front y ∷ labelled_at front x ∷ zs)
        (sym (same_after (front ++ x ∷ y ∷ []) (front ++ y ∷ x ∷ []) back
        (same_before front x y f)))

    -- A swap of items is a swap of items with their labels.
    swapped_with_labels : (xs ys : List X) → Swapped s.free xs ys
        → Swapped (by_label s).free (label s xs) (label s ys)
    swapped_with_labels xs ys one = record {
      front = label s one.front;
      back = label_after s (one.front ++ one.x ∷ one.y ∷ []) one.back;
      x = labelled_at one.front one.x;
      y = labelled_at one.front one.y;
      are_free = free_with_labels one.front one.x one.y one.are_free;
      before = ap (label s) one.before ∙ label_two one.front one.back one.x one.y one.are_free;
      after = ap (label s) one.after
          ∙ label_two_swapped one.front one.back one.x one.y one.are_free;
    }

    pub reordered_with_labels : (xs ys : List X) → Reordered s.free xs ys
        → Reordered (by_label s).free (label s xs) (label s ys)
    reordered_with_labels xs ys unmoved = unmoved
    reordered_with_labels xs ys (swapped {ys = us} p one) =
        swapped (reordered_with_labels xs us p) (swapped_with_labels us ys one)

  swapped_without : (xs ys : List (Labelled X L)) → Swapped (by_label s).free xs ys
      → Swapped s.free (items_of s xs) (items_of s ys)
  swapped_without xs ys one = record {
    front = items_of s one.front;
    back = items_of s one.back;
    x = one.x.item;
    y = one.y.item;
    are_free = (and_parts (s.free one.x.item one.y.item)
        (s.less one.x.label one.y.label || s.less one.y.label one.x.label) one.are_free).0;
    before = ap (items_of s) one.before
        ∙ map-append (λ x. x.item) one.front (one.x ∷ one.y ∷ one.back);
    after = ap (items_of s) one.after
        ∙ map-append (λ x. x.item) one.front (one.y ∷ one.x ∷ one.back);
  }

  pub reordered_without : (xs ys : List (Labelled X L)) → Reordered (by_label s).free xs ys
      → Reordered s.free (items_of s xs) (items_of s ys)
  reordered_without xs ys unmoved = unmoved
  reordered_without xs ys (swapped {ys = us} p one) =
      swapped (reordered_without xs us p) (swapped_without us ys one)

  pub items_of-label : (xs : List X) → items_of s (label s xs) ≡ xs
  items_of-label xs = items_after [] xs

  module _ (are : AreLabels s) where
    -- Swaps lead to the order by labels.
    pub order_by_label_reordered : (xs : List X) → Reordered s.free xs (order_by_label s xs)
    order_by_label_reordered xs =
        subst (λ zs. Reordered s.free zs (order_by_label s xs)) (items_of-label xs)
        (reordered_without (label s xs) (order (by_label s) (label s xs))
        (order_reordered (by_label s) (are_swaps are) (label s xs)))

    -- Lists that swaps lead to have the same order by labels.
    pub one_order_by_label : (xs ys : List X) → Reordered s.free xs ys
        → order_by_label s xs ≡ order_by_label s ys
    one_order_by_label xs ys p =
        ap (items_of s)
        (one_order (by_label s) (are_swaps are) (label s xs) (label s ys)
        (reordered_with_labels are xs ys p))

    -- Swaps lead from a list to every list with the same order by labels.
    pub reordered_from_order_by_label : (xs ys : List X)
        → order_by_label s xs ≡ order_by_label s ys → Reordered s.free xs ys
    reordered_from_order_by_label xs ys e =
        reordered_on s.free xs (order_by_label s xs) ys (order_by_label_reordered xs)
        (subst (λ zs. Reordered s.free zs ys) (sym e)
        (reordered_back s.free are.both_ways ys (order_by_label s ys)
        (order_by_label_reordered ys)))

    pub order_by_label_again : (xs : List X)
        → order_by_label s (order_by_label s xs) ≡ order_by_label s xs
    order_by_label_again xs =
        sym (one_order_by_label xs (order_by_label s xs) (order_by_label_reordered xs))

    pub ordered_by_label_stays : (xs : List X) → IsOrdered (by_label s) (label s xs)
        → order_by_label s xs ≡ xs
    ordered_by_label_stays xs is =
        ap (items_of s) (ordered_stays (by_label s) (label s xs) is) ∙ items_of-label xs

same_parts : {A : Type 0} (a b c d : List A) → a ++ b ≡ c ++ d → length a ≡ length c
    → (a ≡ c) × (b ≡ d)
same_parts a b c d e n = (
  sym (take_at a b (length a) refl) ∙ ap (take (length a)) e ∙ take_at c d (length a) (sym n),
  sym (drop_at a b (length a) refl) ∙ ap (drop (length a)) e ∙ drop_at c d (length a) (sym n),
)

module _ {X L : Type 0} (s : Labels X L) (are : AreLabels s) where
  -- If the items of a list have their own labels, they still have them after swaps.
  abbrev HasLabels : List (Labelled X L) → Type 0
  HasLabels xs = xs ≡ label s (items_of s xs)

  pub length-label : (before xs : List X) → length (label_after s before xs) ≡ length xs
  length-label before [] = refl
  length-label before (x ∷ xs) = ap suc (length-label (before ++ x ∷ []) xs)

  swapped_has : (xs ys : List (Labelled X L)) → Swapped (by_label s).free xs ys → HasLabels xs
      → HasLabels ys
  swapped_has xs ys one has =
      let front = items_of s one.front in
      let back = items_of s one.back in
      let free =
      (and_parts (s.free one.x.item one.y.item)
      (s.less one.x.label one.y.label || s.less one.y.label one.x.label) one.are_free).0 in
      let rest = label_after s (front ++ one.x.item ∷ one.y.item ∷ []) back in
      let u = labelled_at s are front one.x.item in
      let v = labelled_at s are front one.y.item in
      let whole : one.front ++ one.x ∷ one.y ∷ one.back ≡ label s front ++ u ∷ v ∷ rest =
      sym one.before ∙ has ∙ ap (λ zs. label s (items_of s zs)) one.before
      ∙ ap (label s) (map-append (λ x. x.item) one.front (one.x ∷ one.y ∷ one.back))
      ∙ label_two s are front back one.x.item one.y.item free in
      let parts =
      same_parts one.front (one.x ∷ one.y ∷ one.back) (label s front) (u ∷ v ∷ rest) whole
      (sym (length-label [] front ∙ length-map one.front (λ x. x.item))) in
      let is_x : one.x ≡ u = cc in
      let is_y : one.y ≡ v = cc in
      let is_back : one.back ≡ rest = cc in
      let turned : one.front ++ one.y ∷ one.x ∷ one.back ≡ label s front ++ v ∷ u ∷ rest = cc in
      one.after ∙ turned
      ∙ sym (label_two_swapped s are front back one.x.item one.y.item free)
      ∙ ap (label s) (sym (map-append (λ x. x.item) one.front (one.y ∷ one.x ∷ one.back)))
      ∙ ap (λ zs. label s (items_of s zs)) (sym one.after)

  reordered_has : (xs ys : List (Labelled X L)) → Reordered (by_label s).free xs ys → HasLabels xs
      → HasLabels ys
  reordered_has xs ys unmoved has = has
  reordered_has xs ys (swapped {ys = us} p one) has =
      swapped_has us ys one (reordered_has xs us p has)

  pub label_order : (xs : List X) → label s (order_by_label s xs) ≡ order (by_label s) (label s xs)
  label_order xs =
      sym (reordered_has (label s xs) (order (by_label s) (label s xs))
      (order_reordered (by_label s) (are_swaps s are) (label s xs))
      (ap (label s) (sym (items_of-label s xs))))

  -- The order by labels is in order.
  pub order_by_label_ordered : (xs : List X)
      → IsOrdered (by_label s) (label s (order_by_label s xs))
  order_by_label_ordered xs =
      subst (IsOrdered (by_label s)) (sym (label_order xs))
      (order_ordered (by_label s) (are_swaps s are) (label s xs))

  -- Only one of the lists that swaps lead to is in order by its labels.
  pub one_ordered_by_label : (xs ys : List X) → Reordered s.free xs ys
      → IsOrdered (by_label s) (label s xs) → IsOrdered (by_label s) (label s ys) → xs ≡ ys
  one_ordered_by_label xs ys p is also_is =
      sym (ordered_by_label_stays s are xs is) ∙ one_order_by_label s are xs ys p
      ∙ ordered_by_label_stays s are ys also_is

-- Parts of lists in order. Inserting an item into a list in order produces a list in order.
use Rattle.std.proofs.Common.{◌≡◌, true, false, inl, inr, List, [], ◌∷◌, ◌++◌, refl}
use Rattle.std.proofs.Common.{sym, ap, ◌∙◌, subst}
use Rattle.std.proofs.lemmas.Bool.{and_parts, and_from, cases_Bool, both_ways}
use Rattle.std.proofs.lemmas.List.{append_assoc, append-nil}
use Rattle.dap_order.specs.Swaps.{Swaps, AreSwaps}
use Rattle.dap_order.specs.Order.{all_free, IsOrdered, goes_before, put, put_all, order}
use Rattle.dap_order.proofs.Put.{put-here, put-later, goes_parts, goes_from, put_between}
use Rattle.dap_order.proofs.Put.{free_parts, free_joined, two_cuts, TwoCuts, item_earlier}
use Rattle.dap_order.proofs.Put.{item_same, item_later}

module _ {X : Type 0} (s : Swaps X) where
  -- No item of ys goes before x, where x is right before ys.
  pub record IsFirst (x : X) (ys : List X) : Type 0 where
    pub none : (between back : List X) (y : X) → ys ≡ between ++ y ∷ back
        → all_free s y (x ∷ between) ≡ true → s.less y x ≡ true → ⊥

  none_ordered : IsOrdered s []
  none_ordered = record {
    none = λ front between back x y e f l.
        no_item front x (between ++ y ∷ back) e;
  }
    where
      no_item : (front : List X) (x : X) (rest : List X) → [] ≡ front ++ x ∷ rest → ⊥
      no_item [] x rest e = cc
      no_item (z ∷ front) x rest e = cc

  pub ordered_first : (x : X) (ys : List X) → IsOrdered s (x ∷ ys) → IsFirst x ys
  ordered_first x ys is = record {
    none = λ between back y e f l.
        is.none [] between back x y (ap (λ zs. x ∷ zs) e) f l;
  }

  pub ordered_rest : (x : X) (ys : List X) → IsOrdered s (x ∷ ys) → IsOrdered s ys
  ordered_rest x ys is = record {
    none = λ front between back y z e f l.
        is.none (x ∷ front) between back y z (ap (λ zs. x ∷ zs) e) f l;
  }

  pub ordered_from : (x : X) (ys : List X) → IsFirst x ys → IsOrdered s ys → IsOrdered s (x ∷ ys)
  ordered_from x ys first rest = record { none = at }
    where
      at : (front between back : List X) (y z : X)
          → x ∷ ys ≡ front ++ y ∷ (between ++ z ∷ back) → all_free s z (y ∷ between) ≡ true
          → s.less z y ≡ true → ⊥
      at [] between back y z e f l =
          let head : x ≡ y = cc in
          let more : ys ≡ between ++ z ∷ back = cc in
          first.none between back z more
          (subst (λ v. all_free s z (v ∷ between) ≡ true) (sym head) f)
          (subst (λ v. s.less z v ≡ true) (sym head) l)
      at (v ∷ front) between back y z e f l =
          let more : ys ≡ front ++ y ∷ (between ++ z ∷ back) = cc in
          rest.none front between back y z more f l

  pub ordered_front : (xs ys : List X) → IsOrdered s (xs ++ ys) → IsOrdered s xs
  ordered_front xs ys is = record {
    none = λ front between back x y e f l.
        is.none front between (back ++ ys) x y
        (ap (λ zs. zs ++ ys) e ∙ append_assoc front (x ∷ (between ++ y ∷ back)) ys
        ∙ ap (λ zs. front ++ x ∷ zs) (append_assoc between (y ∷ back) ys)) f l;
  }

  -- If an item is inserted after y and does not go before y, y remains first.
  first_kept : (x y : X) (a b : List X) → IsFirst y (a ++ b) → all_free s x b ≡ true
      → goes_before s x y (a ++ b) ≡ false → IsFirst y (a ++ x ∷ b)
  first_kept x y a b first free not_before = record {
    none = λ c d z e f l.
        at c d z f l (two_cuts a x b c z d e);
  }
    where
      at : (c d : List X) (z : X) → all_free s z (y ∷ c) ≡ true → s.less z y ≡ true
          → TwoCuts a x b c z d → ⊥
      at c d z f l (item_earlier m p q) =
          first.none c (m ++ b) z
          (ap (λ vs. vs ++ b) p ∙ append_assoc c (z ∷ m) b) f l
      at c d z f l (item_same p e q) =
          let here = and_parts (s.free z y) (all_free s z c) f in
          let with_y : s.free x y ≡ true = subst (λ v. s.free v y ≡ true) (sym e) here.0 in
          let with_a : all_free s x a ≡ true =
          subst (λ vs. all_free s x vs ≡ true) (sym p)
          (subst (λ v. all_free s v c ≡ true) (sym e) here.1) in
          both_ways (goes_before s x y (a ++ b)) not_before
          (goes_from s x y (a ++ b) with_y (free_joined s x a b with_a free)
          (subst (λ v. s.less v y ≡ true) (sym e) l))
      at c d z f l (item_later m p q) =
          let here = and_parts (s.free z y) (all_free s z c) f in
          let parts = free_parts s z a (x ∷ m) (subst (λ vs. all_free s z vs ≡ true) p here.1) in
          let after = and_parts (s.free z x) (all_free s z m) parts.1 in
          first.none (a ++ m) d z
          (ap (λ vs. a ++ vs) q ∙ sym (append_assoc a m (z ∷ d)))
          (and_from (s.free z y) (all_free s z (a ++ m)) here.0
          (free_joined s z a m parts.0 after.1)) l

  pub first_put : (x y : X) (ys : List X) → IsFirst y ys → goes_before s x y ys ≡ false
      → IsFirst y (put s ys x)
  first_put x y ys first not_before =
      let at = put_between s ys x in
      subst (IsFirst y) (sym at.is)
      (first_kept x y at.front at.back (subst (IsFirst y) at.was first) at.are_free
      (subst (λ vs. goes_before s x y vs ≡ false) at.was not_before))

  module _ (are : AreSwaps s) where
    -- An item with a smaller key than y is first before y.
    first_smaller : (x y : X) (ys : List X) → IsFirst y ys → s.less x y ≡ true
        → IsFirst x (y ∷ ys)
    first_smaller x y ys first below = record { none = at }
      where
        at : (between back : List X) (z : X) → y ∷ ys ≡ between ++ z ∷ back
            → all_free s z (x ∷ between) ≡ true → s.less z x ≡ true → ⊥
        at [] back z e f l =
            let head : y ≡ z = cc in
            are.less_itself x
            (are.less_on x z x (subst (λ v. s.less x v ≡ true) head below) l)
        at (v ∷ between) back z e f l =
            let head : y ≡ v = cc in
            let more : ys ≡ between ++ z ∷ back = cc in
            first.none between back z more
            (subst (λ w. all_free s z (w ∷ between) ≡ true) (sym head)
            (and_parts (s.free z x) (all_free s z (v ∷ between)) f).1)
            (are.less_on z x y l below)

    pub put_ordered : (ys : List X) (x : X) → IsOrdered s ys → IsOrdered s (put s ys x)
    put_ordered [] x is = ordered_from x [] (record {
      none = λ between back y e f l.
          nothing_after between back y e;
    }) none_ordered
      where
        nothing_after : (between back : List X) (y : X) → [] ≡ between ++ y ∷ back → ⊥
        nothing_after [] back y e = cc
        nothing_after (z ∷ between) back y e = cc
    put_ordered (y ∷ ys) x is = elim (cases_Bool (goes_before s x y ys)) [
      | inl here ↦ subst (IsOrdered s) (sym (put-here s x y ys here))
          (ordered_from x (y ∷ ys)
          (first_smaller x y ys (ordered_first y ys is) (goes_parts s x y ys here).2) is)
      | inr later ↦ subst (IsOrdered s) (sym (put-later s x y ys later))
          (ordered_from y (put s ys x)
          (first_put x y ys (ordered_first y ys is) later)
          (put_ordered ys x (ordered_rest y ys is)))
    ]

    put_all_ordered : (done xs : List X) → IsOrdered s done
        → IsOrdered s (put_all s done xs)
    put_all_ordered done [] is = is
    put_all_ordered done (x ∷ xs) is =
        put_all_ordered (put s done x) xs (put_ordered done x is)

    -- The order of a list is in order.
    pub order_ordered : (xs : List X) → IsOrdered s (order s xs)
    order_ordered xs = put_all_ordered [] xs none_ordered

  -- An item is inserted at the end if the list with it at the end is in order.
  put_last : (ys : List X) (x : X) → IsOrdered s (ys ++ x ∷ []) → put s ys x ≡ ys ++ x ∷ []
  put_last [] x is = refl
  put_last (y ∷ ys) x is = elim (cases_Bool (goes_before s x y ys)) [
    | inl here ↦ absurd (
        let parts = goes_parts s x y ys here in
        is.none [] ys [] y x refl
        (and_from (s.free x y) (all_free s x ys) parts.0 parts.1) parts.2
        )
    | inr later ↦ put-later s x y ys later
        ∙ ap (λ zs. y ∷ zs) (put_last ys x (ordered_rest y (ys ++ x ∷ []) is))
  ]

  put_all_last : (done xs : List X) → IsOrdered s (done ++ xs)
      → put_all s done xs ≡ done ++ xs
  put_all_last done [] is = sym (append-nil done)
  put_all_last done (x ∷ xs) is =
      let split = append_assoc done (x ∷ []) xs in
      let whole = subst (IsOrdered s) (sym split) is in
      let last = put_last done x (ordered_front (done ++ x ∷ []) xs whole) in
      ap (λ zs. put_all s zs xs) last ∙ put_all_last (done ++ x ∷ []) xs whole ∙ split

  -- A list in order is its own order.
  pub ordered_stays : (xs : List X) → IsOrdered s xs → order s xs ≡ xs
  ordered_stays xs is = put_all_last [] xs is

-- If two lists are alike element by element, so are their orders.
use Rattle.std.proofs.Common.{◌≡◌, inl, inr, List, [], ◌∷◌, map, refl}
use Rattle.std.proofs.Common.{◌++◌, sym, ◌∙◌, subst}
use Rattle.std.specs.Prelude.{⊤}
use Rattle.std.specs.List.{AllZip}
use Rattle.std.proofs.lemmas.Bool.{cases_Bool}
use Rattle.dap_order.specs.Swaps.{Swaps}
use Rattle.dap_order.specs.Order.{all_free, goes_before, put, put_all, order}
use Rattle.dap_order.specs.Labels.{Labels, label_after, label, by_label, items_of}
use Rattle.dap_order.specs.Labels.{Labelled}
use Rattle.dap_order.specs.Labels.{order_by_label}
use Rattle.dap_order.specs.Alike.{AreAlike, EachAfter, HaveAlikeLabels}
use Rattle.dap_order.proofs.Put.{put-here, put-later}

zip_more : {X Y : Type 0} (Alike : X → Y → Type 0) (xs : List X) (us : List Y) (x : X) (u : Y)
    → AllZip Alike xs us → Alike x u → AllZip Alike (xs ++ x ∷ []) (us ++ u ∷ [])
zip_more Alike [] [] x u all a = (a, tt)
zip_more Alike [] (v ∷ us) x u all a = absurd all
zip_more Alike (y ∷ xs) [] x u all a = absurd all
zip_more Alike (y ∷ xs) (v ∷ us) x u all a = (all.0, zip_more Alike xs us x u all.1 a)

module _ {X Y : Type 0} (s : Swaps X) (t : Swaps Y) (Alike : X → Y → Type 0)
    (are : AreAlike s t Alike) where
  all_free_alike : (x : X) (u : Y) (ys : List X) (vs : List Y) → Alike x u → AllZip Alike ys vs
      → all_free s x ys ≡ all_free t u vs
  all_free_alike x u [] [] a all = refl
  all_free_alike x u [] (v ∷ vs) a all = absurd all
  all_free_alike x u (y ∷ ys) [] a all = absurd all
  all_free_alike x u (y ∷ ys) (v ∷ vs) a all =
      let one = are.same_free x y u v a all.0 in
      let rest = all_free_alike x u ys vs a all.1 in cc

  goes_alike : (x y : X) (ys : List X) (u v : Y) (vs : List Y) → Alike x u → Alike y v
      → AllZip Alike ys vs → goes_before s x y ys ≡ goes_before t u v vs
  goes_alike x y ys u v vs a b all =
      let one = are.same_free x y u v a b in
      let key = are.same_less x y u v a b in
      let rest = all_free_alike x u ys vs a all in cc

  put_alike : (ys : List X) (x : X) (vs : List Y) (u : Y) → AllZip Alike ys vs → Alike x u
      → AllZip Alike (put s ys x) (put t vs u)
  put_alike [] x [] u all a = (a, tt)
  put_alike [] x (v ∷ vs) u all a = absurd all
  put_alike (y ∷ ys) x [] u all a = absurd all
  put_alike (y ∷ ys) x (v ∷ vs) u all a =
      let both = goes_alike x y ys u v vs a all.0 all.1 in
      elim (cases_Bool (goes_before s x y ys)) [
        | inl here ↦ subst (λ zs. AllZip Alike zs (put t (v ∷ vs) u))
            (sym (put-here s x y ys here))
            (subst (AllZip Alike (x ∷ y ∷ ys)) (sym (put-here t u v vs (sym both ∙ here)))
            (a, all))
        | inr after ↦ subst (λ zs. AllZip Alike zs (put t (v ∷ vs) u))
            (sym (put-later s x y ys after))
            (subst (AllZip Alike (y ∷ put s ys x))
            (sym (put-later t u v vs (sym both ∙ after)))
            (all.0, put_alike ys x vs u all.1 a))
      ]

  put_all_alike : (done xs : List X) (made us : List Y) → AllZip Alike done made
      → AllZip Alike xs us → AllZip Alike (put_all s done xs) (put_all t made us)
  put_all_alike done [] made [] p q = p
  put_all_alike done [] made (u ∷ us) p q = absurd q
  put_all_alike done (x ∷ xs) made [] p q = absurd q
  put_all_alike done (x ∷ xs) made (u ∷ us) p q =
      put_all_alike (put s done x) xs (put t made u) us (put_alike done x made u p q.0)
      q.1

  pub order_alike : (xs : List X) (us : List Y) → AllZip Alike xs us
      → AllZip Alike (order s xs) (order t us)
  order_alike xs us all = put_all_alike [] xs [] us tt all

module _ {X Y : Type 0} (f : X → Y) where
  zip_map : (xs : List X) → AllZip (λ x y. f x ≡ y) xs (map f xs)
  zip_map [] = tt
  zip_map (x ∷ xs) = (refl, zip_map xs)

  map_zip : (xs : List X) (ys : List Y) → AllZip (λ x y. f x ≡ y) xs ys → map f xs ≡ ys
  map_zip [] [] all = refl
  map_zip [] (y ∷ ys) all = absurd all
  map_zip (x ∷ xs) [] all = absurd all
  map_zip (x ∷ xs) (y ∷ ys) all = let head = all.0 in let rest = map_zip xs ys all.1 in cc

module _ {X Y : Type 0} (s : Swaps X) (t : Swaps Y) (f : X → Y) where
  -- A map that preserves freeness and the order of keys can be applied before or after the
  -- ordering.
  pub order-map : ((x y : X) → s.free x y ≡ t.free (f x) (f y))
      → ((x y : X) → s.less x y ≡ t.less (f x) (f y)) → (xs : List X)
      → order t (map f xs) ≡ map f (order s xs)
  order-map free less xs =
      let are : AreAlike s t (λ x y. f x ≡ y) = record {
        same_free = λ x y u v a b. let one = free x y in cc;
        same_less = λ x y u v a b. let one = less x y in cc;
      } in
      sym (map_zip f (order s xs) (order t (map f xs))
      (order_alike s t (λ x y. f x ≡ y) are xs (map f xs) (zip_map f xs)))

module _ {X Y L M : Type 0} (s : Labels X L) (t : Labels Y M) (Alike : X → Y → Type 0)
    (AlikeLabel : L → M → Type 0) where
  abbrev pub Both : Labelled X L → Labelled Y M → Type 0
  Both x u = Alike x.item u.item × AlikeLabel x.label u.label

  pub label_alike : (Fine : List X → X → Type 0)
      → ((before : List X) (x : X) (other : List Y) (u : Y) → AllZip Alike before other
      → Alike x u → Fine before x → AlikeLabel (s.label_of before x) (t.label_of other u))
      → (before xs : List X) (other us : List Y) → AllZip Alike before other
      → AllZip Alike xs us → EachAfter Fine before xs
      → AllZip Both (label_after s before xs) (label_after t other us)
  label_alike Fine labels before [] other [] p q fine = tt
  label_alike Fine labels before [] other (u ∷ us) p q fine = absurd q
  label_alike Fine labels before (x ∷ xs) other [] p q fine = absurd q
  label_alike Fine labels before (x ∷ xs) other (u ∷ us) p q fine = (
    (q.0, labels before x other u p q.0 fine.0),
    label_alike Fine labels (before ++ x ∷ []) xs (other ++ u ∷ []) us
        (zip_more Alike before other x u p q.0) q.1 fine.1,
  )

  items_alike : (xs : List (Labelled X L)) (us : List (Labelled Y M)) → AllZip Both xs us
      → AllZip Alike (items_of s xs) (items_of t us)
  items_alike [] [] all = tt
  items_alike [] (u ∷ us) all = absurd all
  items_alike (x ∷ xs) [] all = absurd all
  items_alike (x ∷ xs) (u ∷ us) all = (all.0.0, items_alike xs us all.1)

  module _ (Fine : List X → X → Type 0) (have : HaveAlikeLabels s t Fine Alike AlikeLabel) where
    both_alike : AreAlike (by_label s) (by_label t) Both
    both_alike = record {
      same_free = λ x y u v a b.
          let one = have.same_free x.item y.item u.item v.item a.0 b.0 in
          let two = have.same_less x.label y.label u.label v.label a.1 b.1 in
          let three = have.same_less y.label x.label v.label u.label b.1 a.1 in cc;
      same_less = λ x y u v a b. have.same_less x.label y.label u.label v.label a.1 b.1;
    }

    pub order_by_label_alike : (xs : List X) (us : List Y) → AllZip Alike xs us
        → EachAfter Fine [] xs → AllZip Alike (order_by_label s xs) (order_by_label t us)
    order_by_label_alike xs us all fine =
        items_alike (order (by_label s) (label s xs)) (order (by_label t) (label t us))
        (order_alike (by_label s) (by_label t) Both both_alike (label s xs) (label t us)
        (label_alike Fine have.label [] xs [] us tt all fine))

pub all_fine : {X : Type 0} (before xs : List X) → EachAfter (λ before x. ⊤) before xs
all_fine before [] = tt
all_fine before (x ∷ xs) = (tt, all_fine (before ++ x ∷ []) xs)

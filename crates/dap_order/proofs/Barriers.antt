-- A barrier divides a list: the items before it and the items after it are ordered separately.
use Rattle.std.proofs.Common.{◌≡◌, false, List, [], ◌∷◌, ◌++◌, refl, ap, ◌∙◌}
use Rattle.std.proofs.lemmas.Bool.{and_left, false_from_ne_true, both_ways}
use Rattle.std.specs.Prelude.{◌||◌}
use Rattle.std.proofs.lemmas.List.{map-append}
use Rattle.dap_order.specs.Swaps.{Swaps, AreSwaps}
use Rattle.dap_order.specs.Order.{all_free, put, put_all, order}
use Rattle.dap_order.specs.Labels.{Labels, AreLabels, label, label_after, by_label}
use Rattle.dap_order.specs.Labels.{Labelled}
use Rattle.dap_order.specs.Labels.{items_of, order_by_label}
use Rattle.dap_order.specs.Barriers.{IsBarrier, order_by_label_after}
use Rattle.dap_order.proofs.Put.{put-later}
use Rattle.dap_order.proofs.Places.{put_after}
use Rattle.dap_order.proofs.Unique.{put_all-append}
use Rattle.dap_order.proofs.Labels.{label_append, are_swaps}

module _ {X : Type 0} (s : Swaps X) (are : AreSwaps s) (b : X) (is : IsBarrier s.free b) where
  put_last : (ys : List X) → put s ys b ≡ ys ++ b ∷ []
  put_last [] = refl
  put_last (y ∷ ys) =
      let stuck : s.free b y ≡ false =
      false_from_ne_true (s.free b y) (λ f. both_ways (s.free y b) (is y) (are.both_ways b y f)) in
      put-later s b y ys
      (and_left (all_free s b (y ∷ ys)) (s.less b y)
      (and_left (s.free b y) (all_free s b ys) stuck))
      ∙ ap (λ zs. y ∷ zs) (put_last ys)

  put_all_after : (front done xs : List X)
      → put_all s (front ++ b ∷ done) xs ≡ front ++ b ∷ put_all s done xs
  put_all_after front done [] = refl
  put_all_after front done (x ∷ xs) =
      ap (λ zs. put_all s zs xs) (put_after s x b front done (is x))
      ∙ put_all_after front (put s done x) xs

  pub order-barrier : (xs ys : List X) → order s (xs ++ b ∷ ys) ≡ order s xs ++ b ∷ order s ys
  order-barrier xs ys =
      put_all-append s are [] xs (b ∷ ys)
      ∙ ap (λ zs. put_all s zs ys) (put_last (order s xs))
      ∙ put_all_after (order s xs) [] ys

module _ {X L : Type 0} (s : Labels X L) (are : AreLabels s) (b : X) (is : IsBarrier s.free b) where
  pub order_by_label-barrier : (xs ys : List X)
      → order_by_label s (xs ++ b ∷ ys)
      ≡ order_by_label s xs ++ b ∷ order_by_label_after s (xs ++ b ∷ []) ys
  order_by_label-barrier xs ys =
      let mark : Labelled X L = record { item = b; label = s.label_of xs b } in
      let rest = label_after s (xs ++ b ∷ []) ys in
      ap (λ zs. items_of s (order (by_label s) zs)) (label_append s [] xs (b ∷ ys))
      ∙ ap (items_of s)
      (order-barrier (by_label s) (are_swaps s are) mark
      (λ x. and_left (s.free x.item b) (s.less x.label mark.label || s.less mark.label x.label)
      (is x.item)) (label s xs) rest)
      ∙ map-append (λ x. x.item) (order (by_label s) (label s xs))
      (mark ∷ order (by_label s) rest)

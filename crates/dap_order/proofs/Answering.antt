-- Swaps preserve the labels that are computed from the labels of answered items.
use Rattle.std.proofs.Common.{◌≡◌, true, List, [], ◌∷◌, ◌++◌, map, ap, ◌∙◌}
use Rattle.std.specs.Prelude.{◌||◌}
use Rattle.std.specs.List.{filter}
use Rattle.std.proofs.lemmas.Bool.{both_ways, and_left, cond-false, false_from_ne_true}
use Rattle.std.proofs.lemmas.List.{append-nil}
use Rattle.std.proofs.lemmas.List.Elements.{filter-append}
use Rattle.dap_order.specs.Swaps.{NoneFree, unmoved, swapped}
use Rattle.dap_order.specs.Labels.{Labels, AreLabels, label, label_after, by_label}
use Rattle.dap_order.specs.Labels.{Labelled}
use Rattle.dap_order.specs.Answering.{Answering, answered, answering_labels, IsAnswering}
use Rattle.dap_order.proofs.Kept.{reordered_filter, one_swap}
use Rattle.dap_order.proofs.Labels.{label_append, reordered_with_labels}

module _ {X L K : Type 0} (s : Labels X L) (a : Answering X L K) (are : AreLabels s)
    (is : IsAnswering s a) where
  answered_apart : (x : X) → NoneFree (by_label s).free (λ y. a.answered_by y.item x)
  answered_apart x y z p q =
      and_left (s.free y.item z.item) (s.less y.label z.label || s.less z.label y.label)
      (is.one_answered x y.item z.item p q)

  -- An item does not answer the item before it if the two are free with each other.
  own_answered : (before : List X) (x y : X) → s.free x y ≡ true
      → answered s a (before ++ x ∷ []) y ≡ answered s a before y
  own_answered before x y f =
      let p : Labelled X L → _ = λ z. a.answered_by z.item y in
      let last = label_after s before (x ∷ []) in
      let none : filter p last ≡ [] =
      cond-false (a.answered_by x y) last []
      (false_from_ne_true (a.answered_by x y)
      (λ h. both_ways (s.free x y) (is.not_free x y h) f)) in
      ap (λ zs. map (λ z. z.label) zs)
      (ap (filter p) (label_append s [] before (x ∷ []))
      ∙ filter-append p (label s before) last
      ∙ ap (λ zs. filter p (label s before) ++ zs) none
      ∙ append-nil (filter p (label s before)))

  answered_after : (before between : List X) (x y z : X) → s.free x y ≡ true
      → answered s a (before ++ x ∷ y ∷ between) z ≡ answered s a (before ++ y ∷ x ∷ between) z
  answered_after before between x y z f =
      ap (λ zs. map (λ z. z.label) zs)
      (reordered_filter (by_label s).free (λ l. a.answered_by l.item z) (answered_apart z)
      (label s (before ++ x ∷ y ∷ between)) (label s (before ++ y ∷ x ∷ between))
      (reordered_with_labels s are (before ++ x ∷ y ∷ between) (before ++ y ∷ x ∷ between)
      (swapped unmoved (one_swap s.free before between x y f))))

  pub are_answering_labels : AreLabels (answering_labels s a)
  are_answering_labels = record {
    both_ways = are.both_ways;
    less_itself = is.less_itself;
    less_on = is.less_on;
    apart = is.apart;
    own = λ before x y f.
        ap (λ ls. a.key y ls (s.label_of (before ++ x ∷ []) y)) (own_answered before x y f)
        ∙ ap (a.key y (answered s a before y)) (are.own before x y f);
    after = λ before between x y z f.
        ap (λ ls. a.key z ls (s.label_of (before ++ x ∷ y ∷ between) z))
        (answered_after before between x y z f)
        ∙ ap (a.key z (answered s a (before ++ y ∷ x ∷ between) z))
        (are.after before between x y z f);
  }

-- Swaps preserve the number of an item within its class.
use Rattle.std.proofs.Common.{◌≡◌, ℕ, ◌<◌, true, inl, inr, List, [], ◌∷◌}
use Rattle.std.proofs.Common.{◌++◌, length, ap, ◌∙◌, arith}
use Rattle.std.specs.Prelude.{◌&&◌, nat_lt}
use Rattle.std.specs.List.{filter}
use Rattle.std.proofs.lemmas.Bool.{and_parts, and_from, or_cases, or_left, or_right, cases_Bool}
use Rattle.std.proofs.lemmas.Bool.{both_ways, cond-false, ltb-true, lt-ltb}
use Rattle.std.proofs.lemmas.List.{append-nil}
use Rattle.std.proofs.lemmas.List.Elements.{filter-append}
use Rattle.dap_order.specs.Swaps.{NoneFree, unmoved, swapped}
use Rattle.dap_order.specs.Labels.{AreLabels}
use Rattle.dap_order.specs.Classes.{Classes, AreClasses, is_of, number, less_number, numbers}
use Rattle.dap_order.proofs.Kept.{reordered_filter, one_swap}

module _ {X C : Type 0} (s : Classes X C) (are : AreClasses s) where
  -- Items of one class are not free with each other.
  class_apart : (c : C) → NoneFree s.free (is_of s c)
  class_apart c x y of_x of_y = elim (cases_Bool (s.free x y)) [
    | inl f ↦ absurd (both_ways (s.same (s.class x) (s.class y)) (are.two_classes x y f)
        (are.same_on (s.class x) c (s.class y) of_x (are.same_back (s.class y) c of_y)))
    | inr f ↦ f
  ]

  below_parts : (a b : C × ℕ) → (s.same a.0 b.0 && nat_lt a.1 b.1) ≡ true
      → (s.same a.0 b.0 ≡ true) × (a.1 < b.1)
  below_parts a b h =
      let parts = and_parts (s.same a.0 b.0) (nat_lt a.1 b.1) h in
      (parts.0, ltb-true a.1 b.1 parts.1)

  pub less_class : (a b : C × ℕ) → s.less a.0 b.0 ≡ true → less_number s a b ≡ true
  less_class a b l = or_left (s.less a.0 b.0) (s.same a.0 b.0 && nat_lt a.1 b.1) l

  pub less_count : (a b : C × ℕ) → s.same a.0 b.0 ≡ true → a.1 < b.1 → less_number s a b ≡ true
  less_count a b e l =
      or_right (s.less a.0 b.0) (s.same a.0 b.0 && nat_lt a.1 b.1)
      (and_from (s.same a.0 b.0) (nat_lt a.1 b.1) e (lt-ltb a.1 b.1 l))

  pub less_itself : (a : C × ℕ) → less_number s a a ≡ true → ⊥
  less_itself a h = elim (or_cases (s.less a.0 a.0) (s.same a.0 a.0 && nat_lt a.1 a.1) h) [
    | inl l ↦ are.less_itself a.0 l
    | inr e ↦ (let n = (below_parts a a e).1 in omega arith)
  ]

  pub less_on : (a b c : C × ℕ) → less_number s a b ≡ true → less_number s b c ≡ true
      → less_number s a c ≡ true
  less_on a b c p q = elim (or_cases (s.less a.0 b.0) (s.same a.0 b.0 && nat_lt a.1 b.1) p) [
    | inl l ↦ elim (or_cases (s.less b.0 c.0) (s.same b.0 c.0 && nat_lt b.1 c.1) q) [
      | inl m ↦ less_class a c (are.less_on a.0 b.0 c.0 l m)
      | inr e ↦ less_class a c (are.less_same a.0 b.0 c.0 l (below_parts b c e).0)
    ]
    | inr e ↦ elim (or_cases (s.less b.0 c.0) (s.same b.0 c.0 && nat_lt b.1 c.1) q) [
      | inl m ↦ less_class a c (are.same_less a.0 b.0 c.0 (below_parts a b e).0 m)
      | inr f ↦ (
          let one = below_parts a b e in
          let two = below_parts b c f in
          less_count a c (are.same_on a.0 b.0 c.0 one.0 two.0)
          (let n = one.1 in let m = two.1 in omega arith)
          )
    ]
  ]

  own_number : (before : List X) (x y : X) → s.free x y ≡ true
      → number s (before ++ x ∷ []) y ≡ number s before y
  own_number before x y f =
      let c = s.class y in
      let last : filter (is_of s c) (x ∷ []) ≡ [] =
      cond-false (is_of s c x) (x ∷ []) [] (are.two_classes x y f) in
      ap (λ zs. (c, length zs))
      (filter-append (is_of s c) before (x ∷ []) ∙ ap (λ zs. filter (is_of s c) before ++ zs) last
      ∙ append-nil (filter (is_of s c) before))

  pub are_labels : AreLabels (numbers s)
  are_labels = record {
    both_ways = are.both_ways;
    less_itself = less_itself;
    less_on = less_on;
    apart = λ before x y f.
        let a = number s before x in
        let b = number s before y in
        elim (are.some_less (s.class x) (s.class y) (are.two_classes x y f)) [
          | inl l ↦ inl (less_class a b l)
          | inr m ↦ inr (less_class b a m)
        ];
    own = own_number;
    after = λ before between x y z f.
        let c = s.class z in
        ap (λ zs. (c, length zs))
        (reordered_filter s.free (is_of s c) (class_apart c) (before ++ x ∷ y ∷ between)
        (before ++ y ∷ x ∷ between) (swapped unmoved (one_swap s.free before between x y f)));
  }

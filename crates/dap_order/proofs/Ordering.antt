-- The strict order of a comparison. Items with labels satisfy the preconditions of swaps.
use Rattle.std.proofs.Common.{◌≡◌, Bool, true, inl, inr, refl, ap}
use Rattle.std.specs.Prelude.{◌||◌}
use Rattle.std.specs.Cmp.{IsTotalOrder}
use Rattle.std.specs.declared.cmp.Ordering.{Ordering}
use Rattle.std.specs.declared.cmp.Ordering.TheVariants.{Less, Equal, Greater}
use Rattle.std.specs.Ordering.{is_lt, ordering_reverse}
use Rattle.std.proofs.lemmas.Bool.{and_parts, and_from, or_cases, or_left, or_right}
use Rattle.dap_order.specs.Swaps.{AreSwaps, BothWays}
use Rattle.dap_order.specs.Labels.{labelled_swaps}

-- a is less than b by this comparison.
abbrev pub less_by : {L : Type 0} → (L → L → Ordering) → L → L → Bool
less_by cmp a b = is_lt (cmp a b)

module _ {X L : Type 0} (free : X → X → Bool) (less : L → L → Bool) where
  either_less : (a b : L) → (less a b || less b a) ≡ true → (less b a || less a b) ≡ true
  either_less a b h = elim (or_cases (less a b) (less b a) h) [
    | inl below ↦ or_right (less b a) (less a b) below
    | inr above ↦ or_left (less b a) (less a b) above
  ]

  pub labelled_are_swaps : BothWays free → ((a : L) → less a a ≡ true → ⊥)
      → ((a b c : L) → less a b ≡ true → less b c ≡ true → less a c ≡ true)
      → AreSwaps (labelled_swaps free less)
  labelled_are_swaps both_ways less_itself less_on = record {
    both_ways = λ x y f.
        let parts =
        and_parts (free x.item y.item) (less x.label y.label || less y.label x.label) f in
        and_from (free y.item x.item) (less y.label x.label || less x.label y.label)
        (both_ways x.item y.item parts.0) (either_less x.label y.label parts.1);
    apart = λ x y f.
        let parts =
        and_parts (free x.item y.item) (less x.label y.label || less y.label x.label) f in
        or_cases (less x.label y.label) (less y.label x.label) parts.1;
    less_itself = λ x. less_itself x.label;
    less_on = λ x y z. less_on x.label y.label z.label;
  }

is_less : (o : Ordering) → is_lt o ≡ true → o ≡ Less
is_less Less h = refl
is_less Equal h = absurd (cc)
is_less Greater h = absurd (cc)

not_itself : (o : Ordering) → o ≡ ordering_reverse o → is_lt o ≡ true → ⊥
not_itself Less e h = cc
not_itself Equal e h = cc
not_itself Greater e h = cc

module _ {L : Type 0} (cmp : L → L → Ordering) (total : IsTotalOrder cmp) where
  pub less_by_itself : (a : L) → less_by cmp a a ≡ true → ⊥
  less_by_itself a = not_itself (cmp a a) (total.antisymm a a)

  pub less_by_on : (a b c : L) → less_by cmp a b ≡ true → less_by cmp b c ≡ true
      → less_by cmp a c ≡ true
  less_by_on a b c p q = ap is_lt (total.trans a b c (is_less (cmp a b) p) (is_less (cmp b c) q))

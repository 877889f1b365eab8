-- Labels that count: the class of an item, and the number of earlier items of that class.
use Rattle.std.specs.Prelude.{◌≡◌, ℕ, Bool, true, false, ◌&&◌, ◌||◌, ◌⊎◌, List, length, nat_lt}
use Rattle.std.specs.List.{filter}
use Rattle.dap_order.specs.{Swaps.BothWays, Labels.Labels}

-- Which items are free with each other, and their classes: the test whether two are the same, and
-- their order.
pub record Classes (X C : Type 0) : Type 0 where
  pub free : X → X → Bool
  pub class : X → C
  pub same : C → C → Bool
  pub less : C → C → Bool

-- Items of the same class are not free with each other; `same` is symmetric and transitive; `less`
-- is a strict order of the classes that agrees with `same`.
pub record AreClasses {X C : Type 0} (s : Classes X C) : Type 0 where
  pub both_ways : BothWays s.free
  pub two_classes : (x y : X) → s.free x y ≡ true → s.same (s.class x) (s.class y) ≡ false
  pub same_back : (a b : C) → s.same a b ≡ true → s.same b a ≡ true
  pub same_on : (a b c : C) → s.same a b ≡ true → s.same b c ≡ true → s.same a c ≡ true
  pub less_itself : (a : C) → s.less a a ≡ true → ⊥
  pub less_on : (a b c : C) → s.less a b ≡ true → s.less b c ≡ true → s.less a c ≡ true
  pub less_same : (a b c : C) → s.less a b ≡ true → s.same b c ≡ true → s.less a c ≡ true
  pub same_less : (a b c : C) → s.same a b ≡ true → s.less b c ≡ true → s.less a c ≡ true
  pub some_less : (a b : C) → s.same a b ≡ false → (s.less a b ≡ true) ⊎ (s.less b a ≡ true)

module _ {X C : Type 0} (s : Classes X C) where
  -- The item belongs to this class.
  abbrev pub is_of : C → X → Bool
  is_of c x = s.same (s.class x) c

  -- The class, and the number of items of this class in `before`.
  abbrev pub number : List X → X → C × ℕ
  number before x = (s.class x, length (filter (is_of (s.class x)) before))

  -- First by class, then by number.
  abbrev pub less_number : C × ℕ → C × ℕ → Bool
  less_number a b = s.less a.0 b.0 || (s.same a.0 b.0 && nat_lt a.1 b.1)

  abbrev pub numbers : Labels X (C × ℕ)
  numbers = record { free = s.free; less = less_number; label_of = number }

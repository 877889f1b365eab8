-- Pairs of numbers as the entries of a renaming, and why pairs are not a renaming.
use Rattle.std.specs.Prelude.{◌≡◌, ℕ, suc, ℤ, Bool, true, false, ◌&&◌, eqb, List, [], ◌∷◌, ◌++◌}
use Rattle.std.specs.Prelude.{length, map}
use Rattle.std.specs.List.{list_any, AllByRecursion}
use Rattle.std.specs.Ordering.{int_eq}
use Rattle.dap_message.specs.Numbers.{is_proper_number}
use Rattle.dap_rename.specs.Messages.{Class, IsProperId, class_after, same_class, all_classes}
use Rattle.dap_rename.specs.Renamings.{IsRenaming, pairs_of_class}
use Rattle.dap_rename.specs.declared.pair.Pair.{Pair}
use Rattle.dap_rename.specs.declared.pair.PairFault.{PairFault}
use Rattle.dap_rename.specs.declared.pair.PairFault.TheVariants.{BadStop, ZeroReference}
use Rattle.dap_rename.specs.declared.pair.PairFault.TheVariants.{FromTwice, ToTwice, Memory}

-- The class of a pair.
abbrev pub class_of : Pair → Class
class_of p = (p.sort, p.stop)

-- The entry that a pair represents.
abbrev pub entry : Pair → Class × ℤ × ℤ
entry p = (class_of p, p.from, p.to)

abbrev pub entries : List Pair → List (Class × ℤ × ℤ)
entries ps = map entry ps

-- The class of the pair exists: only frame ids and variables references have a class after a stop.
abbrev pub has_class : Pair → Bool
has_class p = eqb (class_after p.stop p.sort).1 p.stop

-- Neither number is a variables reference of 0.
abbrev pub is_proper_pair : Pair → Bool
is_proper_pair p = is_proper_number p.sort p.from && is_proper_number p.sort p.to

-- Some earlier pair of the class has the same `from`, or the same `to`.
abbrev pub is_taken : List Pair → Pair → Bool
is_taken before p =
    list_any (λ q. same_class (class_of q) (class_of p) && int_eq q.from p.from) before

abbrev pub is_given : List Pair → Pair → Bool
is_given before p =
    list_any (λ q. same_class (class_of q) (class_of p) && int_eq q.to p.to) before

-- The pairs are a renaming (own): their classes exist, no class has two pairs with the same `from`
-- or the same `to`, and no number is a variables reference of 0.
pub record AreRenaming (ps : List Pair) : Type 0 where
  pub classes : AllByRecursion (λ p. has_class p ≡ true) ps
  pub renaming : IsRenaming IsProperId (entries ps)

-- The pair may follow these pairs.
abbrev pub MayFollow : List Pair → Pair → Type 0
MayFollow before p = (has_class p ≡ true) × (is_proper_pair p ≡ true)
    × (is_taken before p ≡ false) × (is_given before p ≡ false)

-- The pair has that error after these pairs (own).
abbrev pub PairFails : List Pair → Pair → PairFault → Type 0
PairFails before p (BadStop n) = (n ≡ suc (length before)) × (has_class p ≡ false)
PairFails before p (ZeroReference n) = (n ≡ suc (length before)) × (has_class p ≡ true)
    × (is_proper_pair p ≡ false)
PairFails before p (FromTwice n) = (n ≡ suc (length before)) × (has_class p ≡ true)
    × (is_proper_pair p ≡ true) × (is_taken before p ≡ true)
PairFails before p (ToTwice n) = (n ≡ suc (length before)) × (has_class p ≡ true)
    × (is_proper_pair p ≡ true) × (is_taken before p ≡ false) × (is_given before p ≡ true)
PairFails before p Memory = ⊥

-- The error is that of the first pair that may not follow the pairs before it. Those are a renaming
-- (own).
pub record FailsFirst (ps : List Pair) (f : PairFault) : Type 0 where
  pub before : List Pair
  pub pair : Pair
  pub after : List Pair
  pub split : ps ≡ before ++ pair ∷ after
  pub renaming : AreRenaming before
  pub fails : PairFails before pair f

-- Why pairs are rejected. `Memory` is returned only if the pairs are a renaming: if an allocation
-- fails, they are checked without allocating.
abbrev pub RefusesPairs : List Pair → PairFault → Type 0
RefusesPairs ps (BadStop n) = FailsFirst ps (BadStop n)
RefusesPairs ps (ZeroReference n) = FailsFirst ps (ZeroReference n)
RefusesPairs ps (FromTwice n) = FailsFirst ps (FromTwice n)
RefusesPairs ps (ToTwice n) = FailsFirst ps (ToTwice n)
RefusesPairs ps Memory = AreRenaming ps

-- Class by class, the entries that map the i-th number of the first function's list to the i-th of
-- the second's (own).
abbrev pub names_of_classes : List Class → (Class → List ℤ) → (Class → List ℤ)
    → List (Class × ℤ × ℤ)
names_of_classes [] f g = []
names_of_classes (c ∷ cs) f g = pairs_of_class c (f c) (g c) ++ names_of_classes cs f g

-- The same for all classes after the given number of stops, in order.
abbrev pub equal_names : ℕ → (Class → List ℤ) → (Class → List ℤ) → List (Class × ℤ × ℤ)
equal_names stops f g = names_of_classes (all_classes stops) f g

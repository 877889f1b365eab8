-- Renamings of numbers, for any type of id classes. An entry is a class, a number, and the number
-- that replaces it.
use Rattle.std.specs.Prelude.{◌≡◌, ◌⊎◌, ℤ, Bool, List, [], ◌∷◌, ◌++◌}
use Rattle.std.specs.List.{AllByRecursion}
use Rattle.dap_rename.specs.Numbering.{table}

-- The value is an element of the list (own).
abbrev pub IsIn : {X : Type 0} → X → List X → Type 0
IsIn x [] = ⊥
IsIn x (y ∷ ys) = (x ≡ y) ⊎ IsIn x ys

-- Two entries are compatible (own): if they have the same class, both their `from` numbers and
-- their `to` numbers differ.
abbrev pub AreApart : {K : Type 0} → K × ℤ × ℤ → K × ℤ × ℤ → Type 0
AreApart p q = p.0 ≡ q.0 → (p.1 ≡ q.1 → ⊥) × (p.2 ≡ q.2 → ⊥)

-- A renaming (own): no class maps the same number twice or maps to the same number twice, and every
-- number is an id.
abbrev pub IsRenaming : {K : Type 0} → (K × ℤ → Type 0) → List (K × ℤ × ℤ) → Type 0
IsRenaming IsId [] = Unit {0}
IsRenaming IsId (p ∷ r) = (IsId (p.0, p.1) × IsId (p.0, p.2)) × AllByRecursion (AreApart p) r
    × IsRenaming IsId r

-- At each position the two lists have the same class, and some entry maps the number of the first
-- list to that of the second (own).
abbrev pub AreRelated : {K : Type 0} → List (K × ℤ × ℤ) → List (K × ℤ) → List (K × ℤ) → Type 0
AreRelated r [] [] = Unit {0}
AreRelated r [] (p ∷ ys) = ⊥
AreRelated r (o ∷ xs) [] = ⊥
AreRelated r (o ∷ xs) (p ∷ ys) = (o.0 ≡ p.0) × IsIn (o.0, o.1, p.1) r × AreRelated r xs ys

-- The entries of one class that map the i-th number of the first list to the i-th of the second
-- (own).
abbrev pub pairs_of_class : {K : Type 0} → K → List ℤ → List ℤ → List (K × ℤ × ℤ)
pairs_of_class c [] u = []
pairs_of_class c (x ∷ t) [] = []
pairs_of_class c (x ∷ t) (y ∷ u) = (c, x, y) ∷ pairs_of_class c t u

-- Class by class, pairs the i-th distinct number of the first list with the i-th of the second
-- (own).
abbrev pub pairs : {K : Type 0} → (K → K → Bool) → List K → List (K × ℤ) → List (K × ℤ)
    → List (K × ℤ × ℤ)
pairs same [] xs ys = []
pairs same (c ∷ cs) xs ys =
    pairs_of_class c (table same c xs) (table same c ys) ++ pairs same cs xs ys

-- Statements about every kind of id, and tables with a value for each kind.
use Rattle.std.proofs.Common.{◌≡◌, ◌<◌, ℕ, zero, suc, List, [], ◌∷◌, length, get_or, inl, inr, refl}
use Rattle.std.proofs.Common.{sym, ap, arith}
use Rattle.dap_tree.specs.declared.sort.Sort.{Sort}
use Rattle.dap_tree.specs.declared.sort.Sort.TheVariants.{ClientSeq}
use Rattle.dap_tree.specs.Sorts.{all_sorts, EachSort, sort_number}
use Rattle.dap_tree.proofs.Sorts.{at_number}
use Rattle.dap_rename.specs.Renamings.{IsIn}
use Rattle.dap_rename.specs.Tables.{table_of, tables_of}
use Rattle.dap_rename.specs.declared.tables.Tables.{Tables}
use Rattle.dap_rename.proofs.Lists.{at_each, each_of}

numbered : (n : ℕ) (ss : List Sort) (s : Sort) → n < length ss → IsIn (get_or ss n s) ss
numbered n [] s h = absurd (omega arith)
numbered zero (t ∷ ss) s h = inl refl
numbered (suc n) (t ∷ ss) s h = inr (numbered n ss s (omega arith))

few : (s : Sort) → sort_number s < length all_sorts
few ClientSeq = omega arith
few s = omega arith

pub in_all_sorts : (s : Sort) → IsIn s all_sorts
in_all_sorts s =
    rw (sym (at_number s)) (numbered (sort_number s) all_sorts ClientSeq (few s))

pub at_sort : (P : Sort → Type 0) → EachSort P → (s : Sort) → P s
at_sort P h s = at_each P s all_sorts h (in_all_sorts s)

pub each_sort : (P : Sort → Type 0) → ((s : Sort) → P s) → EachSort P
each_sort P h = each_of P all_sorts (λ s i. h s)

-- ---- tables

pub table_is : {T : Type 0} (f : Sort → T) (s : Sort) → table_of (tables_of f) s ≡ f s
table_is f ClientSeq = refl
table_is f s = refl

pub tables_equal : {T : Type 0} (t u : Tables T) → ((s : Sort) → table_of t s ≡ table_of u s)
    → t ≡ u
tables_equal t u h =
    let e : table_of t ≡ table_of u = λ i. λ s. h s i in ap tables_of e

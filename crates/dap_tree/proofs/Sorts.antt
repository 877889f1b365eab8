-- A kind of id is determined by its index.
use Rattle.std.proofs.Common.{◌≡◌, ℕ, true, get_or, refl, sym, ◌∙◌, ap}
use Rattle.std.proofs.lemmas.Bool.{eqb-true, eq-eqb}
use Rattle.dap_tree.specs.declared.sort.Sort.{Sort}
use Rattle.dap_tree.specs.declared.sort.Sort.TheVariants.{ClientSeq}
use Rattle.dap_tree.specs.Sorts.{all_sorts, sort_number, same_sort}

abbrev sort_at : ℕ → Sort
sort_at n = get_or all_sorts n ClientSeq

pub at_number : (s : Sort) → sort_at (sort_number s) ≡ s
at_number ClientSeq = refl
at_number s = refl

pub sort_told : (s t : Sort) → sort_number s ≡ sort_number t → s ≡ t
sort_told s t h = sym (at_number s) ∙ ap sort_at h ∙ at_number t

pub same_sort_told : (s t : Sort) → same_sort s t ≡ true → s ≡ t
same_sort_told s t h = sort_told s t (eqb-true (sort_number s) (sort_number t) h)

pub told_same_sort : (s t : Sort) → s ≡ t → same_sort s t ≡ true
told_same_sort s t h = eq-eqb (sort_number s) (sort_number t) (ap sort_number h)

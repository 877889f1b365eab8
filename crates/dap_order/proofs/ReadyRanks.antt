-- The set of ranks after one is removed, and the written places after one more is written.
use Rattle.std.proofs.Common.{◌≡◌, ◌≢◌, ℕ, Bool, true, false, List, length, get_or}
use Rattle.std.proofs.Common.{set, refl, inl, inr, sym, ap, ◌∙◌, subst}
use Rattle.std.specs.BTreeSet.{BTreeSet, contains, Updates}
use Rattle.std.specs.BTreeMap.{is_at}
use Rattle.std.specs.Ordering.{nat_cmp, is_eq}
use Rattle.std.specs.declared.cmp.Ordering.{Ordering}
use Rattle.std.specs.declared.cmp.Ordering.TheVariants.{Less, Equal, Greater}
use Rattle.std.specs.Cmp.{nat_cmp_total}
use Rattle.std.proofs.lemmas.Bool.{cases_Bool, cases_eq, cases_lt, both_ways, cond-true, cond-false}
use Rattle.std.proofs.lemmas.Cmp.{ranked, tied_itself}
use Rattle.std.proofs.lemmas.List.{get_or-set_same, get_or-set_other, set_past}
use Rattle.dap_order.specs.Progress.{HasRank, is_written}

at_itself : (k : ℕ) → is_at (nat_cmp k) k ≡ true
at_itself k = ap is_eq (tied_itself nat_cmp_total k)

at_another : (k q : ℕ) → q ≢ k → is_at (nat_cmp k) q ≡ false
at_another k q apart = by (nat_cmp k q) refl
  where
    by : (o : Ordering) → o ≡ nat_cmp k q → is_eq o ≡ false
    by Less e = refl
    by Equal e = absurd (apart (sym (ranked k q Equal e)))
    by Greater e = refl

module _ (old new : BTreeSet ℕ) (k : ℕ) where
  pub removed_others : Updates nat_cmp old new k false → (q : ℕ) → HasRank new q → HasRank old q
  removed_others u q h = elim (cases_Bool (is_at (nat_cmp k) q)) [
    | inl here ↦ absurd (both_ways (contains nat_cmp new q)
        (u.0 q ∙ cond-true (is_at (nat_cmp k) q) false (contains nat_cmp old q) here) h)
    | inr other ↦ sym (u.0 q
        ∙ cond-false (is_at (nat_cmp k) q) false (contains nat_cmp old q) other) ∙ h
  ]

  pub removed_itself : Updates nat_cmp old new k false → (q : ℕ) → HasRank new q → q ≢ k
  removed_itself u q h same =
      both_ways (contains nat_cmp new q)
      (u.0 q ∙ cond-true (is_at (nat_cmp k) q) false (contains nat_cmp old q)
      (subst (λ x. is_at (nat_cmp k) x ≡ true) (sym same) (at_itself k))) h

  pub removed_kept : Updates nat_cmp old new k false → (q : ℕ) → q ≢ k → HasRank old q
      → HasRank new q
  removed_kept u q apart h =
      u.0 q ∙ cond-false (is_at (nat_cmp k) q) false (contains nat_cmp old q)
      (at_another k q apart) ∙ h

-- A written place remains written after another one is written.
pub stays_written : (w : List Bool) (p i : ℕ) → is_written w i ≡ true
    → is_written (set w p true) i ≡ true
stays_written w p i h = elim (cases_eq i p) [
  | inl same ↦ elim (cases_lt p (length w)) [
    | inl low ↦ subst (λ k. get_or (set w p true) k false ≡ true) (sym same)
        (get_or-set_same w p true false low)
    | inr high ↦ subst (λ v. get_or v i false ≡ true) (sym (set_past w p true high)) h
  ]
  | inr apart ↦ get_or-set_other w p i true false apart ∙ h
]

-- What follows if two documents differ at a path.
use Rattle.std.proofs.Common.{◌≡◌, ◌≢◌, ◌⊎◌, inl, inr, Bool, true, false, List, [], ◌∷◌, ◌++◌}
use Rattle.std.proofs.Common.{Option, Some, None, option_map, option_and_then, refl, sym, ap, ◌∙◌}
use Rattle.std.proofs.Common.{subst}
use Rattle.dap_tree.specs.Doc.{Doc}
use Rattle.dap_tree.specs.Path.{Step, step, at}
use Rattle.dap_difference.specs.Differences.{have_parts, DifferAt, form}
use Rattle.dap_difference.specs.Telling.{same_scalar}
use Rattle.dap_difference.proofs.Scalars.{same_is, apart_are, forms_tell, parts_have_form}

-- if neither has a value, they do not differ
pub none_differ : (p : List Step) → DifferAt p None None → ⊥
none_differ [] h = h.0 refl
none_differ (s ∷ p) h = absurd cc

-- if one has no value, they differ there and not further on
pub ends_of_b : (p : List Step) (d : Doc) → DifferAt p (Some d) None → p ≡ []
ends_of_b [] d h = refl
ends_of_b (s ∷ p) d h = absurd cc

pub ends_of_a : (p : List Step) (e : Doc) → DifferAt p None (Some e) → p ≡ []
ends_of_a [] e h = refl
ends_of_a (s ∷ p) e h = absurd cc

pub at_step : (s : Step) (p : List Step) (o : Option Doc)
    → option_and_then (at (s ∷ p)) o ≡ option_and_then (at p) (option_and_then (step s) o)
at_step s p None = refl
at_step s p (Some d) = refl

pub at_root : (o : Option Doc) → option_and_then (at []) o ≡ o
at_root None = refl
at_root (Some d) = refl

pub at_further : (p rest : List Step) (o : Option Doc)
    → option_and_then (at (p ++ rest)) o ≡ option_and_then (at rest) (option_and_then (at p) o)
at_further [] rest o = ap (option_and_then (at rest)) (sym (at_root o))
at_further (s ∷ p) rest o =
    at_step s (p ++ rest) o ∙ at_further p rest (option_and_then (step s) o)
    ∙ ap (option_and_then (at rest)) (sym (at_step s p o))

-- if they differ, their forms do
pub forms_differ : (p : List Step) (o q : Option Doc) → DifferAt p o q
    → option_map form (option_and_then (at p) o) ≡ option_map form (option_and_then (at p) q) → ⊥
forms_differ [] o q h same =
    h.0 (forms_tell o q h.1
    (ap (option_map form) (sym (at_root o)) ∙ same ∙ ap (option_map form) (at_root q)))
forms_differ (s ∷ p) o q h same =
    forms_differ p (option_and_then (step s) o) (option_and_then (step s) q) h.1
    (ap (option_map form) (sym (at_step s p o)) ∙ same ∙ ap (option_map form) (at_step s p q))

-- ---- a path leads through a difference, or to one form

pub record Through (p : List Step) (o q : Option Doc) : Type 0 where
  pub front : List Step
  pub rest : List Step
  pub is : p ≡ front ++ rest
  pub differ : DifferAt front o q

pub record Past (p : List Step) (o q : Option Doc) : Type 0 where
  pub none : (front rest : List Step) → p ≡ front ++ rest → DifferAt front o q → ⊥
  pub same : option_map form (option_and_then (at p) o)
      ≡ option_map form (option_and_then (at p) q)

scalars : (b : Bool) (d e : Doc) → same_scalar d e ≡ b → have_parts (Some d) (Some e) ≡ false
    → (Some d ≡ Some e) ⊎ (Some d ≢ Some e)
scalars true d e h parts = inl (ap Some (same_is d e h))
scalars false d e h parts = inr (λ same. let inner : d ≡ e = cc in apart_are d e parts h inner)

same_or_not : (o q : Option Doc) → have_parts o q ≡ false → (o ≡ q) ⊎ (o ≢ q)
same_or_not None None h = inl refl
same_or_not None (Some e) h = inr (λ same. absurd cc)
same_or_not (Some d) None h = inr (λ same. absurd cc)
same_or_not (Some d) (Some e) h = scalars (same_scalar d e) d e refl h

no_front : (front : List Step) (o q : Option Doc) → have_parts o q ≡ false → o ≡ q
    → DifferAt front o q → ⊥
no_front [] o q parts same h = h.0 same
no_front (s ∷ front) o q parts same h = let parted = h.0 in absurd cc

-- equal values without parts do not differ further on
equal_past : (p : List Step) (o q : Option Doc) → have_parts o q ≡ false → o ≡ q → Past p o q
equal_past p o q parts same = record {
  none = λ front rest is h. no_front front o q parts same h;
  same = ap (λ x. option_map form (option_and_then (at p) x)) same;
}

root_past : (o q : Option Doc) → have_parts o q ≡ true → (front rest : List Step)
    → [] ≡ front ++ rest → DifferAt front o q → ⊥
root_past o q parts [] rest is h = let closed = h.1 in absurd cc
root_past o q parts (s ∷ front) rest is h = absurd cc

step_past : (s : Step) (p : List Step) (o q : Option Doc) → have_parts o q ≡ true
    → ((front rest : List Step) → p ≡ front ++ rest
    → DifferAt front (option_and_then (step s) o) (option_and_then (step s) q) → ⊥)
    → (front rest : List Step) → s ∷ p ≡ front ++ rest → DifferAt front o q → ⊥
step_past s p o q parts none [] rest is h = let closed = h.1 in absurd cc
step_past s p o q parts none (t ∷ front) rest is h =
    let first : t ≡ s = cc in
    let others : p ≡ front ++ rest = cc in
    none front rest others
    (subst (λ r. DifferAt front (option_and_then (step r) o) (option_and_then (step r) q)) first
    h.1)

closed_at : (p : List Step) (o q : Option Doc) → have_parts o q ≡ false
    → Through p o q ⊎ Past p o q
closed_at p o q parts = elim (same_or_not o q parts) [
  | inl same ↦ inr (equal_past p o q parts same)
  | inr apart ↦ inl (record { front = []; rest = p; is = refl; differ = (apart, parts) })
]

root_open : (o q : Option Doc) → have_parts o q ≡ true → Past [] o q
root_open o q parts = record {
  none = root_past o q parts;
  same = ap (option_map form) (at_root o) ∙ parts_have_form o q parts
      ∙ ap (option_map form) (sym (at_root q));
}

step_open : (s : Step) (p : List Step) (o q : Option Doc) → have_parts o q ≡ true
    → Through p (option_and_then (step s) o) (option_and_then (step s) q)
    ⊎ Past p (option_and_then (step s) o) (option_and_then (step s) q)
    → Through (s ∷ p) o q ⊎ Past (s ∷ p) o q
step_open s p o q parts h = elim h [
  | inl t ↦ inl (record {
    front = s ∷ t.front;
    rest = t.rest;
    is = ap (λ r. s ∷ r) t.is;
    differ = (parts, t.differ);
  })
  | inr past ↦ inr (record {
    none = step_past s p o q parts past.none;
    same = ap (option_map form) (at_step s p o) ∙ past.same
        ∙ ap (option_map form) (sym (at_step s p q));
  })
]

by_parts : (b : Bool) (p : List Step) (o q : Option Doc) → have_parts o q ≡ b
    → (have_parts o q ≡ true → Through p o q ⊎ Past p o q) → Through p o q ⊎ Past p o q
by_parts true p o q h with_parts = with_parts h
by_parts false p o q h with_parts = closed_at p o q h

pub through_or_past : (p : List Step) (o q : Option Doc) → Through p o q ⊎ Past p o q
through_or_past [] o q = by_parts (have_parts o q) [] o q refl (λ h. inr (root_open o q h))
through_or_past (s ∷ p) o q =
    by_parts (have_parts o q) (s ∷ p) o q refl
    (λ h. step_open s p o q h
    (through_or_past p (option_and_then (step s) o) (option_and_then (step s) q)))

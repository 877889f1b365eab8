-- The differences are complete, and inserting B's values at their paths turns A's document into
-- B's.
use Rattle.std.proofs.Common.{◌≡◌, inl, inr, ◌↔◌, suc, ◌<◌, List, [], ◌∷◌, ◌++◌}
use Rattle.std.proofs.Common.{length, true, Some, option_map, option_and_then, refl}
use Rattle.std.proofs.Common.{sym, ap, ◌∙◌, subst, arith}
use Rattle.std.proofs.lemmas.List.Elements.{All-nil, All-cons}
use Rattle.std.specs.List.{All}
use Rattle.dap_tree.specs.Doc.{Doc, is_ordered}
use Rattle.dap_tree.specs.Path.{Step, at}
use Rattle.dap_difference.specs.Differences.{DifferAt, Difference, AreDifferences, form, IsApart}
use Rattle.dap_difference.specs.Differences.{HasValuesOfB, PutInIsB}
use Rattle.dap_difference.specs.Telling.{differences}
use Rattle.dap_difference.proofs.EveryOne.{IsTold, contains_from, every, none_differs}
use Rattle.dap_difference.proofs.Ordered.{told_in_order}
use Rattle.dap_difference.proofs.Paths.{at_further, forms_differ, Through, Past, through_or_past}
use Rattle.dap_difference.proofs.Told.{Each, each_is, Tells, tells}

each_from : (P : Difference → Type 0) (xs : List Difference) → Each P xs → All P xs
each_from P [] h = All-nil P
each_from P (x ∷ xs) h = All-cons P x xs h.0 (each_from P xs h.1)

pub are_differences : (d e : Doc) → is_ordered d ≡ true → is_ordered e ≡ true
    → AreDifferences d e (differences d e)
are_differences d e h k =
    let each = tells d e h k in
    record {
      differ = each_from (λ x. DifferAt x.path (Some d) (Some e)) (differences d e)
          (each_is (Tells (Some d) (Some e)) (λ x. DifferAt x.path (Some d) (Some e)) (λ x t. t.0)
          (differences d e) each);
      values = each_from (λ x. (x.of_a ≡ at x.path d) × (x.of_b ≡ at x.path e)) (differences d e)
          (each_is (Tells (Some d) (Some e))
          (λ x. (x.of_a ≡ at x.path d) × (x.of_b ≡ at x.path e)) (λ x t. (t.1, t.2))
          (differences d e) each);
      every = λ p there. contains_from p (differences d e) (every d e h k p there);
      ordered = told_in_order d e h k;
    }

-- one of the listed differences has the path
told_has : (P : Difference → Type 0) (p : List Step) (xs : List Difference) → All P xs
    → IsTold p xs → (x : Difference) × P x × (x.path ≡ p)
told_has P p [] h there = absurd there
told_has P p (x ∷ xs) h there = elim there [
  | inl is ↦ let first : 0 < length (x ∷ xs) = omega arith in (x, h 0 x first, is)
  | inr later ↦ let others : All P xs = λ i y within.
      let further : suc i < length (x ∷ xs) = omega (arith, within) in h (suc i) y further in
      told_has P p xs others later
]

is_apart : (d e : Doc) → is_ordered d ≡ true → is_ordered e ≡ true → (p : List Step)
    → Past p (Some d) (Some e) → IsApart (differences d e) p
is_apart d e h k p past =
    each_from (λ x. (rest : List Step) → p ≡ x.path ++ rest → ⊥) (differences d e)
    (each_is (Tells (Some d) (Some e)) (λ x. (rest : List Step) → p ≡ x.path ++ rest → ⊥)
    (λ x t rest is. past.none x.path rest is t.0) (differences d e) (tells d e h k))

not_apart : (d e : Doc) → is_ordered d ≡ true → is_ordered e ≡ true → (p : List Step)
    → IsApart (differences d e) p → Through p (Some d) (Some e) → ⊥
not_apart d e h k p apart t =
    let x = told_has (λ x. (rest : List Step) → p ≡ x.path ++ rest → ⊥) t.front (differences d e)
    apart (every d e h k t.front t.differ) in
    x.1 t.rest (t.is ∙ ap (λ q. q ++ t.rest) (sym x.2))

pub b_has_values : (d e : Doc) → is_ordered d ≡ true → is_ordered e ≡ true
    → HasValuesOfB (differences d e) d e
b_has_values d e h k = record {
  at_told = each_from (λ x. at x.path e ≡ x.of_b) (differences d e)
      (each_is (Tells (Some d) (Some e)) (λ x. at x.path e ≡ x.of_b) (λ x t. sym t.2)
      (differences d e) (tells d e h k));
  apart = λ p apart. elim (through_or_past p (Some d) (Some e)) [
    | inl t ↦ absurd (not_apart d e h k p apart t)
    | inr past ↦ sym past.same
  ];
}

none_told : (d e : Doc) (xs : List Difference) → Each (Tells (Some d) (Some e)) xs
    → ((p : List Step) → DifferAt p (Some d) (Some e) → ⊥) → xs ≡ []
none_told d e [] h none = refl
none_told d e (x ∷ xs) h none = absurd (none x.path h.0.0)

-- a document with B's values has B's forms
forms_of_b : (d e put : Doc) → is_ordered d ≡ true → is_ordered e ≡ true
    → HasValuesOfB (differences d e) d put → (p : List Step)
    → option_map form (at p put) ≡ option_map form (at p e)
forms_of_b d e put h k values p = elim (through_or_past p (Some d) (Some e)) [
  | inl t ↦ let x = told_has (λ x. at x.path put ≡ at x.path e) t.front (differences d e)
      (λ i y within. values.at_told i y within
      ∙ ((are_differences d e h k).values i y within).1)
      (every d e h k t.front t.differ) in
      let here : at t.front put ≡ at t.front e =
      subst (λ q. at q put ≡ at q e) x.2 x.1 in
      let further = ap (option_and_then (at t.rest)) here in
      ap (option_map form)
      (ap (λ q. at q put) t.is ∙ at_further t.front t.rest (Some put) ∙ further
      ∙ sym (at_further t.front t.rest (Some e)) ∙ ap (λ q. at q e) (sym t.is))
  | inr past ↦ values.apart p (is_apart d e h k p past) ∙ past.same
]

only_b : (d e put : Doc) → is_ordered d ≡ true → is_ordered e ≡ true → is_ordered put ≡ true
    → HasValuesOfB (differences d e) d put → put ≡ e
only_b d e put h k l values =
    none_differs put e
    (none_told put e (differences put e) (tells put e l k)
    (λ p there. forms_differ p (Some put) (Some e) there (forms_of_b d e put h k values p)))

pub put_in_is_b : (d e : Doc) → is_ordered d ≡ true → is_ordered e ≡ true
    → PutInIsB (differences d e) d e
put_in_is_b d e h k put l = (
  only_b d e put h k l,
  λ same. subst (HasValuesOfB (differences d e) d) (sym same) (b_has_values d e h k),
)

no_forms_differ : (d : Doc) (p : List Step) → DifferAt p (Some d) (Some d) → ⊥
no_forms_differ d p there = forms_differ p (Some d) (Some d) there refl

pub none_where_same : (d e : Doc) → is_ordered d ≡ true → is_ordered e ≡ true
    → (differences d e ≡ []) ↔ (d ≡ e)
none_where_same d e h k = (
  none_differs d e,
  λ same. none_told d e (differences d e) (tells d e h k)
      (λ p there. no_forms_differ d p
      (subst (λ x. DifferAt p (Some d) (Some x)) (sym same) there)),
)

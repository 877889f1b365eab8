-- Requests that are in no slot: one more request, and a response.
use Rattle.std.proofs.Common.{◌≡◌, ℕ, ◌+◌, ℤ, Bool, true, false, cond, not, List, [], ◌∷◌, map}
use Rattle.std.proofs.Common.{Some, None, option_map, sym, ap, ◌∙◌, refl, subst, arith}
use Rattle.std.specs.declared.cmp.Ordering.{Ordering}
use Rattle.std.specs.declared.cmp.Ordering.TheVariants.{Less, Equal, Greater}
use Rattle.std.specs.Ordering.{int_cmp, int_eq, is_eq, match_ordering}
use Rattle.std.specs.Map.{lookup, set_value}
use Rattle.std.specs.BTreeMap.{insert_entry}
use Rattle.std.proofs.lemmas.Bool.Decides.{Decides-int_eq}
use Rattle.std.proofs.lemmas.List.Sums.{sum_by-cons}
use Rattle.dap_session.specs.SessionState.{RequestEntry, Others, other_numbered, unanswered_others}
use Rattle.dap_session.specs.SessionState.{with_other}
use Rattle.dap_session.specs.SessionState.{with_other_answer}

module _ {X Y : Type 0} (f : X → Y) where
  pub lookup-map : (test : ℤ → Bool) (es : List (ℤ × X))
      → lookup test (map (λ (x : ℤ × X). (x.0, f x.1)) es) ≡ option_map f (lookup test es)
  lookup-map test [] = refl
  lookup-map test (e ∷ es) =
      elim (test e.0) as
      (λ b. cond b (Some (f e.1)) (lookup test (map (λ (x : ℤ × X). (x.0, f x.1)) es))
      ≡ option_map f (cond b (Some e.1) (lookup test es)))
      [ true ↦ refl | false ↦ lookup-map test es ]

  pub set_value-map : (test : ℤ → Bool) (es : List (ℤ × X)) (w : X)
      → map (λ (x : ℤ × X). (x.0, f x.1)) (set_value test es w)
      ≡ set_value test (map (λ (x : ℤ × X). (x.0, f x.1)) es) (f w)
  set_value-map test [] w = refl
  set_value-map test (e ∷ es) w =
      elim (test e.0) as
      (λ b. map (λ (x : ℤ × X). (x.0, f x.1)) (cond b ((e.0, w) ∷ es) (e ∷ set_value test es w))
      ≡ cond b ((e.0, f w) ∷ map (λ (x : ℤ × X). (x.0, f x.1)) es) ((e.0, f e.1)
      ∷ set_value test (map (λ (x : ℤ × X). (x.0, f x.1)) es) (f w)))
      [ true ↦ refl | false ↦ ap (λ xs. (e.0, f e.1) ∷ xs) (set_value-map test es w) ]

  pub insert-map : (n : ℤ) (es : List (ℤ × X)) (v : X)
      → map (λ (x : ℤ × X). (x.0, f x.1)) (insert_entry int_cmp es n v)
      ≡ insert_entry int_cmp (map (λ (x : ℤ × X). (x.0, f x.1)) es) n (f v)
  insert-map n [] v = refl
  insert-map n (e ∷ es) v =
      elim (int_cmp n e.0) as
      (λ o. map (λ (x : ℤ × X). (x.0, f x.1))
      (match_ordering o ((n, v) ∷ e ∷ es) ((e.0, v) ∷ es) (e ∷ insert_entry int_cmp es n v))
      ≡ match_ordering o ((n, f v) ∷ (e.0, f e.1) ∷ map (λ (x : ℤ × X). (x.0, f x.1)) es)
      ((e.0, f v) ∷ map (λ (x : ℤ × X). (x.0, f x.1)) es) ((e.0, f e.1)
      ∷ insert_entry int_cmp (map (λ (x : ℤ × X). (x.0, f x.1)) es) n (f v)))
      [ Less ↦ refl | Equal ↦ refl | Greater ↦ ap (λ xs. (e.0, f e.1) ∷ xs) (insert-map n es v) ]

cond_twice : {X : Type 0} (b : Bool) (x y z : X) → cond b x y ≡ cond b x (cond b z y)
cond_twice true x y z = refl
cond_twice false x y z = refl

cond_swap : {X : Type 0} (a b : Bool) (x y z : X) → (a ≡ true → b ≡ true → ⊥)
    → cond a x (cond b y z) ≡ cond b y (cond a x z)
cond_swap true true x y z h = absurd (h refl refl)
cond_swap true false x y z h = refl
cond_swap false true x y z h = refl
cond_swap false false x y z h = refl

-- a number is not equal to another number
apart : (q n k : ℤ) → int_eq n k ≡ false → int_eq q k ≡ true → int_eq q n ≡ true → ⊥
apart q n k ne a b =
    let at_k : q ≡ k = (Decides-int_eq q k).0 a in
    let at_n : q ≡ n = (Decides-int_eq q n).0 b in
    let same : int_eq n k ≡ true = (Decides-int_eq n k).1 (sym at_n ∙ at_k) in
    cc

unanswered-cons : (e : ℤ × RequestEntry) (es : Others)
    → unanswered_others (e ∷ es) ≡ cond (not e.1.1) 1 0 + unanswered_others es
unanswered-cons e es = sum_by-cons (λ (x : ℤ × RequestEntry). cond (not x.1.1) 1 0) e es

-- one more request
found_step : (q n : ℤ) (c : List ℕ) (e : ℤ × RequestEntry) (es : Others) (o : Ordering)
    → int_cmp n e.0 ≡ o →
    other_numbered q (with_other n (c, false) es)
    ≡ cond (int_eq q n) (Some (c, false)) (other_numbered q es) →
    other_numbered q
    (match_ordering o ((n, (c, false)) ∷ e ∷ es) ((e.0, (c, false)) ∷ es) (e
    ∷ with_other n (c, false) es))
    ≡ cond (int_eq q n) (Some (c, false)) (cond (int_eq q e.0) (Some e.1) (other_numbered q es))
found_step q n c e es Less is ih = refl
found_step q n c e es Equal is ih =
    let here : int_eq n e.0 ≡ true = ap is_eq is in
    let same : n ≡ e.0 = (Decides-int_eq n e.0).0 here in
    subst (λ k. cond (int_eq q e.0) (Some (c, false)) (other_numbered q es)
    ≡ cond (int_eq q k) (Some (c, false))
    (cond (int_eq q e.0) (Some e.1) (other_numbered q es))) (sym same)
    (cond_twice (int_eq q e.0) (Some (c, false)) (other_numbered q es) (Some e.1))
found_step q n c e es Greater is ih =
    let ne : int_eq n e.0 ≡ false = ap is_eq is in
    ap (λ o. cond (int_eq q e.0) (Some e.1) o) ih
    ∙ cond_swap (int_eq q e.0) (int_eq q n) (Some e.1) (Some (c, false)) (other_numbered q es)
    (apart q n e.0 ne)

pub found-with_other : (q n : ℤ) (c : List ℕ) (es : Others)
    → other_numbered q (with_other n (c, false) es)
    ≡ cond (int_eq q n) (Some (c, false)) (other_numbered q es)
found-with_other q n c [] = refl
found-with_other q n c (e ∷ es) =
    found_step q n c e es (int_cmp n e.0) refl (found-with_other q n c es)

unanswered_step : (n : ℤ) (c : List ℕ) (e : ℤ × RequestEntry) (es : Others) (o : Ordering)
    → cond (is_eq o) (Some e.1) (other_numbered n es) ≡ None →
    (other_numbered n es ≡ None
    → unanswered_others (with_other n (c, false) es) ≡ unanswered_others es + 1) →
    unanswered_others (match_ordering o ((n, (c, false)) ∷ e ∷ es) ((e.0, (c, false)) ∷ es) (e
    ∷ with_other n (c, false) es)) ≡ unanswered_others (e ∷ es) + 1
unanswered_step n c e es Less h ih = omega (arith, unanswered-cons (n, (c, false)) (e ∷ es))
unanswered_step n c e es Equal h ih = absurd (cc)
unanswered_step n c e es Greater h ih =
    omega (arith, unanswered-cons e (with_other n (c, false) es), unanswered-cons e es, ih h)

pub unanswered-with_other : (n : ℤ) (c : List ℕ) (es : Others) → other_numbered n es ≡ None
    → unanswered_others (with_other n (c, false) es) ≡ unanswered_others es + 1
unanswered-with_other n c [] h = refl
unanswered-with_other n c (e ∷ es) h =
    unanswered_step n c e es (int_cmp n e.0) h (unanswered-with_other n c es)

-- one more response
found_answer_step : (q n : ℤ) (c : List ℕ) (a : RequestEntry) (e : ℤ × RequestEntry) (es : Others)
    (b : Bool)
    → int_eq n e.0 ≡ b → cond b (Some e.1) (other_numbered n es) ≡ Some a →
    (other_numbered n es ≡ Some a
    → other_numbered q (with_other_answer n c es)
    ≡ cond (int_eq q n) (Some (c, true)) (other_numbered q es)) →
    other_numbered q (cond b ((e.0, (c, true)) ∷ es) (e ∷ with_other_answer n c es))
    ≡ cond (int_eq q n) (Some (c, true))
    (cond (int_eq q e.0) (Some e.1) (other_numbered q es))
found_answer_step q n c a e es true is h ih =
    let same : n ≡ e.0 = (Decides-int_eq n e.0).0 is in
    subst (λ k. cond (int_eq q e.0) (Some (c, true)) (other_numbered q es)
    ≡ cond (int_eq q k) (Some (c, true))
    (cond (int_eq q e.0) (Some e.1) (other_numbered q es))) (sym same)
    (cond_twice (int_eq q e.0) (Some (c, true)) (other_numbered q es) (Some e.1))
found_answer_step q n c a e es false is h ih =
    ap (λ o. cond (int_eq q e.0) (Some e.1) o) (ih h)
    ∙ cond_swap (int_eq q e.0) (int_eq q n) (Some e.1) (Some (c, true)) (other_numbered q es)
    (apart q n e.0 is)

pub found-with_other_answer : (q n : ℤ) (c : List ℕ) (a : RequestEntry) (es : Others)
    → other_numbered n es ≡ Some a
    → other_numbered q (with_other_answer n c es)
    ≡ cond (int_eq q n) (Some (c, true)) (other_numbered q es)
found-with_other_answer q n c a [] h = absurd (cc)
found-with_other_answer q n c a (e ∷ es) h =
    found_answer_step q n c a e es (int_eq n e.0) refl h (found-with_other_answer q n c a es)

unanswered_answer_step : (n : ℤ) (c d : List ℕ) (e : ℤ × RequestEntry) (es : Others) (b : Bool)
    → cond b (Some e.1) (other_numbered n es) ≡ Some (d, false) →
    (other_numbered n es ≡ Some (d, false)
    → unanswered_others (with_other_answer n c es) + 1 ≡ unanswered_others es)
    →
    unanswered_others (cond b ((e.0, (c, true)) ∷ es) (e ∷ with_other_answer n c es)) + 1
    ≡ unanswered_others (e ∷ es)
unanswered_answer_step n c d e es true h ih =
    let pair : e.1 ≡ (d, false) = cc in
    let one : ℕ = 1 in
    let none : ℕ = 0 in
    let not_yet : cond (not e.1.1) one none ≡ 1 =
    ap (λ (a : RequestEntry). cond (not a.1) one none) pair in
    let before : unanswered_others (e ∷ es) ≡ cond (not e.1.1) one none + unanswered_others es =
    unanswered-cons e es in
    let after : unanswered_others ((e.0, (c, true)) ∷ es) ≡ 0 + unanswered_others es =
    unanswered-cons (e.0, (c, true)) es in
    omega (arith, before, after, not_yet)
unanswered_answer_step n c d e es false h ih =
    omega (arith, unanswered-cons e (with_other_answer n c es), unanswered-cons e es, ih h)

pub unanswered-with_other_answer : (n : ℤ) (c d : List ℕ) (es : Others)
    → other_numbered n es ≡ Some (d, false)
    → unanswered_others (with_other_answer n c es) + 1 ≡ unanswered_others es
unanswered-with_other_answer n c d [] h = absurd (cc)
unanswered-with_other_answer n c d (e ∷ es) h =
    unanswered_answer_step n c d e es (int_eq n e.0) h (unanswered-with_other_answer n c d es)

-- The labels of answers are ordered in the same way as the places of the items that they answer.
use Rattle.std.proofs.Common.{◌≡◌, ℕ, suc, zero, ◌<◌, Bool, true, false, ◌&&◌, inl, inr, List, []}
use Rattle.std.proofs.Common.{◌∷◌, ◌++◌, length, map, take, Option, Some, None, refl, sym, ap, ◌∙◌}
use Rattle.std.proofs.Common.{subst, arith, ◌⊎◌}
use Rattle.std.specs.Prelude.{◌||◌, nat_lt, option_map, slice_get}
use Rattle.std.specs.List.{filter}
use Rattle.std.proofs.lemmas.Bool.{cases_Bool, cond-true, cond-false, and_left, false_from_ne_true}
use Rattle.std.proofs.lemmas.Bool.{both_ways, ltb-true, lt-ltb}
use Rattle.std.proofs.lemmas.List.{append_assoc, append-nil}
use Rattle.dap_order.specs.Labels.{Labels, Labelled, label_after}
use Rattle.dap_order.specs.Classes.{AreClasses, is_of, number, less_number, numbers}
use Rattle.dap_order.specs.Answers.{Answers, answer_key, less_key, answer_labels}
use Rattle.dap_order.specs.ByPlace.{first_place, place_answered, places_answered_after}
use Rattle.dap_order.specs.ByPlace.{less_by_place}
use Rattle.dap_order.proofs.Answers.{same_itself, same_count}

-- ---- labels at places

module _ {X L : Type 0} (s : Labels X L) where
  pub label_at : (before xs : List X) (i : ℕ) (x : X) → slice_get xs i ≡ Some x
      → slice_get (label_after s before xs) i
      ≡ Some (record { item = x; label = s.label_of (before ++ take i xs) x })
  label_at before [] i x e = absurd (cc)
  label_at before (y ∷ xs) zero x e =
      let same : y ≡ x = cc in
      ap (λ z. Some (record { item = z; label = s.label_of before z })) same
      ∙ ap (λ zs. Some (record { item = x; label = s.label_of zs x })) (sym (append-nil before))
  label_at before (y ∷ xs) (suc i) x e =
      label_at (before ++ y ∷ []) xs i x e
      ∙ ap (λ zs. Some (record { item = x; label = s.label_of zs x }))
      (append_assoc before (y ∷ []) (take i xs))

  pub no_label_at : (before xs : List X) (i : ℕ) → slice_get xs i ≡ None
      → slice_get (label_after s before xs) i ≡ None
  no_label_at before [] i e = refl
  no_label_at before (y ∷ xs) zero e = absurd (cc)
  no_label_at before (y ∷ xs) (suc i) e = no_label_at (before ++ y ∷ []) xs i e

-- ---- counts at places

module _ {X : Type 0} (p : X → Bool) where
  counts : (xs : List X) (i j : ℕ) (x : X) → i < j → slice_get xs i ≡ Some x → p x ≡ true
      → length (filter p (take i xs)) < length (filter p (take j xs))
  counts [] i j x low e h = absurd (cc)
  counts (y ∷ xs) i zero x low e h = absurd (omega arith)
  counts (y ∷ xs) zero (suc j) x low e h =
      let same : y ≡ x = cc in
      let passes : p y ≡ true = ap p same ∙ h in
      let taken =
      ap length (cond-true (p y) (y ∷ filter p (take j xs)) (filter p (take j xs)) passes) in
      omega (arith, taken)
  counts (y ∷ xs) (suc i) (suc j) x low e h =
      let rest = counts xs i j x (omega arith) e h in
      let m = filter p (take i xs) in
      let n = filter p (take j xs) in
      elim (cases_Bool (p y)) [
        | inl t ↦ (
            let a = ap length (cond-true (p y) (y ∷ m) m t) in
            let b = ap length (cond-true (p y) (y ∷ n) n t) in
            omega (arith, a, b, rest)
            )
        | inr f ↦ (
            let a = ap length (cond-false (p y) (y ∷ m) m f) in
            let b = ap length (cond-false (p y) (y ∷ n) n f) in
            omega (arith, a, b, rest)
            )
      ]

  -- If two items pass, the one with fewer passing items before it is earlier.
  count_order : (xs : List X) (i j : ℕ) (x y : X) → slice_get xs i ≡ Some x
      → slice_get xs j ≡ Some y → p x ≡ true → p y ≡ true
      → nat_lt (length (filter p (take i xs))) (length (filter p (take j xs))) ≡ nat_lt i j
  count_order xs i j x y d e h k =
      let m = length (filter p (take i xs)) in
      let n = length (filter p (take j xs)) in
      elim (cases_Bool (nat_lt i j)) [
        | inl t ↦ lt-ltb m n (counts xs i j x (ltb-true i j t) d h) ∙ sym t
        | inr f ↦ false_from_ne_true (nat_lt m n) (λ less.
            elim (cases_Bool (nat_lt j i)) [
              | inl back ↦ (
                  let one = counts xs j i y (ltb-true j i back) e k in
                  let two = ltb-true m n less in omega arith
                  )
              | inr neither ↦ (
                  let two = ltb-true m n less in
                  let same : i ≡ j = equal i j f neither in
                  let one : m ≡ n = ap (λ z. length (filter p (take z xs))) same in omega arith
                  )
            ]) ∙ sym f
      ]
    where
      equal : (a b : ℕ) → nat_lt a b ≡ false → nat_lt b a ≡ false → a ≡ b
      equal a b f g =
          let one : a < b → ⊥ = λ l. both_ways (nat_lt a b) f (lt-ltb a b l) in
          let two : b < a → ⊥ = λ l. both_ways (nat_lt b a) g (lt-ltb b a l) in omega arith

within : {X : Type 0} (xs : List X) (i a : ℕ) (q : X) → slice_get (take i xs) a ≡ Some q
    → (slice_get xs a ≡ Some q) × (take a (take i xs) ≡ take a xs)
within [] zero a q e = absurd (cc)
within [] (suc i) a q e = absurd (cc)
within (x ∷ xs) zero a q e = absurd (cc)
within (x ∷ xs) (suc i) zero q e = (e, refl)
within (x ∷ xs) (suc i) (suc a) q e =
    let w = within xs i a q e in (w.0, ap (λ zs. x ∷ zs) w.1)

-- ---- labels of answers

module _ {X C : Type 0} (s : Answers X C) where
  pub place_at : (before xs : List X) (i : ℕ) (x : X) → slice_get xs i ≡ Some x
      → slice_get (places_answered_after s before xs) i
      ≡ Some (place_answered s (before ++ take i xs) x)
  place_at before [] i x e = absurd (cc)
  place_at before (y ∷ xs) zero x e =
      let same : y ≡ x = cc in
      ap (λ z. Some (place_answered s before z)) same
      ∙ ap (λ zs. Some (place_answered s zs x)) (sym (append-nil before))
  place_at before (y ∷ xs) (suc i) x e =
      place_at (before ++ y ∷ []) xs i x e
      ∙ ap (λ zs. Some (place_answered s zs x)) (append_assoc before (y ∷ []) (take i xs))

  pub places_answered_push : (before xs : List X) (x : X)
      → places_answered_after s before (xs ++ x ∷ [])
      ≡ places_answered_after s before xs ++ place_answered s (before ++ xs) x ∷ []
  places_answered_push before [] x =
      ap (λ zs. place_answered s zs x ∷ []) (sym (append-nil before))
  places_answered_push before (y ∷ xs) x =
      ap (λ zs. place_answered s before y ∷ zs)
      (places_answered_push (before ++ y ∷ []) xs x
      ∙ ap (λ zs. places_answered_after s (before ++ y ∷ []) xs ++ place_answered s zs x ∷ [])
      (append_assoc before (y ∷ []) xs))

  -- The first item of xs that x answers is at this place.
  record Found (x : X) (before xs : List X) (a : ℕ) : Type 0 where
    item : X
    more : List (Labelled X (C × ℕ))
    there : slice_get xs a ≡ Some item
    answers : s.answered_by item x ≡ true
    is : filter (λ z. s.answered_by z.item x) (label_after (numbers s.classes) before xs)
        ≡ record { item = item; label = number s.classes (before ++ take a xs) item } ∷ more

  found : (x : X) (before xs : List X) (a : ℕ)
      → first_place (λ q. s.answered_by q x) xs ≡ Some a → Found x before xs a
  found x before [] a e = absurd (cc)
  found x before (y ∷ xs) a e =
      let p : Labelled X (C × ℕ) → Bool = λ z. s.answered_by z.item x in
      let own : Labelled X (C × ℕ) = record { item = y; label = number s.classes before y } in
      let rest = filter p (label_after (numbers s.classes) (before ++ y ∷ []) xs) in
      elim (cases_Bool (s.answered_by y x)) [
        | inl t ↦ (
            let first = cond-true (s.answered_by y x) (Some 0)
            (option_map suc (first_place (λ q. s.answered_by q x) xs)) t in
            let at : 0 ≡ a = cc in
            subst (Found x before (y ∷ xs)) at (record {
              item = y;
              more = rest;
              there = refl;
              answers = t;
              is = cond-true (p own) (own ∷ rest) rest t
                  ∙ ap (λ zs. record { item = y; label = number s.classes zs y } ∷ rest)
                  (sym (append-nil before));
            })
            )
        | inr f ↦ later (first_place (λ q. s.answered_by q x) xs) refl
            (sym (cond-false (s.answered_by y x) (Some 0)
            (option_map suc (first_place (λ q. s.answered_by q x) xs)) f) ∙ e) f
            (λ b d. found x (before ++ y ∷ []) xs b d)
      ]
    where
      later : (o : Option ℕ) → first_place (λ q. s.answered_by q x) xs ≡ o
          → option_map suc o ≡ Some a → s.answered_by y x ≡ false
          → ((b : ℕ) → first_place (λ q. s.answered_by q x) xs ≡ Some b
          → Found x (before ++ y ∷ []) xs b) → Found x before (y ∷ xs) a
      later None d e f more = absurd (cc)
      later (Some b) d e f more =
          let p : Labelled X (C × ℕ) → Bool = λ z. s.answered_by z.item x in
          let own : Labelled X (C × ℕ) = record { item = y; label = number s.classes before y } in
          let rest = filter p (label_after (numbers s.classes) (before ++ y ∷ []) xs) in
          let w = more b d in
          let at : suc b ≡ a = cc in
          subst (Found x before (y ∷ xs)) at (record {
            item = w.item;
            more = w.more;
            there = w.there;
            answers = w.answers;
            is = cond-false (p own) (own ∷ rest) rest f ∙ w.is
                ∙ ap (λ zs. record { item = w.item; label = number s.classes zs w.item } ∷ w.more)
                (append_assoc before (y ∷ []) (take b xs));
          })

  none_found : (x : X) (before xs : List X)
      → first_place (λ q. s.answered_by q x) xs ≡ None
      → filter (λ z. s.answered_by z.item x) (label_after (numbers s.classes) before xs) ≡ []
  none_found x before [] e = refl
  none_found x before (y ∷ xs) e =
      let p : Labelled X (C × ℕ) → Bool = λ z. s.answered_by z.item x in
      let own : Labelled X (C × ℕ) = record { item = y; label = number s.classes before y } in
      let rest = filter p (label_after (numbers s.classes) (before ++ y ∷ []) xs) in
      elim (cases_Bool (s.answered_by y x)) [
        | inl t ↦ absurd (
            let first = cond-true (s.answered_by y x) (Some 0)
            (option_map suc (first_place (λ q. s.answered_by q x) xs)) t in cc
            )
        | inr f ↦ cond-false (p own) (own ∷ rest) rest f
            ∙ none_found x (before ++ y ∷ []) xs
            (none_later (first_place (λ q. s.answered_by q x) xs)
            (sym (cond-false (s.answered_by y x) (Some 0)
            (option_map suc (first_place (λ q. s.answered_by q x) xs)) f) ∙ e))
      ]
    where
      none_later : (o : Option ℕ) → option_map suc o ≡ None → o ≡ None
      none_later None e = refl
      none_later (Some b) e = absurd (cc)

  abbrev Key : Type 0
  Key = (C × ℕ) ⊎ (C × ℕ)

  abbrev label_of : List X → X → Key
  label_of before x = (answer_labels s).label_of before x

  key_found : (before : List X) (x : X) (a : ℕ) (w : Found x [] before a)
      → label_of before x ≡ inl (number s.classes (take a before) w.item)
  key_found before x a w =
      ap (λ zs. answer_key s x (map (λ z. z.label) zs) (number s.classes before x)) w.is

  key_not_found : (before : List X) (x : X) → place_answered s before x ≡ None
      → label_of before x ≡ inr (number s.classes before x)
  key_not_found before x e =
      ap (λ zs. answer_key s x (map (λ z. z.label) zs) (number s.classes before x))
      (none_found x [] before e)

  module _ (are : AreClasses s.classes)
      (one_class : (q r x y : X) → s.answered_by q x ≡ true → s.answered_by r y ≡ true
      → s.classes.class q ≡ s.classes.class r) where
    less_plain : (xs : List X) (i j : ℕ) (x y : X) → slice_get xs i ≡ Some x
        → slice_get xs j ≡ Some y
        → less_number s.classes (number s.classes (take i xs) x) (number s.classes (take j xs) y)
        ≡ less_by_place s x i None y j None
    less_plain xs i j x y d e =
        let b = s.classes.class x in
        let c = s.classes.class y in
        let m = length (filter (is_of s.classes b) (take i xs)) in
        let n = length (filter (is_of s.classes c) (take j xs)) in
        elim (cases_Bool (s.classes.same b c)) [
          | inl t ↦ (
              let agree : nat_lt m n ≡ nat_lt i j =
              ap (λ zs. nat_lt m (length zs)) (sym (same_count s.classes are b c t (take j xs)))
              ∙ count_order (is_of s.classes b) xs i j x y d e (same_itself s.classes are b)
              (are.same_back b c t) in
              ap (λ z. s.classes.less b c || (s.classes.same b c && z)) agree
              )
          | inr f ↦ ap (λ z. s.classes.less b c || z)
              (and_left (s.classes.same b c) (nat_lt m n) f
              ∙ sym (and_left (s.classes.same b c) (nat_lt i j) f))
        ]

    less_answers : (xs : List X) (a b : ℕ) (q r : X) → slice_get xs a ≡ Some q
        → slice_get xs b ≡ Some r → s.classes.class q ≡ s.classes.class r
        → less_number s.classes (number s.classes (take a xs) q) (number s.classes (take b xs) r)
        ≡ nat_lt a b
    less_answers xs a b q r d e one =
        let same : s.classes.same (s.classes.class q) (s.classes.class r) ≡ true =
        ap (λ k. s.classes.same k (s.classes.class r)) one
        ∙ same_itself s.classes are (s.classes.class r) in
        let not_less : s.classes.less (s.classes.class q) (s.classes.class r) ≡ false =
        ap (λ k. s.classes.less k (s.classes.class r)) one
        ∙ false_from_ne_true (s.classes.less (s.classes.class r) (s.classes.class r))
        (are.less_itself (s.classes.class r)) in
        less_plain xs a b q r d e
        ∙ ap (λ z. z || (s.classes.same (s.classes.class q) (s.classes.class r) && nat_lt a b))
        not_less
        ∙ ap (λ z. z && nat_lt a b) same

    pub less_at : (xs : List X) (i j : ℕ) (x y : X) → slice_get xs i ≡ Some x
        → slice_get xs j ≡ Some y
        → less_key s (label_of (take i xs) x) (label_of (take j xs) y)
        ≡ less_by_place s x i (place_answered s (take i xs) x) y j
        (place_answered s (take j xs) y)
    less_at xs i j x y d e =
        at (place_answered s (take i xs) x) (place_answered s (take j xs) y) refl refl
      where
        at : (o p : Option ℕ) → place_answered s (take i xs) x ≡ o
            → place_answered s (take j xs) y ≡ p
            → less_key s (label_of (take i xs) x) (label_of (take j xs) y)
            ≡ less_by_place s x i o y j p
        at None None f g =
            ap (λ k. less_key s k (label_of (take j xs) y)) (key_not_found (take i xs) x f)
            ∙ ap (less_key s (inr (number s.classes (take i xs) x)))
            (key_not_found (take j xs) y g)
            ∙ less_plain xs i j x y d e
        at None (Some b) f g =
            ap (λ k. less_key s k (label_of (take j xs) y)) (key_not_found (take i xs) x f)
            ∙ ap (less_key s (inr (number s.classes (take i xs) x)))
            (key_found (take j xs) y b (found y [] (take j xs) b g))
        at (Some a) None f g =
            ap (λ k. less_key s k (label_of (take j xs) y))
            (key_found (take i xs) x a (found x [] (take i xs) a f))
            ∙ ap (less_key s (inl (number s.classes (take a (take i xs))
            (found x [] (take i xs) a f).item))) (key_not_found (take j xs) y g)
        at (Some a) (Some b) f g =
            let v = found x [] (take i xs) a f in
            let w = found y [] (take j xs) b g in
            let one = within xs i a v.item v.there in
            let two = within xs j b w.item w.there in
            ap (λ k. less_key s k (label_of (take j xs) y)) (key_found (take i xs) x a v)
            ∙ ap (less_key s (inl (number s.classes (take a (take i xs)) v.item)))
            (key_found (take j xs) y b w)
            ∙ ap (λ zs. less_number s.classes (number s.classes zs v.item)
            (number s.classes (take b (take j xs)) w.item)) one.1
            ∙ ap (λ zs. less_number s.classes (number s.classes (take a xs) v.item)
            (number s.classes zs w.item)) two.1
            ∙ less_answers xs a b v.item w.item one.0 two.0
            (one_class v.item w.item x y v.answers w.answers)

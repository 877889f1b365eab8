-- Swaps preserve the labels of answers.
use Rattle.std.proofs.Common.{◌≡◌, ℕ, ◌<◌, Bool, true, ◌⊎◌, inl, inr, List, [], ◌∷◌}
use Rattle.std.proofs.Common.{◌++◌, length, map, refl, sym, ap, ◌∙◌, subst, arith}
use Rattle.std.specs.List.{filter}
use Rattle.std.proofs.lemmas.Bool.{cases_Bool, cond-true, cond-false, true_from_ne_false}
use Rattle.std.proofs.lemmas.Bool.{false_from_ne_true, both_ways}
use Rattle.std.proofs.lemmas.List.{length-append}
use Rattle.std.proofs.lemmas.List.Elements.{filter-append, filter_agree}
use Rattle.dap_order.specs.Labels.{AreLabels, label, label_after}
use Rattle.dap_order.specs.Labels.{Labelled}
use Rattle.dap_order.specs.Classes.{Classes, AreClasses, is_of, number, less_number, numbers}
use Rattle.dap_order.specs.Answering.{IsAnswering}
use Rattle.dap_order.specs.Answers.{Answers, AreAnswers, answer_key, less_key, answering}
use Rattle.dap_order.specs.Answers.{answer_labels}
use Rattle.dap_order.proofs.Classes.{are_labels, less_class, less_count, less_itself, less_on}
use Rattle.dap_order.proofs.Answering.{are_answering_labels}

module _ {X C : Type 0} (s : Classes X C) (are : AreClasses s) where
  pub same_itself : (c : C) → s.same c c ≡ true
  same_itself c = true_from_ne_false (s.same c c) (λ n. elim (are.some_less c c n) [
    | inl l ↦ are.less_itself c l
    | inr l ↦ are.less_itself c l
  ])

  abbrev Either : C × ℕ → C × ℕ → Type 0
  Either a b = (less_number s a b ≡ true) ⊎ (less_number s b a ≡ true)

  other_way : (a b : C × ℕ) → Either a b → Either b a
  other_way a b (inl l) = inr l
  other_way a b (inr l) = inl l

  -- No item of the list has this number.
  abbrev AllOther : C × ℕ → List (Labelled X (C × ℕ)) → Type 0
  AllOther a [] = Unit {0}
  AllOther a (z ∷ zs) = Either a z.label × AllOther a zs

  -- No two items of the list have the same number.
  abbrev AreNumbered : List (Labelled X (C × ℕ)) → Type 0
  AreNumbered [] = Unit {0}
  AreNumbered (z ∷ zs) = AllOther z.label zs × AreNumbered zs

  found_other : (a : C × ℕ) (p : Labelled X (C × ℕ) → Bool) (zs : List (Labelled X (C × ℕ)))
      (b : Labelled X (C × ℕ)) (bs : List (Labelled X (C × ℕ))) → filter p zs ≡ b ∷ bs
      → AllOther a zs → Either a b.label
  found_other a p [] b bs e all = absurd (cc)
  found_other a p (z ∷ zs) b bs e all = elim (cases_Bool (p z)) [
    | inl h ↦ (
        let taken = cond-true (p z) (z ∷ filter p zs) (filter p zs) h in
        let is : z ≡ b = cc in subst (λ w. Either a w.label) is all.0
        )
    | inr h ↦ found_other a p zs b bs
        (sym (cond-false (p z) (z ∷ filter p zs) (filter p zs) h) ∙ e) all.1
  ]

  -- If no item passes both tests, the first items that pass one each have different numbers.
  firsts_other : (p q : Labelled X (C × ℕ) → Bool)
      → ((z : Labelled X (C × ℕ)) → p z ≡ true → q z ≡ true → ⊥)
      → (zs : List (Labelled X (C × ℕ))) (a b : Labelled X (C × ℕ))
      (as' bs : List (Labelled X (C × ℕ))) → filter p zs ≡ a ∷ as' → filter q zs ≡ b ∷ bs
      → AreNumbered zs → Either a.label b.label
  firsts_other p q never [] a b as' bs d e all = absurd (cc)
  firsts_other p q never (z ∷ zs) a b as' bs d e all = elim (cases_Bool (p z)) [
    | inl h ↦ (
        let taken = cond-true (p z) (z ∷ filter p zs) (filter p zs) h in
        let is : z ≡ a = cc in
        let not = false_from_ne_true (q z) (never z h) in
        subst (λ w. Either w.label b.label) is
        (found_other z.label q zs b bs
        (sym (cond-false (q z) (z ∷ filter q zs) (filter q zs) not) ∙ e) all.0)
        )
    | inr h ↦ (
        let rest = sym (cond-false (p z) (z ∷ filter p zs) (filter p zs) h) ∙ d in
        elim (cases_Bool (q z)) [
          | inl k ↦ (
              let taken = cond-true (q z) (z ∷ filter q zs) (filter q zs) k in
              let is : z ≡ b = cc in
              subst (λ w. Either a.label w.label) is
              (other_way z.label a.label (found_other z.label p zs a as' rest all.0))
              )
          | inr k ↦ firsts_other p q never zs a b as' bs rest
              (sym (cond-false (q z) (z ∷ filter q zs) (filter q zs) k) ∙ e) all.1
        ]
        )
  ]

  pub same_count : (c d : C) → s.same c d ≡ true → (xs : List X)
      → filter (is_of s c) xs ≡ filter (is_of s d) xs
  same_count c d e xs = filter_agree (is_of s c) (is_of s d) (λ x. at x) xs
    where
      at : (x : X) → s.same (s.class x) c ≡ s.same (s.class x) d
      at x = elim (cases_Bool (s.same (s.class x) c)) [
        | inl h ↦ h ∙ sym (are.same_on (s.class x) c d h e)
        | inr h ↦ h ∙ sym (false_from_ne_true (s.same (s.class x) d) (λ k.
            both_ways (s.same (s.class x) c) h
            (are.same_on (s.class x) d c k (are.same_back c d e))))
      ]

  -- The number of an item is smaller than the numbers of later items of its class.
  below_after : (a : C × ℕ) (ahead xs : List X) → a.1 < length (filter (is_of s a.0) ahead)
      → AllOther a (label_after (numbers s) ahead xs)
  below_after a ahead [] l = tt
  below_after a ahead (y ∷ ys) l =
      let c = s.class y in
      let more : a.1 < length (filter (is_of s a.0) (ahead ++ y ∷ [])) =
      omega (
        arith,
        ap length (filter-append (is_of s a.0) ahead (y ∷ [])),
        length-append (filter (is_of s a.0) ahead) (filter (is_of s a.0) (y ∷ [])),
        l,
      ) in (
        elim (cases_Bool (s.same a.0 c)) [
          | inl e ↦ inl (less_count s are a (number s ahead y) e
              (subst (λ zs. a.1 < length zs) (same_count a.0 c e ahead) l))
          | inr n ↦ elim (are.some_less a.0 c n) [
            | inl below ↦ inl (less_class s are a (number s ahead y) below)
            | inr above ↦ inr (less_class s are (number s ahead y) a above)
          ]
        ],
        below_after a (ahead ++ y ∷ []) ys more,
      )

  are_numbered : (before xs : List X) → AreNumbered (label_after (numbers s) before xs)
  are_numbered before [] = tt
  are_numbered before (x ∷ xs) =
      let c = s.class x in
      let one = cond-true (is_of s c x) (x ∷ []) [] (same_itself c) in
      let next : length (filter (is_of s c) before)
      < length (filter (is_of s c) (before ++ x ∷ [])) =
      omega (
        arith,
        ap length (filter-append (is_of s c) before (x ∷ [])),
        length-append (filter (is_of s c) before) (filter (is_of s c) (x ∷ [])),
        ap length one,
      ) in (
        below_after (number s before x) (before ++ x ∷ []) xs next,
        are_numbered (before ++ x ∷ []) xs,
      )

module _ {X C : Type 0} (s : Answers X C) (are : AreAnswers s) where
  key_itself : (k : (C × ℕ) ⊎ (C × ℕ)) → less_key s k k ≡ true → ⊥
  key_itself (inl a) h = less_itself s.classes are.are_classes a h
  key_itself (inr a) h = less_itself s.classes are.are_classes a h

  key_on : (k l m : (C × ℕ) ⊎ (C × ℕ)) → less_key s k l ≡ true → less_key s l m ≡ true
      → less_key s k m ≡ true
  key_on (inl a) (inl b) (inl c) p q = less_on s.classes are.are_classes a b c p q
  key_on (inl a) (inl b) (inr c) p q = refl
  key_on (inl a) (inr b) (inl c) p q = absurd (cc)
  key_on (inl a) (inr b) (inr c) p q = refl
  key_on (inr a) (inl b) m p q = absurd (cc)
  key_on (inr a) (inr b) (inl c) p q = absurd (cc)
  key_on (inr a) (inr b) (inr c) p q = less_on s.classes are.are_classes a b c p q

  abbrev Key : Type 0
  Key = (C × ℕ) ⊎ (C × ℕ)

  keys_apart : (before : List X) (x y : X) → s.classes.free x y ≡ true
      → (less_key s ((answer_labels s).label_of before x) ((answer_labels s).label_of before y)
      ≡ true)
      ⊎ (less_key s ((answer_labels s).label_of before y) ((answer_labels s).label_of before x)
      ≡ true)
  keys_apart before x y f = at (filter p zs) (filter q zs) refl refl
    where
      zs : List (Labelled X (C × ℕ))
      zs = label (numbers s.classes) before

      p : Labelled X (C × ℕ) → Bool
      p z = s.answered_by z.item x

      q : Labelled X (C × ℕ) → Bool
      q z = s.answered_by z.item y

      at : (as' bs : List (Labelled X (C × ℕ)))
          → filter (λ z. s.answered_by z.item x) (label (numbers s.classes) before) ≡ as'
          → filter (λ z. s.answered_by z.item y) (label (numbers s.classes) before) ≡ bs
          → (less_key s (answer_key s x (map (λ z. z.label) as') (number s.classes before x))
          (answer_key s y (map (λ z. z.label) bs) (number s.classes before y)) ≡ true)
          ⊎ (less_key s (answer_key s y (map (λ z. z.label) bs) (number s.classes before y))
          (answer_key s x (map (λ z. z.label) as') (number s.classes before x)) ≡ true)
      at [] [] d e = (are_labels s.classes are.are_classes).apart before x y f
      at [] (b ∷ bs) d e = inr refl
      at (a ∷ as') [] d e = inl refl
      at (a ∷ as') (b ∷ bs) d e =
          firsts_other s.classes are.are_classes (λ z. s.answered_by z.item x)
          (λ z. s.answered_by z.item y)
          (λ z h k. are.one_answer x y z.item f h k) (label (numbers s.classes) before) a b as' bs
          d e (are_numbered s.classes are.are_classes [] before)

  is_answering : IsAnswering (numbers s.classes) (answering s)
  is_answering = record {
    not_free = are.not_free;
    one_answered = are.one_answered;
    less_itself = key_itself;
    less_on = key_on;
    apart = keys_apart;
  }

  pub are_answer_labels : AreLabels (answer_labels s)
  are_answer_labels =
      are_answering_labels (numbers s.classes) (answering s) (are_labels s.classes are.are_classes)
      is_answering

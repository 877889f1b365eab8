-- Answers that are alike have labels that are alike, and therefore orders that are alike.
use Rattle.std.proofs.Common.{◌≡◌, ℕ, Bool, true, ◌⊎◌, inl, inr, List, [], ◌∷◌, ◌++◌, length, map}
use Rattle.std.proofs.Common.{refl, sym, ap, ◌∙◌, subst, suc}
use Rattle.std.specs.Prelude.{⊤}
use Rattle.std.specs.List.{AllZip, filter}
use Rattle.std.proofs.lemmas.Bool.{cases_Bool, cond-true, cond-false}
use Rattle.std.specs.Prelude.{◌≢◌}
use Rattle.dap_order.specs.Labels.{label, label_after, order_by_label}
use Rattle.dap_order.specs.Labels.{Labelled}
use Rattle.dap_order.specs.Classes.{Classes, is_of, number, less_number, numbers}
use Rattle.dap_order.specs.Answers.{Answers, answer_key, less_key, answer_labels}
use Rattle.dap_order.specs.Alike.{EachAfter, HaveAlikeLabels}
use Rattle.dap_order.specs.AlikeAnswers.{HaveAlikeClasses, IsPlainOrAnswer}
use Rattle.dap_order.proofs.Alike.{Both, label_alike, order_by_label_alike, all_fine}

filter_alike : {A B : Type 0} (R : A → B → Type 0) (p : A → Bool) (q : B → Bool)
    → ((a : A) (b : B) → R a b → p a ≡ q b) → (as' : List A) (bs : List B) → AllZip R as' bs
    → AllZip R (filter p as') (filter q bs)
filter_alike R p q agree [] [] all = tt
filter_alike R p q agree [] (b ∷ bs) all = absurd all
filter_alike R p q agree (a ∷ as') [] all = absurd all
filter_alike R p q agree (a ∷ as') (b ∷ bs) all =
    let rest = filter_alike R p q agree as' bs all.1 in
    let one = agree a b all.0 in
    elim (cases_Bool (p a)) [
      | inl h ↦ subst (λ zs. AllZip R zs (filter q (b ∷ bs)))
          (sym (cond-true (p a) (a ∷ filter p as') (filter p as') h))
          (subst (AllZip R (a ∷ filter p as'))
          (sym (cond-true (q b) (b ∷ filter q bs) (filter q bs) (sym one ∙ h))) (all.0, rest))
      | inr h ↦ subst (λ zs. AllZip R zs (filter q (b ∷ bs)))
          (sym (cond-false (p a) (a ∷ filter p as') (filter p as') h))
          (subst (AllZip R (filter p as'))
          (sym (cond-false (q b) (b ∷ filter q bs) (filter q bs) (sym one ∙ h))) rest)
    ]

length_alike : {A B : Type 0} (R : A → B → Type 0) (as' : List A) (bs : List B)
    → AllZip R as' bs → length as' ≡ length bs
length_alike R [] [] all = refl
length_alike R [] (b ∷ bs) all = absurd all
length_alike R (a ∷ as') [] all = absurd all
length_alike R (a ∷ as') (b ∷ bs) all = ap suc (length_alike R as' bs all.1)

module _ {X C : Type 0} (s : Classes X C) where
  -- The first item that passes a test, with its number.
  record IsFirst (p : Labelled X (C × ℕ) → Bool) (z : Labelled X (C × ℕ)) : Type 0 where
    passes : p z ≡ true
    class : s.class z.item ≡ z.label.0

  first_is : (p : Labelled X (C × ℕ) → Bool) (before xs : List X) (z : Labelled X (C × ℕ))
      (zs : List (Labelled X (C × ℕ))) → filter p (label_after (numbers s) before xs) ≡ z ∷ zs
      → IsFirst p z
  first_is p before [] z zs e = absurd (cc)
  first_is p before (x ∷ xs) z zs e =
      let own : Labelled X (C × ℕ) = record { item = x; label = number s before x } in
      let rest = label_after (numbers s) (before ++ x ∷ []) xs in
      elim (cases_Bool (p own)) [
        | inl h ↦ (
            let taken = cond-true (p own) (own ∷ filter p rest) (filter p rest) h in
            let is : own ≡ z = cc in
            subst (IsFirst p) is (record { passes = h; class = refl })
            )
        | inr h ↦ first_is p (before ++ x ∷ []) xs z zs
            (sym (cond-false (p own) (own ∷ filter p rest) (filter p rest) h) ∙ e)
      ]

module _ {X Y C D : Type 0} (s : Answers X C) (t : Answers Y D) (Alike : X → Y → Type 0)
    (AlikeClass InOrder : C → D → Type 0) (IsPlain : X → Type 0)
    (have : HaveAlikeClasses s t Alike AlikeClass InOrder IsPlain) where
  -- Numbers are alike if their classes are and the counts are equal.
  abbrev AlikeNumber : C × ℕ → D × ℕ → Type 0
  AlikeNumber a b = AlikeClass a.0 b.0 × (a.1 ≡ b.1)

  abbrev InOrderNumber : C × ℕ → D × ℕ → Type 0
  InOrderNumber a b = AlikeClass a.0 b.0 × InOrder a.0 b.0 × (a.1 ≡ b.1)

  abbrev AlikeKey : (C × ℕ) ⊎ (C × ℕ) → (D × ℕ) ⊎ (D × ℕ) → Type 0
  AlikeKey (inl a) (inl b) = InOrderNumber a b
  AlikeKey (inl a) (inr b) = ⊥
  AlikeKey (inr a) (inl b) = ⊥
  AlikeKey (inr a) (inr b) = InOrderNumber a b

  number_alike : (before : List X) (x : X) (other : List Y) (u : Y) → AllZip Alike before other
      → Alike x u → AlikeNumber (number s.classes before x) (number t.classes other u)
  number_alike before x other u all a =
      let class = have.class x u a in (
        class,
        length_alike Alike (filter (is_of s.classes (s.classes.class x)) before)
            (filter (is_of t.classes (t.classes.class u)) other)
            (filter_alike Alike (is_of s.classes (s.classes.class x))
            (is_of t.classes (t.classes.class u))
            (λ y v b. have.same_same (s.classes.class y) (s.classes.class x) (t.classes.class v)
            (t.classes.class u) (have.class y v b) class) before other all),
      )

  less_number_alike : (a b : C × ℕ) (c d : D × ℕ) → InOrderNumber a c → InOrderNumber b d
      → less_number s.classes a b ≡ less_number t.classes c d
  less_number_alike a b c d p q =
      let one = have.same_less a.0 b.0 c.0 d.0 p.1 q.1 in
      let two = have.same_same a.0 b.0 c.0 d.0 p.0 q.0 in
      let m = p.2 in
      let n = q.2 in cc

  less_key_alike : (a b : (C × ℕ) ⊎ (C × ℕ)) (c d : (D × ℕ) ⊎ (D × ℕ)) → AlikeKey a c
      → AlikeKey b d → less_key s a b ≡ less_key t c d
  less_key_alike (inl a) (inl b) (inl c) (inl d) p q = less_number_alike a b c d p q
  less_key_alike (inl a) (inr b) (inl c) (inr d) p q = refl
  less_key_alike (inr a) (inl b) (inr c) (inl d) p q = refl
  less_key_alike (inr a) (inr b) (inr c) (inr d) p q = less_number_alike a b c d p q
  less_key_alike (inl a) b (inr c) d p q = absurd p
  less_key_alike (inr a) b (inl c) d p q = absurd p
  less_key_alike a (inl b) c (inr d) p q = absurd q
  less_key_alike a (inr b) c (inl d) p q = absurd q

  abbrev BothNumbers : Labelled X (C × ℕ) → Labelled Y (D × ℕ) → Type 0
  BothNumbers = Both (numbers s.classes) (numbers t.classes) Alike AlikeNumber

  key_alike : (before : List X) (x : X) (other : List Y) (u : Y) → AllZip Alike before other
      → Alike x u → IsPlainOrAnswer s IsPlain before x
      → AlikeKey ((answer_labels s).label_of before x) ((answer_labels t).label_of other u)
  key_alike before x other u all a answered =
      at (filter (λ z. s.answered_by z.item x) (label (numbers s.classes) before))
      (filter (λ w. t.answered_by w.item u) (label (numbers t.classes) other)) refl refl
      (filter_alike BothNumbers (λ z. s.answered_by z.item x) (λ w. t.answered_by w.item u)
      (λ z w b. have.same_answered_by z.item x w.item u b.0 a) (label (numbers s.classes) before)
      (label (numbers t.classes) other)
      (label_alike (numbers s.classes) (numbers t.classes) Alike AlikeNumber (λ ahead y. ⊤)
      (λ ahead y after v zip b fine. number_alike ahead y after v zip b) [] before [] other tt all
      (all_fine [] before)))
      answered
    where
      at : (as' : List (Labelled X (C × ℕ))) (bs : List (Labelled Y (D × ℕ)))
          → filter (λ z. s.answered_by z.item x) (label (numbers s.classes) before) ≡ as'
          → filter (λ w. t.answered_by w.item u) (label (numbers t.classes) other) ≡ bs
          → AllZip BothNumbers as' bs → IsPlain x ⊎ (map (λ z. z.label) as' ≢ [])
          → AlikeKey (answer_key s x (map (λ z. z.label) as') (number s.classes before x))
          (answer_key t u (map (λ w. w.label) bs) (number t.classes other u))
      at [] [] d e zip (inl plain) =
          let own = number_alike before x other u all a in
          (own.0, have.plain_in_order x u a plain, own.1)
      at [] [] d e zip (inr not_none) = absurd (not_none refl)
      at [] (w ∷ bs) d e zip outcome = absurd zip
      at (z ∷ as') [] d e zip outcome = absurd zip
      at (z ∷ as') (w ∷ bs) d e zip outcome =
          let one = first_is s.classes (λ y. s.answered_by y.item x) [] before z as' d in
          let two = first_is t.classes (λ v. t.answered_by v.item u) [] other w bs e in (
            zip.0.1.0,
            subst (InOrder z.label.0) two.class
                (subst (λ c. InOrder c (t.classes.class w.item)) one.class
                (have.answered_in_order z.item x w.item zip.0.0 one.passes)),
            zip.0.1.1,
          )

  have_alike : HaveAlikeLabels (answer_labels s) (answer_labels t) (IsPlainOrAnswer s IsPlain) Alike
      AlikeKey
  have_alike = record {
    same_free = have.same_free;
    same_less = less_key_alike;
    label = key_alike;
  }

  pub order_of_answers_alike : (xs : List X) (us : List Y) → AllZip Alike xs us
      → EachAfter (IsPlainOrAnswer s IsPlain) [] xs
      → AllZip Alike (order_by_label (answer_labels s) xs) (order_by_label (answer_labels t) us)
  order_of_answers_alike =
      order_by_label_alike (answer_labels s) (answer_labels t) Alike AlikeKey
      (IsPlainOrAnswer s IsPlain) have_alike

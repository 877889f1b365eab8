-- The windows of two different JSON texts differ.
use Rattle.std.proofs.Common.{◌≡◌, ◌≢◌, ℕ, suc, ◌+◌, ◌-◌, ◌*◌, ◌<◌, ◌≤◌, Bool, true, false, cond}
use Rattle.std.proofs.Common.{not, inl, inr, List, [], ◌∷◌, ◌++◌, length, take, nat_eq}
use Rattle.std.proofs.Common.{refl, sym, ◌∙◌, ap, arith, ltb, eqb, eq-eqb, zero-add}
use Rattle.std.proofs.lemmas.Bool.{ne_eqb, eqb-true, eqb-false, lt-ltb, le-ltb, and_from, and_left}
use Rattle.std.proofs.lemmas.Bool.{and_right, cases_Bool, cases_lt}
use Rattle.std.proofs.Common.{ℤ, pos, negsuc, zero, ◌/◌, ◌%◌, codes, decimal}
use Rattle.std.proofs.lemmas.Bool.Decides.{nat_tests}
use Rattle.std.proofs.lemmas.List.{append_cancel_left}
use Rattle.std.proofs.lemmas.Grind.{common_steps}
use Rattle.std.specs.Fmt.{digits, digits_onto, digit_glyph}
use Rattle.std.specs.List.{common_prefix_len}
use Rattle.dap_tree.specs.Doc.{Doc, null, boolean, text, list, object, id}
use Rattle.dap_tree.specs.Doc.{whole as whole_number}
use Rattle.dap_tree.specs.Json.{text_of}
use Rattle.dap_difference.specs.Laws.{PrintedApart, PrintedWhole, WindowsAreShort}
use Rattle.dap_difference.specs.Windows.{goes_on, characters, is_long, cut}
use Rattle.dap_difference.specs.Windows.{left_after}
use Rattle.dap_difference.specs.Windows.{starts_sign, signs_from, signs, after_signs_from}
use Rattle.dap_difference.specs.Windows.{after_signs, shared, signs_before, window}

ltb_suc : (a b : ℕ) → ltb (suc a) (suc b) ≡ ltb a b
ltb_suc a b = grind (arith, nat_tests)

-- two texts that differ from their start
abbrev DifferAtOnce : List ℕ → List ℕ → Type 0
DifferAtOnce [] [] = ⊥
DifferAtOnce [] (b ∷ y) = Unit {0}
DifferAtOnce (a ∷ x) [] = Unit {0}
DifferAtOnce (a ∷ x) (b ∷ y) = a ≢ b

characters_goes_on : (b : ℕ) (s : List ℕ) → goes_on b ≡ true → characters (b ∷ s) ≡ characters s
characters_goes_on b s g = simp g (zero-add _)

characters_starts : (b : ℕ) (s : List ℕ) → goes_on b ≡ false
    → characters (b ∷ s) ≡ 1 + characters s
characters_starts b s g = simp g

characters_more : (b : ℕ) (s : List ℕ) → characters (b ∷ s) ≤ 1 + characters s
characters_more b s =
    elim (cases_Bool (goes_on b)) [
      | inl g ↦ let e = characters_goes_on b s g in omega arith
      | inr g ↦ let e = characters_starts b s g in omega arith
    ]

-- ---- a text that is cut, from its start

cut_goes_on : (n b : ℕ) (s : List ℕ) → goes_on b ≡ true → cut n (b ∷ s) ≡ b ∷ cut n s
cut_goes_on n b s g = simp (g, ltb_suc)

cut_starts : (n b : ℕ) (s : List ℕ) → goes_on b ≡ false → 0 < n
    → cut n (b ∷ s) ≡ b ∷ cut (n - 1) s
cut_starts n b s g some =
    let more : ltb 0 n ≡ true = lt-ltb 0 n some in
    simp (g, more, ltb_suc)

cut_none : (n b : ℕ) (s : List ℕ) → goes_on b ≡ false → n ≤ 0 → cut n (b ∷ s) ≡ codes "..."
cut_none n b s g none =
    let more : ltb 0 n ≡ false = le-ltb 0 n none in
    simp (g, more, lt-ltb 0 (suc (length s)) (omega arith))

cut_first : (n b : ℕ) (s : List ℕ) → 0 < n → (r : List ℕ) × (cut n (b ∷ s) ≡ b ∷ r)
cut_first n b s some =
    elim (cases_Bool (goes_on b)) [
      | inl g ↦ (cut n s, cut_goes_on n b s g)
      | inr g ↦ (cut (n - 1) s, cut_starts n b s g some)
    ]

cut_apart : (c x y : List ℕ) (n : ℕ) → characters c < n → DifferAtOnce x y
    → cut n (c ++ x) ≡ cut n (c ++ y) → ⊥
cut_apart [] [] [] n few differ same = differ
cut_apart [] [] (b ∷ y) n few differ same =
    let first = cut_first n b y (omega arith) in
    let e : [] ≡ b ∷ first.0 = same ∙ first.1 in
    cc
cut_apart [] (a ∷ x) [] n few differ same =
    let first = cut_first n a x (omega arith) in
    let e : [] ≡ a ∷ first.0 = sym same ∙ first.1 in
    cc
cut_apart [] (a ∷ x) (b ∷ y) n few differ same =
    let one = cut_first n a x (omega arith) in
    let other = cut_first n b y (omega arith) in
    let e : a ∷ one.0 ≡ b ∷ other.0 = sym one.1 ∙ same ∙ other.1 in
    differ cc
cut_apart (d ∷ c) x y n few differ same =
    elim (cases_Bool (goes_on d)) [
      | inl g ↦
          let e : d ∷ cut n (c ++ x) ≡ d ∷ cut n (c ++ y) =
          sym (cut_goes_on n d (c ++ x) g) ∙ same ∙ cut_goes_on n d (c ++ y) g in
          let rest : cut n (c ++ x) ≡ cut n (c ++ y) = cc in
          let less = rw g at few in
          cut_apart c x y n (omega arith) differ rest
      | inr g ↦
          let less = rw g at few in
          let some : 0 < n = omega arith in
          let e : d ∷ cut (n - 1) (c ++ x) ≡ d ∷ cut (n - 1) (c ++ y) =
          sym (cut_starts n d (c ++ x) g some) ∙ same ∙ cut_starts n d (c ++ y) g some in
          let rest : cut (n - 1) (c ++ x) ≡ cut (n - 1) (c ++ y) = cc in
          cut_apart c x y (n - 1) (omega arith) differ rest
    ]

-- ---- a sign has at most six characters

left_small : (n b : ℕ) → n ≤ 5 → left_after n b ≤ 5
left_small n b few = grind (arith, nat_tests)

left_less : (n b : ℕ) → 0 < n → left_after n b < n
left_less n b some = grind (arith, nat_tests)

left_goes_on : (b : ℕ) → goes_on b ≡ true → left_after 0 b ≡ 0
left_goes_on b g = grind (arith, nat_tests)

starts_outside : (n b : ℕ) → starts_sign n b ≡ true → n ≡ 0
starts_outside n b h = grind (arith, nat_tests)

starts_at : (n b : ℕ) → n ≤ 0 → goes_on b ≡ false → starts_sign n b ≡ true
starts_at n b none g = and_from _ _ (eq-eqb n 0 (omega arith)) (ap not g)

starts_not : (n b : ℕ) → 0 < n → starts_sign n b ≡ false
starts_not n b some = and_left _ _ (ne_eqb n 0 (λ e. omega arith))

goes_on_not : (n b : ℕ) → goes_on b ≡ true → starts_sign n b ≡ false
goes_on_not n b g = and_right _ _ (ap not g)

signs_yes : (n b : ℕ) (s : List ℕ) → starts_sign n b ≡ true
    → signs_from n (b ∷ s) ≡ 1 + signs_from (left_after n b) s
signs_yes n b s h = simp h

signs_no : (n b : ℕ) (s : List ℕ) → starts_sign n b ≡ false
    → signs_from n (b ∷ s) ≡ signs_from (left_after n b) s
signs_no n b s h = simp h (zero-add _)

-- inside an escape sequence, one byte less of it is left after each byte
few_inside : (n b : ℕ) (s : List ℕ) → 0 < n
    → characters s ≤ 6 * signs_from (left_after n b) s + left_after n b
    → characters (b ∷ s) ≤ 6 * signs_from n (b ∷ s) + n
few_inside n b s some rest =
    let less = left_less n b some in
    let none = signs_no n b s (starts_not n b some) in
    let one : characters (b ∷ s) ≤ 1 + characters s = characters_more b s in
    omega arith

few_outside : (n b : ℕ) (s : List ℕ) → n ≤ 0
    → characters s ≤ 6 * signs_from (left_after n b) s + left_after n b
    → characters (b ∷ s) ≤ 6 * signs_from n (b ∷ s) + n
few_outside n b s outside rest =
    elim (cases_Bool (goes_on b)) [
      | inl g ↦
          let e : n ≡ 0 = omega arith in
          let same : left_after n b ≡ 0 = ap (λ x. left_after x b) e ∙ left_goes_on b g in
          let none = signs_no n b s (goes_on_not n b g) in
          let no_more = characters_goes_on b s g in
          omega arith
      | inr g ↦
          let small : left_after n b ≤ 5 = left_small n b (omega arith) in
          let more = signs_yes n b s (starts_at n b outside g) in
          let one = characters_starts b s g in
          omega arith
    ]

characters_few : (s : List ℕ) (n : ℕ) → n ≤ 5 → characters s ≤ 6 * signs_from n s + n
characters_few [] n few = omega arith
characters_few (b ∷ s) n few =
    let rest = characters_few s (left_after n b) (left_small n b few) in
    elim (cases_lt 0 n) [
      | inl some ↦ few_inside n b s some rest
      | inr outside ↦ few_outside n b s outside rest
    ]

-- ---- the text after some signs

after_yes : (n k b : ℕ) (s : List ℕ) → starts_sign n b ≡ true → 0 < k
    → after_signs_from n k (b ∷ s) ≡ after_signs_from (left_after n b) (k - 1) s
after_yes n k b s h some = let more : ltb 0 k ≡ true = lt-ltb 0 k some in simp (h, more)

after_none : (n k b : ℕ) (s : List ℕ) → starts_sign n b ≡ true → k ≤ 0
    → after_signs_from n k (b ∷ s) ≡ b ∷ s
after_none n k b s h none = let more : ltb 0 k ≡ false = le-ltb 0 k none in simp (h, more)

after_no : (n k b : ℕ) (s : List ℕ) → starts_sign n b ≡ false
    → after_signs_from n k (b ∷ s) ≡ after_signs_from (left_after n b) k s
after_no n k b s h = simp h

after_append : (c x : List ℕ) (n k : ℕ) → k < signs_from n c
    → after_signs_from n k (c ++ x) ≡ after_signs_from n k c ++ x
after_append [] x n k few = absurd (omega arith)
after_append (b ∷ c) x n k few =
    elim (cases_Bool (starts_sign n b)) [
      | inl h ↦ elim (cases_lt 0 k) [
        | inl some ↦
            let more = signs_yes n b c h in
            after_yes n k b (c ++ x) h some
            ∙ after_append c x (left_after n b) (k - 1) (omega arith)
            ∙ ap (λ r. r ++ x) (sym (after_yes n k b c h some))
        | inr none ↦ after_none n k b (c ++ x) h none
            ∙ ap (λ r. r ++ x) (sym (after_none n k b c h none))
      ]
      | inr h ↦
          let same = signs_no n b c h in
          after_no n k b (c ++ x) h
          ∙ after_append c x (left_after n b) k (omega arith)
          ∙ ap (λ r. r ++ x) (sym (after_no n k b c h))
    ]

after_count : (c : List ℕ) (n k : ℕ) → k < signs_from n c
    → signs_from 0 (after_signs_from n k c) + k ≡ signs_from n c
after_count [] n k few = absurd (omega arith)
after_count (b ∷ c) n k few =
    elim (cases_Bool (starts_sign n b)) [
      | inl h ↦
          let more = signs_yes n b c h in
          elim (cases_lt 0 k) [
            | inl some ↦
                let rest = after_count c (left_after n b) (k - 1) (omega arith) in
                let e = ap (λ r. signs_from 0 r) (after_yes n k b c h some) in
                omega arith
            | inr none ↦
                let e = ap (λ r. signs_from 0 r) (after_none n k b c h none) in
                let back : 0 ≡ n = sym (starts_outside n b h) in
                let outside = ap (λ m. signs_from m (b ∷ c)) back in
                omega arith
          ]
      | inr h ↦
          let same = signs_no n b c h in
          let rest = after_count c (left_after n b) k (omega arith) in
          let e = ap (λ r. signs_from 0 r) (after_no n k b c h) in
          omega arith
    ]

-- ---- two different texts

-- the bytes that both texts share, and what follows them
record Splits (s t : List ℕ) : Type 0 where
  front : List ℕ
  of_s : List ℕ
  of_t : List ℕ
  s_is : s ≡ front ++ of_s
  t_is : t ≡ front ++ of_t
  differ : DifferAtOnce of_s of_t
  in_s : shared s t ≡ front
  in_t : shared t s ≡ front

take_one_more : (a n : ℕ) (s : List ℕ) → take (1 + n) (a ∷ s) ≡ a ∷ take n s
take_one_more a n s = grind (arith, common_steps)

shared_more : (a b : ℕ) (s t : List ℕ) → eqb a b ≡ true → shared (a ∷ s) (b ∷ t) ≡ a ∷ shared s t
shared_more a b s t h = simp h (take_one_more a (common_prefix_len nat_eq s t) s)

shared_none : (a b : ℕ) (s t : List ℕ) → eqb a b ≡ false → shared (a ∷ s) (b ∷ t) ≡ []
shared_none a b s t h = simp h

splits : (s t : List ℕ) → s ≢ t → Splits s t
splits [] [] ne = absurd (ne refl)
splits [] (b ∷ t) ne = record {
  front = [];
  of_s = [];
  of_t = b ∷ t;
  s_is = refl;
  t_is = refl;
  differ = tt;
  in_s = refl;
  in_t = refl;
}
splits (a ∷ s) [] ne = record {
  front = [];
  of_s = a ∷ s;
  of_t = [];
  s_is = refl;
  t_is = refl;
  differ = tt;
  in_s = refl;
  in_t = refl;
}
splits (a ∷ s) (b ∷ t) ne =
    elim (cases_Bool (eqb a b)) [
      | inl h ↦
          let e : a ≡ b = eqb-true a b h in
          let back : eqb b a ≡ true = eq-eqb b a (sym e) in
          let rest : Splits s t = splits s t (λ same. ne cc) in
          record {
            front = a ∷ rest.front;
            of_s = rest.of_s;
            of_t = rest.of_t;
            s_is = ap (λ r. a ∷ r) rest.s_is;
            t_is = ap (λ x. x ∷ t) (sym e) ∙ ap (λ r. a ∷ r) rest.t_is;
            differ = rest.differ;
            in_s = shared_more a b s t h ∙ ap (λ r. a ∷ r) rest.in_s;
            in_t = shared_more b a t s back ∙ ap (λ x. x ∷ shared t s) (sym e)
                ∙ ap (λ r. a ∷ r) rest.in_t;
          }
      | inr h ↦
          let back : eqb b a ≡ false = ne_eqb b a (λ e. eqb-false a b h (sym e)) in
          record {
            front = [];
            of_s = a ∷ s;
            of_t = b ∷ t;
            s_is = refl;
            t_is = refl;
            differ = eqb-false a b h;
            in_s = shared_none a b s t h;
            in_t = shared_none b a t s back;
          }
    ]

-- ---- a text that is not long

long_goes_on : (n b : ℕ) (s : List ℕ) → goes_on b ≡ true → is_long n (b ∷ s) ≡ is_long n s
long_goes_on n b s g = simp (g, ltb_suc)

long_starts : (n b : ℕ) (s : List ℕ) → goes_on b ≡ false → 0 < n
    → is_long n (b ∷ s) ≡ is_long (n - 1) s
long_starts n b s g some =
    let more : ltb 0 n ≡ true = lt-ltb 0 n some in
    simp (g, more, ltb_suc)

long_at_none : (n b : ℕ) (s : List ℕ) → goes_on b ≡ false → n ≤ 0 → is_long n (b ∷ s) ≡ true
long_at_none n b s g none =
    let more : ltb 0 n ≡ false = le-ltb 0 n none in
    simp (g, more) (lt-ltb 0 (suc (length s)) (omega arith))

whole : (s : List ℕ) (n : ℕ) → is_long n s ≡ false → cut n s ≡ s
whole [] n short = refl
whole (b ∷ s) n short =
    elim (cases_Bool (goes_on b)) [
      | inl g ↦ cut_goes_on n b s g
          ∙ ap (λ r. b ∷ r) (whole s n (sym (long_goes_on n b s g) ∙ short))
      | inr g ↦ elim (cases_lt 0 n) [
        | inl some ↦ cut_starts n b s g some
            ∙ ap (λ r. b ∷ r) (whole s (n - 1) (sym (long_starts n b s g some) ∙ short))
        | inr none ↦ let long = long_at_none n b s g none in absurd cc
      ]
    ]

-- ---- windows

-- the text starts with a dot, as what replaces a part of a text does
abbrev has_dot : List ℕ → Bool
has_dot [] = false
has_dot (b ∷ s) = eqb b 46

dot_stays : (n : ℕ) (s : List ℕ) → 0 < n → has_dot (cut n s) ≡ has_dot s
dot_stays n [] some = refl
dot_stays n (b ∷ s) some = ap has_dot (cut_first n b s some).1

window_near : (n : ℕ) (s t : List ℕ) → signs_before s t ≤ 0 → window n s t ≡ cut n s
window_near n s t near =
    let none : ltb 0 (signs_before s t) ≡ false = le-ltb 0 (signs_before s t) near in
    ap (λ b. cond b (codes "..." ++ cut n (after_signs (signs_before s t) s)) (cut n s))
    (and_right (is_long n s) (ltb 0 (signs_before s t)) none)

window_short : (n : ℕ) (s t : List ℕ) → is_long n s ≡ false → window n s t ≡ cut n s
window_short n s t short =
    ap (λ b. cond b (codes "..." ++ cut n (after_signs (signs_before s t) s)) (cut n s))
    (and_left (is_long n s) (ltb 0 (signs_before s t)) short)

window_far : (n : ℕ) (s t : List ℕ) → is_long n s ≡ true → 0 < signs_before s t
    → window n s t ≡ codes "..." ++ cut n (after_signs (signs_before s t) s)
window_far n s t long far =
    ap (λ b. cond b (codes "..." ++ cut n (after_signs (signs_before s t) s)) (cut n s))
    (and_from (is_long n s) (ltb 0 (signs_before s t)) long (lt-ltb 0 (signs_before s t) far))

-- both begin after the same signs, with at most 16 signs before the first difference
far_apart : (n m : ℕ) (s t : List ℕ) (p : Splits s t) → 97 ≤ n → 0 < m
    → m ≡ signs p.front - 16
    → cut n (after_signs m s) ≡ cut n (after_signs m t) → ⊥
far_apart n m s t p enough far is same =
    let front = after_signs m p.front in
    let less : m < signs p.front = omega arith in
    let in_s : after_signs m s ≡ front ++ p.of_s =
    ap (λ r. after_signs m r) p.s_is ∙ after_append p.front p.of_s 0 m less in
    let in_t : after_signs m t ≡ front ++ p.of_t =
    ap (λ r. after_signs m r) p.t_is ∙ after_append p.front p.of_t 0 m less in
    let count : signs_from 0 front + m ≡ signs p.front = after_count p.front 0 m less in
    let few : characters front ≤ 6 * signs_from 0 front + 0 =
    characters_few front 0 (omega arith) in
    let e : cut n (front ++ p.of_s) ≡ cut n (front ++ p.of_t) =
    ap (λ r. cut n r) (sym in_s) ∙ same ∙ ap (λ r. cut n r) in_t in
    cut_apart front p.of_s p.of_t n (omega arith) p.differ e

near_apart : (n : ℕ) (s t : List ℕ) (p : Splits s t) → 97 ≤ n → signs p.front - 16 ≤ 0
    → cut n s ≡ cut n t → ⊥
near_apart n s t p enough near same =
    let few : characters p.front ≤ 6 * signs_from 0 p.front + 0 =
    characters_few p.front 0 (omega arith) in
    let e : cut n (p.front ++ p.of_s) ≡ cut n (p.front ++ p.of_t) =
    ap (λ r. cut n r) (sym p.s_is) ∙ same ∙ ap (λ r. cut n r) p.t_is in
    cut_apart p.front p.of_s p.of_t n (omega arith) p.differ e

-- a part after which something was left out starts with a dot, and a whole text does not
dot_apart : (n : ℕ) (s t : List ℕ) → 0 < n → has_dot t ≡ false
    → codes "..." ++ s ≡ cut n t → ⊥
dot_apart n s t some none same =
    let e : true ≡ has_dot (cut n t) = ap has_dot same in
    let kept = dot_stays n t some in
    let no : true ≡ false = e ∙ kept ∙ none in
    cc

windows_apart : (n : ℕ) (s t : List ℕ) → 97 ≤ n → has_dot s ≡ false → has_dot t ≡ false
    → s ≢ t → window n s t ≢ window n t s
windows_apart n s t enough plain_s plain_t ne same =
    let p : Splits s t = splits s t ne in
    let m = signs p.front - 16 in
    let some : 0 < n = omega arith in
    let before_s : signs_before s t ≡ m = ap (λ r. signs r - 16) p.in_s in
    let before_t : signs_before t s ≡ m = ap (λ r. signs r - 16) p.in_t in
    elim (cases_lt 0 m) [
      | inr near ↦
          let of_s = window_near n s t (omega arith) in
          let of_t = window_near n t s (omega arith) in
          near_apart n s t p enough near (sym of_s ∙ same ∙ of_t)
      | inl far ↦ elim (cases_Bool (is_long n s)) [
        | inl long_s ↦
            let of_s : window n s t ≡ codes "..." ++ cut n (after_signs m s) =
            window_far n s t long_s (omega arith)
            ∙ ap (λ k. codes "..." ++ cut n (after_signs k s)) before_s in
            elim (cases_Bool (is_long n t)) [
              | inl long_t ↦
                  let of_t : window n t s ≡ codes "..." ++ cut n (after_signs m t) =
                  window_far n t s long_t (omega arith)
                  ∙ ap (λ k. codes "..." ++ cut n (after_signs k t)) before_t in
                  far_apart n m s t p enough far refl
                  (append_cancel_left (codes "...") _ _ (sym of_s ∙ same ∙ of_t))
              | inr short_t ↦
                  let of_t = window_short n t s short_t in
                  dot_apart n _ t some plain_t (sym of_s ∙ same ∙ of_t)
            ]
        | inr short_s ↦
            let of_s = window_short n s t short_s in
            elim (cases_Bool (is_long n t)) [
              | inl long_t ↦
                  let of_t = window_far n t s long_t (omega arith) in
                  dot_apart n _ s some plain_s (sym of_t ∙ sym same ∙ of_s)
              | inr short_t ↦
                  let of_t = window_short n t s short_t in
                  ne (sym (whole s n short_s) ∙ sym of_s ∙ same ∙ of_t ∙ whole t n short_t)
            ]
      ]
    ]

-- ---- the start of a JSON text

glyph_no_dot : (n : ℕ) → eqb (digit_glyph false n) 46 ≡ false
glyph_no_dot n = ne_eqb (digit_glyph false n) 46 (λ e. grind (arith, nat_tests))

digits_start : (k n : ℕ) (after : List ℕ) → has_dot after ≡ false
    → has_dot (digits_onto k 10 false n after) ≡ false
digits_start zero n after h = h
digits_start (suc k) n after h =
    let glyph = glyph_no_dot (n % 10) in
    elim (cases_Bool (eqb (n / 10) 0)) [
      | inl last ↦ simp last glyph
      | inr more ↦ simp more (digits_start k (n / 10) (digit_glyph false (n % 10) ∷ after) glyph)
    ]

decimal_start : (n : ℕ) → has_dot (decimal n) ≡ false
unfolding digits
decimal_start n = digits_start 64 n [] refl

number_start : (z : ℤ) → has_dot (text_of (whole_number z)) ≡ false
number_start (pos n) = decimal_start n
number_start (negsuc n) = refl

text_start : (d : Doc) → has_dot (text_of d) ≡ false
text_start null = refl
text_start (boolean true) = refl
text_start (boolean false) = refl
text_start (whole_number z) = number_start z
text_start (text s) = refl
text_start (list ds) = refl
text_start (object ms) = refl
text_start (id s z) = number_start z

pub printed_apart : PrintedApart
printed_apart limit d e enough ne =
    windows_apart limit (text_of d) (text_of e) enough (text_start d) (text_start e) ne

-- ---- the length of a window

short_not_long : (s : List ℕ) (n : ℕ) → characters s ≤ n → is_long n s ≡ false
short_not_long [] n short = refl
short_not_long (b ∷ s) n short =
    elim (cases_Bool (goes_on b)) [
      | inl g ↦
          let same = characters_goes_on b s g in
          long_goes_on n b s g ∙ short_not_long s n (omega arith)
      | inr g ↦
          let more = characters_starts b s g in
          long_starts n b s g (omega arith) ∙ short_not_long s (n - 1) (omega arith)
    ]

pub printed_whole : PrintedWhole
printed_whole limit s t short =
    let not_long = short_not_long s limit short in
    window_short limit s t not_long ∙ whole s limit not_long

characters_cut : (s : List ℕ) (n : ℕ) → characters (cut n s) ≤ n + 3
characters_cut [] n = omega arith
characters_cut (b ∷ s) n =
    elim (cases_Bool (goes_on b)) [
      | inl g ↦
          let e = ap characters (cut_goes_on n b s g) in
          let same = characters_goes_on b (cut n s) g in
          let rest = characters_cut s n in
          omega arith
      | inr g ↦ elim (cases_lt 0 n) [
        | inl some ↦
            let e = ap characters (cut_starts n b s g some) in
            let more = characters_starts b (cut (n - 1) s) g in
            let rest = characters_cut s (n - 1) in
            omega arith
        | inr none ↦
            let e = ap characters (cut_none n b s g none) in
            omega arith
      ]
    ]

pub windows_are_short : WindowsAreShort
windows_are_short limit s t =
    elim (cases_lt 0 (signs_before s t)) [
      | inr near ↦
          let e = ap characters (window_near limit s t near) in
          let few = characters_cut s limit in
          omega arith
      | inl far ↦ elim (cases_Bool (is_long limit s)) [
        | inl long ↦
            let e = ap characters (window_far limit s t long far) in
            let few = characters_cut (after_signs (signs_before s t) s) limit in
            omega arith
        | inr short ↦
            let e = ap characters (window_short limit s t short) in
            let few = characters_cut s limit in
            omega arith
      ]
    ]

-- If `uuid` leaves a text unchanged, it also leaves the result of `long` unchanged, in which no UUID
-- remains.
use Rattle.std.proofs.Common.{◌≡◌, ℕ, zero, suc, ◌≤◌, ◌==◌, Bool, true, false, not, ◌&&◌, ◌||◌}
use Rattle.std.proofs.Common.{List, [], ◌∷◌, ◌++◌, length, drop, replicate, refl, sym, ap}
use Rattle.std.proofs.Common.{◌∙◌, subst, append_assoc, append-nil, arith}
use Rattle.std.proofs.lemmas.Bool.{eqb-true, le-leb}
use Rattle.std.specs.Char.{is_ascii_digit, is_ascii_hexdigit}
use Rattle.dap_words.specs.Runs.{all_of, begins_with}
use Rattle.dap_words.specs.Long.{is_long, shortened, long_from, long}
use Rattle.dap_words.specs.Uuids.{nil_uuid, fits_at, begins_in_form, begins_uuid, uuid_from, uuid}
use Rattle.dap_words.specs.Words.{is_prefix}
use Rattle.dap_words.proofs.Booleans.{by_bool, and_left, and_right, and_both}
use Rattle.dap_words.proofs.Booleans.{no_test}
use Rattle.dap_words.proofs.LongRuns.{all_more, all_shortened, run_ends}
use Rattle.dap_words.proofs.HexPairs.{plain_byte, first_byte, no_digit_kept, tail_same}
use Rattle.dap_words.proofs.HexPairs.{head_same}

-- ---- a text that `uuid` leaves unchanged has no UUID except the nil one

abbrev quiet : Bool → List ℕ → Bool
quiet d [] = true
quiet d (b ∷ s) =
    (not (begins_uuid d (b ∷ s)) || is_prefix nil_uuid (b ∷ s)) && quiet (is_ascii_hexdigit b) s

-- the text after the form
record Rest (form s : List ℕ) : Type 0 where
  rest : List ℕ
  whole : s ≡ form ++ rest
  still : quiet true rest ≡ true

more_rest : (f b : ℕ) (form s : List ℕ) → f ≡ b → Rest form s → Rest (f ∷ form) (b ∷ s)
more_rest f b form s e r = record {
  rest = r.rest;
  whole = ap (λ x. b ∷ x) r.whole ∙ ap (λ c. c ∷ (form ++ r.rest)) (sym e);
  still = r.still;
}

quiet_nil : (s : List ℕ) → quiet true s ≡ true → quiet false (nil_uuid ++ s) ≡ true
quiet_nil s h = and_both _ _ (or_true (not (begins_uuid false (nil_uuid ++ s)))) h
  where
    or_true : (x : Bool) → (x || true) ≡ true
    or_true true = refl
    or_true false = refl

quiet_start : (b : ℕ) (s : List ℕ) → 48 ≡ b → Rest (drop 1 nil_uuid) s → quiet false (b ∷ s) ≡ true
quiet_start b s e r =
    let all = more_rest 48 b (drop 1 nil_uuid) s e r in
    subst (λ u. quiet false u ≡ true) (sym all.whole) (quiet_nil all.rest all.still)

only_false : (d : Bool) (s : List ℕ) → begins_uuid d s ≡ true → d ≡ false
only_false true s h = cc
only_false false s h = refl

mutual
  quiet_if_left : (s : List ℕ) (d : Bool) → uuid_from s [] d ≡ s → quiet d s ≡ true
  quiet_if_left [] d h = refl
  quiet_if_left (b ∷ s) d h = by_bool (begins_uuid d (b ∷ s))
      (λ u. let was = sym (first_byte b s d u) ∙ h in
      subst (λ x. quiet x (b ∷ s) ≡ true) (sym (only_false d (b ∷ s) u))
      (quiet_start b s (head_same 48 b (uuid_from s (drop 1 nil_uuid) true) s was)
      (rest_if_left s 48 (drop 2 nil_uuid)
      (and_right (fits_at 48 b) (begins_in_form (drop 1 nil_uuid) s)
      (and_right (not d) (begins_in_form nil_uuid (b ∷ s)) u))
      (tail_same 48 b (uuid_from s (drop 1 nil_uuid) true) s was))))
      (λ u. let was = sym (plain_byte b s d u) ∙ h in
      rw u (quiet_if_left s (is_ascii_hexdigit b)
      (tail_same b b (uuid_from s [] (is_ascii_hexdigit b)) s was)))

  rest_if_left : (s : List ℕ) (f : ℕ) (form : List ℕ) → begins_in_form (f ∷ form) s ≡ true
      → uuid_from s (f ∷ form) true ≡ s → Rest (f ∷ form) s
  rest_if_left [] f form h e = cc
  rest_if_left (b ∷ s) f [] h e =
      more_rest f b [] s (head_same f b (uuid_from s [] true) s e) (record {
        rest = s;
        whole = refl;
        still = quiet_if_left s true (tail_same f b (uuid_from s [] true) s e);
      })
  rest_if_left (b ∷ s) f (g ∷ form) h e =
      more_rest f b (g ∷ form) s (head_same f b (uuid_from s (g ∷ form) true) s e)
      (rest_if_left s g form (and_right (fits_at f b) (begins_in_form (g ∷ form) s) h)
      (tail_same f b (uuid_from s (g ∷ form) true) s e))

quiet_rest : (ds t : List ℕ) (d : Bool) → begins_with is_ascii_hexdigit ds ≡ true
    → all_of is_ascii_hexdigit ds ≡ true → quiet d (ds ++ t) ≡ true → quiet true t ≡ true
quiet_rest [] t d some h q = cc
quiet_rest (b ∷ []) t d some h q =
    subst (λ x. quiet x t ≡ true) some (and_right _ (quiet (is_ascii_hexdigit b) t) q)
quiet_rest (b ∷ c ∷ ds) t d some h q =
    let rest = and_right (is_ascii_hexdigit b) (all_of is_ascii_hexdigit (c ∷ ds)) h in
    quiet_rest (c ∷ ds) t (is_ascii_hexdigit b)
    (and_left (is_ascii_hexdigit c) (all_of is_ascii_hexdigit ds) rest) rest
    (and_right _ (quiet (is_ascii_hexdigit b) (c ∷ ds ++ t)) q)

-- ---- groups of two hexadecimal digits or more, with dashes between

data Groups : List ℕ → Type 0 where
  last : (n : ℕ) → Groups (48 ∷ 48 ∷ replicate n 48)
  more : (n : ℕ) {form : List ℕ} → Groups form → Groups (48 ∷ 48 ∷ (replicate n 48 ++ 45 ∷ form))

nil_groups : Groups nil_uuid
nil_groups = more 6 (more 2 (more 2 (more 2 (last 10))))

-- a run that is too long for a group is in no form
abbrev ends_run : List ℕ → Bool
ends_run [] = true
ends_run (f ∷ form) = f == 45

no_digit_there : (form : List ℕ) (c : ℕ) (s : List ℕ) → ends_run form ≡ true
    → is_ascii_hexdigit c ≡ true → begins_in_form form (c ∷ s) ≡ false
no_digit_there [] c s h k = rw k refl
no_digit_there (f ∷ form) c s h k = rw (h, not_a_dash) refl
  where
    not_a_dash : (c == 45) ≡ false
    not_a_dash = by_bool (c == 45)
        (λ l. no_test (is_ascii_hexdigit c) k (ap is_ascii_hexdigit (eqb-true c 45 l))) (λ l. l)

zero_needs_digit : (form s : List ℕ) → begins_with is_ascii_hexdigit s ≡ false
    → begins_in_form (48 ∷ form) s ≡ false
zero_needs_digit form [] h = refl
zero_needs_digit form (b ∷ s) h = rw h refl

-- a group of the form over a run: the run is as long
over_run : (n : ℕ) (form ds s t : List ℕ) → ends_run form ≡ true
    → all_of is_ascii_hexdigit ds ≡ true → begins_with is_ascii_hexdigit t ≡ false
    → (begins_in_form form t ≡ true → begins_in_form form s ≡ true)
    → begins_in_form (replicate n 48 ++ form) (ds ++ t) ≡ true
    → begins_in_form (replicate n 48 ++ form) (ds ++ s) ≡ true
over_run zero form [] s t e h k g f = g f
over_run zero form (c ∷ ds) s t e h k g f =
    no_test (begins_in_form form (c ∷ ds ++ t)) f
    (no_digit_there form c (ds ++ t) e
    (and_left (is_ascii_hexdigit c) (all_of is_ascii_hexdigit ds) h))
over_run (suc n) form [] s t e h k g f =
    no_test (begins_in_form (48 ∷ (replicate n 48 ++ form)) t) f
    (zero_needs_digit (replicate n 48 ++ form) t k)
over_run (suc n) form (c ∷ ds) s t e h k g f =
    and_both _ _
    (and_left (is_ascii_hexdigit c) (begins_in_form (replicate n 48 ++ form) (ds ++ t)) f)
    (over_run n form ds s t e (and_right (is_ascii_hexdigit c) (all_of is_ascii_hexdigit ds) h) k g
    (and_right (is_ascii_hexdigit c) (begins_in_form (replicate n 48 ++ form) (ds ++ t)) f))

-- a run that became one 0 fits no group
zero_in_no_group : (form t : List ℕ) → begins_with is_ascii_hexdigit t ≡ false
    → begins_in_form (48 ∷ 48 ∷ form) (48 ∷ t) ≡ false
zero_in_no_group form t h = zero_needs_digit form t h

-- a form in the result of `long` was there before
form_kept : (ds t form s : List ℕ) → (begins_in_form (48 ∷ 48 ∷ form) (ds ++ t) ≡ true
    → begins_in_form (48 ∷ 48 ∷ form) (ds ++ s) ≡ true) → begins_with is_ascii_hexdigit t ≡ false
    → begins_in_form (48 ∷ 48 ∷ form) (shortened ds ++ t) ≡ true
    → begins_in_form (48 ∷ 48 ∷ form) (ds ++ s) ≡ true
form_kept ds t form s g k f = by_bool (is_long ds)
    (λ l. let zero_is : begins_in_form (48 ∷ 48 ∷ form) (48 ∷ t) ≡ true = rw l at f in
    no_test (begins_in_form (48 ∷ 48 ∷ form) (48 ∷ t)) zero_is (zero_in_no_group form t k))
    (λ l. g (rw l at f))

form_before : (ds s : List ℕ) {form : List ℕ} → Groups form → all_of is_ascii_hexdigit ds ≡ true
    → begins_in_form form (long_from ds s) ≡ true → begins_in_form form (ds ++ s) ≡ true
form_before ds [] (last n) h f =
    form_kept ds [] (replicate n 48) [] (λ x. x) refl
    (subst (λ u. begins_in_form (48 ∷ 48 ∷ replicate n 48) u ≡ true)
    (sym (append-nil (shortened ds))) f)
form_before ds [] (more n {form} g) h f =
    form_kept ds [] (replicate n 48 ++ 45 ∷ form) [] (λ x. x) refl
    (subst (λ u. begins_in_form (48 ∷ 48 ∷ (replicate n 48 ++ 45 ∷ form)) u ≡ true)
    (sym (append-nil (shortened ds))) f)
form_before ds (b ∷ s) (last n) h f = by_bool (is_ascii_hexdigit b)
    (λ k. subst (λ u. begins_in_form (48 ∷ 48 ∷ replicate n 48) u ≡ true)
    (append_assoc ds (b ∷ []) s)
    (form_before (ds ++ b ∷ []) s (last n) (all_more ds b h k) (rw k at f)))
    (λ k. form_kept ds (b ∷ long s) (replicate n 48) (b ∷ s)
    (λ x. subst (λ u. begins_in_form u (ds ++ b ∷ s) ≡ true) (append-nil (48 ∷ 48 ∷ replicate n 48))
    (over_run (suc (suc n)) [] ds (b ∷ s) (b ∷ long s) refl h k (λ y. y)
    (subst (λ u. begins_in_form u (ds ++ b ∷ long s) ≡ true)
    (sym (append-nil (48 ∷ 48 ∷ replicate n 48))) x)))
    k (rw k at f))
form_before ds (b ∷ s) (more n {form} g) h f = by_bool (is_ascii_hexdigit b)
    (λ k. subst (λ u. begins_in_form (48 ∷ 48 ∷ (replicate n 48 ++ 45 ∷ form)) u ≡ true)
    (append_assoc ds (b ∷ []) s)
    (form_before (ds ++ b ∷ []) s (more n g) (all_more ds b h k) (rw k at f)))
    (λ k. form_kept ds (b ∷ long s) (replicate n 48 ++ 45 ∷ form) (b ∷ s)
    (over_run (suc (suc n)) (45 ∷ form) ds (b ∷ s) (b ∷ long s) refl h k
    (λ y. and_both _ _ (and_left (b == 45) (begins_in_form form (long s)) y)
    (form_before [] s g refl (and_right (b == 45) (begins_in_form form (long s)) y))))
    k (rw k at f))

-- ---- no UUID starts in the result of `long`

-- the run that a group fits was not long
not_long : (ds t : List ℕ) → begins_with is_ascii_hexdigit t ≡ false
    → begins_in_form nil_uuid (shortened ds ++ t) ≡ true → is_long ds ≡ false
not_long ds t k f = by_bool (is_long ds)
    (λ l. let zero_is : begins_in_form nil_uuid (48 ∷ t) ≡ true = rw l at f in
    no_test (begins_in_form nil_uuid (48 ∷ t)) zero_is (zero_in_no_group (drop 2 nil_uuid) t k))
    (λ l. l)

-- a run that starts with eight zeros is long
zeros_within : (n : ℕ) (form ds t : List ℕ) → begins_with is_ascii_hexdigit t ≡ false
    → is_prefix (replicate n 48 ++ form) (ds ++ t) ≡ true → n ≤ length ds
zeros_within zero form ds t k p = omega arith
zeros_within (suc n) form [] [] k p = cc
zeros_within (suc n) form [] (b ∷ t) k p =
    no_test (is_ascii_hexdigit b)
    (ap is_ascii_hexdigit
    (sym (eqb-true 48 b (and_left (48 == b) (is_prefix (replicate n 48 ++ form) t) p)))) k
zeros_within (suc n) form (c ∷ ds) t k p =
    let less = zeros_within n form ds t k
    (and_right (48 == c) (is_prefix (replicate n 48 ++ form) (ds ++ t)) p) in
    omega (arith, less)

nil_run_long : (ds t : List ℕ) → begins_with is_ascii_hexdigit t ≡ false
    → is_prefix nil_uuid (ds ++ t) ≡ true → is_long ds ≡ true
nil_run_long [] t k p =
    let no = zeros_within 8 (drop 8 nil_uuid) [] t k p in absurd (omega (arith, no))
nil_run_long (c ∷ ds) t k p =
    let many = zeros_within 8 (drop 8 nil_uuid) (c ∷ ds) t k p in
    let first : is_ascii_digit c ≡ true =
    ap is_ascii_digit
    (sym (eqb-true 48 c (and_left (48 == c) (is_prefix (drop 1 nil_uuid) (ds ++ t)) p))) in
    and_both _ _ (le-leb 6 (length (c ∷ ds)) (omega (arith, many))) (rw first refl)

-- the end of the run, and its result
none_at_run : (ds s t : List ℕ) → begins_with is_ascii_hexdigit ds ≡ true
    → all_of is_ascii_hexdigit ds ≡ true → begins_with is_ascii_hexdigit s ≡ false
    → begins_with is_ascii_hexdigit t ≡ false → long_from ds s ≡ shortened ds ++ t
    → quiet false (ds ++ s) ≡ true → begins_in_form nil_uuid (shortened ds ++ t) ≡ false
none_at_run [] s t some h k l e q = cc
none_at_run (c ∷ ds) s t some h k l e q =
    by_bool (begins_in_form nil_uuid (shortened (c ∷ ds) ++ t))
    (λ f. let before : begins_in_form nil_uuid (c ∷ ds ++ s) ≡ true =
    form_before (c ∷ ds) s nil_groups h
    (subst (λ u. begins_in_form nil_uuid u ≡ true) (sym e) f) in
    let first = and_left (not (begins_uuid false (c ∷ ds ++ s)) || is_prefix nil_uuid (c ∷ ds ++ s))
    (quiet (is_ascii_hexdigit c) (ds ++ s)) q in
    no_test (is_long (c ∷ ds))
    (nil_run_long (c ∷ ds) s k
    (only_second (begins_in_form nil_uuid (c ∷ ds ++ s)) (is_prefix nil_uuid (c ∷ ds ++ s)) before
    first))
    (not_long (c ∷ ds) t l f))
    (λ f. f)
  where
    only_second : (x y : Bool) → x ≡ true → (not x || y) ≡ true → y ≡ true
    only_second true y h k = k
    only_second false y h k = cc

-- the bytes of a run are read
inside_run : (ds t : List ℕ) → all_of is_ascii_hexdigit ds ≡ true
    → uuid_from (ds ++ t) [] true ≡ ds ++ uuid_from t [] true
inside_run [] t h = refl
inside_run (b ∷ ds) t h =
    ap (λ u. b ∷ u)
    (ap (uuid_from (ds ++ t) []) (and_left (is_ascii_hexdigit b) (all_of is_ascii_hexdigit ds) h)
    ∙ inside_run ds t (and_right (is_ascii_hexdigit b) (all_of is_ascii_hexdigit ds) h))

run_read : (ds t : List ℕ) → begins_with is_ascii_hexdigit ds ≡ true
    → all_of is_ascii_hexdigit ds ≡ true → begins_in_form nil_uuid (ds ++ t) ≡ false
    → uuid_from (ds ++ t) [] false ≡ ds ++ uuid_from t [] true
run_read [] t some h f = cc
run_read (b ∷ ds) t some h f =
    plain_byte b (ds ++ t) false f
    ∙ ap (λ u. b ∷ u)
    (ap (uuid_from (ds ++ t) []) some
    ∙ inside_run ds t (and_right (is_ascii_hexdigit b) (all_of is_ascii_hexdigit ds) h))

some_shortened : (ds : List ℕ) → begins_with is_ascii_hexdigit ds ≡ true
    → begins_with is_ascii_hexdigit (shortened ds) ≡ true
some_shortened ds h = by_bool (is_long ds) (λ k. rw k refl) (λ k. rw k h)

long_left : (ds s : List ℕ) → all_of is_ascii_hexdigit ds ≡ true → quiet false (ds ++ s) ≡ true
    → uuid_from (long_from ds s) [] false ≡ long_from ds s
long_left [] [] h q = refl
long_left (c ∷ ds) [] h q =
    let run = c ∷ ds in
    let some = and_left (is_ascii_hexdigit c) (all_of is_ascii_hexdigit ds) h in
    let end = sym (append-nil (shortened run)) in
    ap (λ u. uuid_from u [] false) end
    ∙ run_read (shortened run) [] (some_shortened run some) (all_shortened run h)
    (none_at_run run [] [] some h refl refl end q)
    ∙ sym end
long_left [] (b ∷ s) h q = by_bool (is_ascii_hexdigit b)
    (λ k. rw k (long_left (b ∷ []) s (and_both _ _ k refl) q))
    (λ k. let rest = and_right
    (not (begins_uuid false (b ∷ s)) || is_prefix nil_uuid (b ∷ s)) (quiet (is_ascii_hexdigit b) s)
    q in
    rw k (no_digit_kept b (long s) false k
    ∙ ap (λ t. b ∷ t) (long_left [] s refl (subst (λ x. quiet x s ≡ true) k rest))))
long_left (c ∷ ds) (b ∷ s) h q = by_bool (is_ascii_hexdigit b)
    (λ k. rw k (long_left (c ∷ ds ++ b ∷ []) s (all_more (c ∷ ds) b h k)
    (subst (λ u. quiet false u ≡ true) (sym (append_assoc (c ∷ ds) (b ∷ []) s)) q)))
    (λ k. let run = c ∷ ds in
    let some = and_left (is_ascii_hexdigit c) (all_of is_ascii_hexdigit ds) h in
    let t = b ∷ long s in
    let rest = and_right
    (not (begins_uuid true (b ∷ s)) || is_prefix nil_uuid (b ∷ s)) (quiet (is_ascii_hexdigit b) s)
    (quiet_rest run (b ∷ s) false some h q) in
    rw k (run_read (shortened run) t (some_shortened run some) (all_shortened run h)
    (none_at_run run (b ∷ s) t some h k k (run_ends run b s k) q)
    ∙ ap (λ u. shortened run ++ u) (no_digit_kept b (long s) true k
    ∙ ap (λ u. b ∷ u) (long_left [] s refl (subst (λ x. quiet x s ≡ true) k rest)))))

pub uuid_after_long : (s : List ℕ) → uuid s ≡ s → uuid (long s) ≡ long s
uuid_after_long s h = long_left [] s refl (quiet_if_left s false h)

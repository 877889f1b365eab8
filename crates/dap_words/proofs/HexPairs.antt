-- If `long` or `uuid` leaves a text unchanged, it also leaves the result of `hex` unchanged.
use Rattle.std.proofs.Common.{◌≡◌, ℕ, zero, suc, ◌==◌, Bool, true, false, not, ◌&&◌, List}
use Rattle.std.proofs.Common.{[], ◌∷◌, ◌++◌, drop, replicate, refl, sym, ap, ◌∙◌, subst}
use Rattle.std.proofs.lemmas.Bool.{eqb-true}
use Rattle.std.specs.Char.{is_ascii_hexdigit}
use Rattle.dap_words.specs.Runs.{begins_with}
use Rattle.dap_words.specs.Digits.{is_x, goes_on_as_hex, begins_hex, hex, behind_zero, in_number}
use Rattle.dap_words.specs.Long.{is_long, long}
use Rattle.dap_words.specs.Uuids.{nil_uuid, fits_at, begins_in_form, begins_uuid, uuid_from, uuid}
use Rattle.dap_words.proofs.Booleans.{by_bool, and_left, and_right, and_both, no_test}
use Rattle.dap_words.proofs.Settled.{calm, calm_if_left, left_if_calm}

begins_zero : (b : ℕ) (s : List ℕ) → begins_hex b s ≡ true → b ≡ 48
begins_zero b s h = eqb-true b 48 (and_left (b == 48) (goes_on_as_hex s) h)

-- an x is not a hexadecimal digit
x_no_digit : (x : ℕ) → is_x x ≡ true → is_ascii_hexdigit x ≡ false
x_no_digit x h = by_bool (x == 120)
    (λ k. ap is_ascii_hexdigit (eqb-true x 120 k))
    (λ k. ap is_ascii_hexdigit (eqb-true x 88 (rw k at h)))

-- ---- `long`

mutual
  calm_hex : (ds s : List ℕ) → calm ds s ≡ true → calm ds (hex s) ≡ true
  calm_hex ds [] h = h
  calm_hex ds (b ∷ s) h = by_bool (begins_hex b s)
      (λ k. rw k (calm_zero ds s (and_right (b == 48) (goes_on_as_hex s) k)
      (subst (λ n. calm ds (n ∷ s) ≡ true) (begins_zero b s k) h)))
      (λ k. rw k (by_bool (is_ascii_hexdigit b)
      (λ d. rw d (calm_hex (ds ++ b ∷ []) s (rw d at h)))
      (λ d. let both : (not (is_long ds) && calm [] s) ≡ true = rw d at h in
      rw d (and_both _ _ (and_left (not (is_long ds)) (calm [] s) both)
      (calm_hex [] s (and_right (not (is_long ds)) (calm [] s) both))))))

  calm_zero : (ds s : List ℕ) → goes_on_as_hex s ≡ true → calm ds (48 ∷ s) ≡ true
      → calm ds (48 ∷ behind_zero s) ≡ true
  calm_zero ds [] k h = cc
  calm_zero ds (x ∷ []) k h = cc
  calm_zero ds (x ∷ d ∷ s) k h =
      let zeros = ds ++ 48 ∷ [] in
      let no = x_no_digit x (and_left (is_x x) (is_ascii_hexdigit d) k) in
      let both : (not (is_long zeros) && calm [] (d ∷ s)) ≡ true = rw no at h in
      let digit = and_right (is_x x) (is_ascii_hexdigit d) k in
      let rest : calm (d ∷ []) s ≡ true =
      rw digit at (and_right (not (is_long zeros)) (calm [] (d ∷ s)) both) in
      and_both _ _ (and_left (not (is_long zeros)) (calm [] (d ∷ s)) both)
      (calm_number (d ∷ []) s rest)

  calm_number : (ds s : List ℕ) → calm ds s ≡ true → calm (48 ∷ []) (in_number s) ≡ true
  calm_number ds [] h = refl
  calm_number ds (b ∷ s) h = by_bool (is_ascii_hexdigit b)
      (λ k. rw k (calm_number (ds ++ b ∷ []) s (rw k at h)))
      (λ k. let both : (not (is_long ds) && calm [] s) ≡ true = rw k at h in
      rw (k, k) (calm_hex [] s (and_right (not (is_long ds)) (calm [] s) both)))

pub long_after_hex : (s : List ℕ) → long s ≡ s → long (hex s) ≡ hex s
long_after_hex s h = left_if_calm (hex s) (calm_hex [] s (calm_if_left s h))

-- ---- `uuid`

-- no hexadecimal digit comes after a number
number_ends : (s : List ℕ) → begins_with is_ascii_hexdigit (in_number s) ≡ false
number_ends [] = refl
number_ends (b ∷ s) = by_bool (is_ascii_hexdigit b) (λ k. rw k (number_ends s))
    (λ k. rw (k, k) refl)

no_form : (form s : List ℕ) → begins_with is_ascii_hexdigit s ≡ false
    → begins_in_form (48 ∷ form) s ≡ false
no_form form [] h = refl
no_form form (b ∷ s) h = rw h refl

pub no_uuid : (d : Bool) (s : List ℕ) → begins_in_form nil_uuid s ≡ false → begins_uuid d s ≡ false
no_uuid true s h = refl
no_uuid false s h = h

pub plain_byte : (b : ℕ) (s : List ℕ) (d : Bool) → begins_uuid d (b ∷ s) ≡ false
    → uuid_from (b ∷ s) [] d ≡ b ∷ uuid_from s [] (is_ascii_hexdigit b)
plain_byte b s d h = rw h refl

pub first_byte : (b : ℕ) (s : List ℕ) (d : Bool) → begins_uuid d (b ∷ s) ≡ true
    → uuid_from (b ∷ s) [] d ≡ 48 ∷ uuid_from s (drop 1 nil_uuid) true
first_byte b s d h = rw h refl

-- a byte that is not a hexadecimal digit is kept, and is not part of a UUID
pub no_digit_kept : (b : ℕ) (s : List ℕ) (d : Bool) → is_ascii_hexdigit b ≡ false
    → uuid_from (b ∷ s) [] d ≡ b ∷ uuid_from s [] false
no_digit_kept b s d h =
    plain_byte b s d (no_uuid d (b ∷ s) (no_form (drop 1 nil_uuid) (b ∷ s) h))
    ∙ ap (λ x. b ∷ uuid_from s [] x) h

pub tail_same : (b c : ℕ) (s t : List ℕ) → b ∷ s ≡ c ∷ t → s ≡ t
tail_same b c s t h = cc

pub head_same : (b c : ℕ) (s t : List ℕ) → b ∷ s ≡ c ∷ t → b ≡ c
head_same b c s t h = cc

-- the nil UUID is unchanged, and so are the groups after its first one
pub nil_left : (s : List ℕ) (d : Bool) → uuid_from s [] true ≡ s
    → uuid_from (nil_uuid ++ s) [] d ≡ nil_uuid ++ s
nil_left s d h = by_bool (begins_uuid d (nil_uuid ++ s))
    (λ k. first_byte 48 (drop 1 nil_uuid ++ s) d k ∙ ap (λ t. nil_uuid ++ t) h)
    (λ k. plain_byte 48 (drop 1 nil_uuid ++ s) d k ∙ ap (λ t. nil_uuid ++ t) h)

groups_left : (s : List ℕ) → uuid_from s [] true ≡ s
    → uuid_from (drop 9 nil_uuid ++ s) [] false ≡ drop 9 nil_uuid ++ s
groups_left s h = ap (λ t. drop 9 nil_uuid ++ t) h

-- an x fits no form
x_fits_not : (g x : ℕ) → is_x x ≡ true → fits_at g x ≡ false
x_fits_not g x h = by_bool (g == 45)
    (λ k. rw k (by_bool (x == 120)
    (λ l. ap (λ n. n == 45) (eqb-true x 120 l))
    (λ l. ap (λ n. n == 45) (eqb-true x 88 (rw l at h)))))
    (λ k. rw k (x_no_digit x h))

x_of : (s : List ℕ) → goes_on_as_hex s ≡ true → begins_with is_x s ≡ true
x_of [] h = cc
x_of (x ∷ []) h = cc
x_of (x ∷ d ∷ s) h = and_left (is_x x) (is_ascii_hexdigit d) h

x_in_no_form : (g : ℕ) (form s : List ℕ) → begins_with is_x s ≡ true
    → begins_in_form (g ∷ form) s ≡ false
x_in_no_form g form [] h = refl
x_in_no_form g form (x ∷ s) h = rw (x_fits_not g x h) refl

x_after_zero : (s : List ℕ) → goes_on_as_hex s ≡ true → begins_with is_x (behind_zero s) ≡ true
x_after_zero [] h = cc
x_after_zero (x ∷ []) h = cc
x_after_zero (x ∷ d ∷ s) h = refl

x_ends : (s : List ℕ) → begins_with is_x s ≡ true → begins_in_form [] s ≡ true
x_ends [] h = cc
x_ends (x ∷ s) h = rw (x_no_digit x h) refl

no_start : (b : ℕ) (s : List ℕ) → begins_with is_x s ≡ true
    → begins_in_form nil_uuid (b ∷ s) ≡ false
no_start b s h = by_bool (is_ascii_hexdigit b)
    (λ k. rw k (x_in_no_form 48 (drop 2 nil_uuid) s h))
    (λ k. rw k refl)

-- `hex` makes no form
at_x : (form s : List ℕ) → goes_on_as_hex s ≡ true → begins_in_form form (behind_zero s) ≡ true
    → begins_in_form form s ≡ true
at_x [] s k h = x_ends s (x_of s k)
at_x (g ∷ form) s k h = no_test (begins_in_form (g ∷ form) (behind_zero s)) h
    (x_in_no_form g form (behind_zero s) (x_after_zero s k))

form_before : (s form : List ℕ) → begins_in_form form (hex s) ≡ true → begins_in_form form s ≡ true
form_before [] form h = h
form_before (b ∷ s) [] h = by_bool (begins_hex b s)
    (λ k. let no : false ≡ true = rw k at h in cc)
    (λ k. rw k at h)
form_before (b ∷ s) (f ∷ form) h = by_bool (begins_hex b s)
    (λ k. let on = and_right (b == 48) (goes_on_as_hex s) k in
    let zero : (fits_at f 48 && begins_in_form form (behind_zero s)) ≡ true = rw k at h in
    and_both _ _
    (ap (fits_at f) (begins_zero b s k)
    ∙ and_left (fits_at f 48) (begins_in_form form (behind_zero s)) zero)
    (at_x form s on (and_right (fits_at f 48) (begins_in_form form (behind_zero s)) zero)))
    (λ k. let both : (fits_at f b && begins_in_form form (hex s)) ≡ true = rw k at h in
    and_both _ _ (and_left (fits_at f b) (begins_in_form form (hex s)) both)
    (form_before s form (and_right (fits_at f b) (begins_in_form form (hex s)) both)))

none_new : (d : Bool) (b : ℕ) (s : List ℕ) → begins_hex b s ≡ false → begins_uuid d (b ∷ s) ≡ false
    → begins_uuid d (b ∷ hex s) ≡ false
none_new true b s k h = refl
none_new false b s k h = by_bool (begins_in_form nil_uuid (b ∷ hex s))
    (λ l. no_test (begins_in_form nil_uuid (b ∷ s)) (form_before (b ∷ s) nil_uuid (rw k l)) h)
    (λ l. l)

-- the text after the form, which is unchanged
record Rest (form t : List ℕ) : Type 0 where
  rest : List ℕ
  whole : t ≡ form ++ rest
  left : uuid_from rest [] true ≡ rest

more_rest : (f b : ℕ) (form t : List ℕ) → f ≡ b → Rest form t → Rest (f ∷ form) (b ∷ t)
more_rest f b form t e r = record {
  rest = r.rest;
  whole = ap (λ x. b ∷ x) r.whole ∙ ap (λ c. c ∷ (form ++ r.rest)) (sym e);
  left = r.left;
}

nil_rest : (b : ℕ) (t : List ℕ) (d : Bool) → 48 ≡ b → Rest (drop 1 nil_uuid) t
    → uuid_from (b ∷ t) [] d ≡ b ∷ t
nil_rest b t d e r =
    let all = more_rest 48 b (drop 1 nil_uuid) t e r in
    subst (λ u. uuid_from u [] d ≡ u) (sym all.whole) (nil_left all.rest d all.left)

mutual
  hex_left : (s : List ℕ) (d : Bool) → uuid_from s [] d ≡ s → uuid_from (hex s) [] d ≡ hex s
  hex_left [] d h = refl
  hex_left (b ∷ s) d h = by_bool (begins_hex b s)
      (λ k. let on = and_right (b == 48) (goes_on_as_hex s) k in
      let digit : is_ascii_hexdigit b ≡ true = ap is_ascii_hexdigit (begins_zero b s k) in
      let was = sym (plain_byte b s d (no_uuid d (b ∷ s) (no_start b s (x_of s on)))) ∙ h in
      let left : uuid_from s [] true ≡ s =
      sym (ap (uuid_from s []) digit)
      ∙ tail_same b b (uuid_from s [] (is_ascii_hexdigit b)) s was in
      rw k (plain_byte 48 (behind_zero s) d
      (no_uuid d (48 ∷ behind_zero s) (no_start 48 (behind_zero s) (x_after_zero s on)))
      ∙ ap (λ t. 48 ∷ t) (x_left s true on left)))
      (λ k. rw k (by_bool (begins_uuid d (b ∷ s))
      (λ u. let was = sym (first_byte b s d u) ∙ h in
      nil_rest b (hex s) d (head_same 48 b (uuid_from s (drop 1 nil_uuid) true) s was)
      (form_left s 48 (drop 2 nil_uuid)
      (and_right (fits_at 48 b) (begins_in_form (drop 1 nil_uuid) s)
      (and_right (not d) (begins_in_form nil_uuid (b ∷ s)) u))
      (tail_same 48 b (uuid_from s (drop 1 nil_uuid) true) s was)))
      (λ u. let was = sym (plain_byte b s d u) ∙ h in
      plain_byte b (hex s) d (none_new d b s k u)
      ∙ ap (λ t. b ∷ t) (hex_left s (is_ascii_hexdigit b)
      (tail_same b b (uuid_from s [] (is_ascii_hexdigit b)) s was)))))

  form_left : (s : List ℕ) (f : ℕ) (form : List ℕ) → begins_in_form (f ∷ form) s ≡ true
      → uuid_from s (f ∷ form) true ≡ s → Rest (f ∷ form) (hex s)
  form_left [] f form h e = cc
  form_left (b ∷ s) f [] h e = by_bool (begins_hex b s)
      (λ k. let on = and_right (b == 48) (goes_on_as_hex s) k in
      rw k (more_rest f 48 [] (behind_zero s)
      (head_same f b (uuid_from s [] true) s e ∙ begins_zero b s k) (record {
        rest = behind_zero s;
        whole = refl;
        left = x_left s true on (tail_same f b (uuid_from s [] true) s e);
      })))
      (λ k. rw k (more_rest f b [] (hex s) (head_same f b (uuid_from s [] true) s e) (record {
        rest = hex s;
        whole = refl;
        left = hex_left s true (tail_same f b (uuid_from s [] true) s e);
      })))
  form_left (b ∷ s) f (g ∷ form) h e = by_bool (begins_hex b s)
      (λ k. no_test (begins_in_form (g ∷ form) s)
      (and_right (fits_at f b) (begins_in_form (g ∷ form) s) h)
      (x_in_no_form g form s (x_of s (and_right (b == 48) (goes_on_as_hex s) k))))
      (λ k. rw k (more_rest f b (g ∷ form) (hex s)
      (head_same f b (uuid_from s (g ∷ form) true) s e)
      (form_left s g form (and_right (fits_at f b) (begins_in_form (g ∷ form) s) h)
      (tail_same f b (uuid_from s (g ∷ form) true) s e))))

  x_left : (s : List ℕ) (d : Bool) → goes_on_as_hex s ≡ true → uuid_from s [] d ≡ s
      → uuid_from (behind_zero s) [] d ≡ behind_zero s
  x_left [] d k h = cc
  x_left (x ∷ []) d k h = cc
  x_left (x ∷ c ∷ s) d k h =
      let no = x_no_digit x (and_left (is_x x) (is_ascii_hexdigit c) k) in
      let digit = and_right (is_x x) (is_ascii_hexdigit c) k in
      let was : uuid_from (c ∷ s) [] false ≡ c ∷ s =
      tail_same x x (uuid_from (c ∷ s) [] false) (c ∷ s)
      (sym (no_digit_kept x (c ∷ s) d no) ∙ h) in
      let number : uuid_from (in_number s) [] true ≡ in_number s =
      by_bool (begins_uuid false (c ∷ s))
      (λ u. let form = sym (first_byte c s false u) ∙ was in
      group_left s 7 (and_right (fits_at 48 c) (begins_in_form (drop 1 nil_uuid) s) u)
      (tail_same 48 c (uuid_from s (drop 1 nil_uuid) true) s form))
      (λ u. let plain = sym (plain_byte c s false u) ∙ was in
      number_left s (sym (ap (uuid_from s []) digit)
      ∙ tail_same c c (uuid_from s [] (is_ascii_hexdigit c)) s plain)) in
      no_digit_kept 120 (48 ∷ in_number s) d refl
      ∙ ap (λ t. 120 ∷ t) (plain_byte 48 (in_number s) false
      (no_form (drop 2 nil_uuid) (in_number s) (number_ends s))
      ∙ ap (λ t. 48 ∷ t) number)

  number_left : (s : List ℕ) → uuid_from s [] true ≡ s
      → uuid_from (in_number s) [] true ≡ in_number s
  number_left [] h = refl
  number_left (b ∷ s) h =
      let left = tail_same b b (uuid_from s [] (is_ascii_hexdigit b)) s h in
      by_bool (is_ascii_hexdigit b)
      (λ k. rw k (number_left s (sym (ap (uuid_from s []) k) ∙ left)))
      (λ k. rw k (no_digit_kept b (hex s) true k
      ∙ ap (λ t. b ∷ t) (hex_left s false (sym (ap (uuid_from s []) k) ∙ left))))

  group_left : (s : List ℕ) (j : ℕ) → begins_in_form (replicate j 48 ++ drop 8 nil_uuid) s ≡ true
      → uuid_from s (replicate j 48 ++ drop 8 nil_uuid) true ≡ s
      → uuid_from (in_number s) [] true ≡ in_number s
  group_left [] j h e = refl
  group_left (b ∷ s) zero h e =
      let dash = head_same 45 b (uuid_from s (drop 9 nil_uuid) true) s e in
      let no : is_ascii_hexdigit b ≡ false = ap is_ascii_hexdigit (sym dash) in
      let rest = form_left s 48 (drop 10 nil_uuid)
      (and_right (fits_at 45 b) (begins_in_form (drop 9 nil_uuid) s) h)
      (tail_same 45 b (uuid_from s (drop 9 nil_uuid) true) s e) in
      rw no (no_digit_kept b (hex s) true no
      ∙ ap (λ t. b ∷ t) (subst (λ t. uuid_from t [] false ≡ t) (sym rest.whole)
      (groups_left rest.rest rest.left)))
  group_left (b ∷ s) (suc j) h e =
      let form = replicate j 48 ++ drop 8 nil_uuid in
      let zero_is = head_same 48 b (uuid_from s form true) s e in
      let digit : is_ascii_hexdigit b ≡ true = ap is_ascii_hexdigit (sym zero_is) in
      rw digit (group_left s j (and_right (fits_at 48 b) (begins_in_form form s) h)
      (tail_same 48 b (uuid_from s form true) s e))

pub uuid_after_hex : (s : List ℕ) → uuid s ≡ s → uuid (hex s) ≡ hex s
uuid_after_hex s h = hex_left s false h

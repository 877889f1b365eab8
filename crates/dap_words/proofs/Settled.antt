-- Texts that `digits` and `long` leave unchanged, and the result of each for a text that the other
-- leaves unchanged.
use Rattle.std.proofs.Common.{◌≡◌, ℕ, ◌≤◌, ◌==◌, Bool, true, false, cond, not, ◌&&◌, ◌||◌}
use Rattle.std.proofs.Common.{List}
use Rattle.std.proofs.Common.{[], ◌∷◌, ◌++◌, length, nat_le, refl, sym, ap, ap₂, ◌∙◌, subst}
use Rattle.std.proofs.Common.{append_assoc, append-nil, arith}
use Rattle.std.proofs.lemmas.Bool.{eqb-true, leb-true, le-leb}
use Rattle.std.proofs.lemmas.List.{length-append}
use Rattle.std.specs.Char.{is_ascii_digit, is_ascii_hexdigit}
use Rattle.dap_words.specs.Runs.{all_of, some_of}
use Rattle.dap_words.specs.Digits.{digits_from, digits}
use Rattle.dap_words.specs.Long.{is_long, shortened, long_from, long}
use Rattle.dap_words.proofs.Booleans.{by_bool, and_left, and_right, and_both, not_true, not_false}
use Rattle.dap_words.proofs.Booleans.{no_test}
use Rattle.dap_words.proofs.LongRuns.{all_more, all_shortened}

-- ---- texts that `digits` leaves unchanged

abbrev pub done : Bool → List ℕ → Bool
done inside [] = true
done inside (b ∷ s) = cond (is_ascii_digit b) (not inside && ((b == 48) && done true s))
    (done false s)

mutual
  pub done_digits : (s : List ℕ) → done false (digits_from false s) ≡ true
  done_digits [] = refl
  done_digits (b ∷ s) = by_bool (is_ascii_digit b) (λ h. rw h (done_inside s))
      (λ h. rw (h, h) (done_digits s))

  done_inside : (s : List ℕ) → done true (digits_from true s) ≡ true
  done_inside [] = refl
  done_inside (b ∷ s) = by_bool (is_ascii_digit b) (λ h. rw h (done_inside s))
      (λ h. rw (h, h) (done_digits s))

pub left_done : (i : Bool) (s : List ℕ) → done i s ≡ true → digits_from i s ≡ s
left_done i [] h = refl
left_done i (b ∷ s) h = go i (is_ascii_digit b) h (left_done true s) (left_done false s)
  where
    go : (i d : Bool) → cond d (not i && ((b == 48) && done true s)) (done false s) ≡ true
        → (done true s ≡ true → digits_from true s ≡ s) → (done false s ≡ true → digits_from false s
        ≡ s)
        → cond d (cond i (digits_from true s) (48 ∷ digits_from true s)) (b ∷ digits_from false s)
        ≡ b ∷ s
    go true true k inside outside = cc
    go false true k inside outside =
        ap₂ (λ x t. x ∷ t) (sym (eqb-true b 48 (and_left (b == 48) (done true s) k)))
        (inside (and_right (b == 48) (done true s) k))
    go i false k inside outside = ap (λ t. b ∷ t) (outside k)

pub no_digit : (b : ℕ) → is_ascii_hexdigit b ≡ false → is_ascii_digit b ≡ false
no_digit b h = by_bool (is_ascii_digit b)
    (λ k. no_test (is_ascii_hexdigit b) (rw k refl) h) (λ k. k)

-- a text is unchanged if the parts before and after a byte that is not a digit are
done_parts : (i : Bool) (ds : List ℕ) (b : ℕ) (s : List ℕ) → is_ascii_digit b ≡ false
    → done i (ds ++ b ∷ s) ≡ (done i ds && done false s)
done_parts i [] b s h = rw h refl
done_parts i (c ∷ ds) b s h = by_bool (is_ascii_digit c)
    (λ k. rw k (ap (λ x. not i && ((c == 48) && x)) (done_parts true ds b s h)
    ∙ regroup (not i) (c == 48) (done true ds) (done false s)))
    (λ k. rw k (done_parts false ds b s h))
  where
    regroup : (x y z w : Bool) → (x && (y && (z && w))) ≡ ((x && (y && z)) && w)
    regroup true true z w = refl
    regroup true false z w = refl
    regroup false y z w = refl

done_shortened : (ds : List ℕ) → done false ds ≡ true → done false (shortened ds) ≡ true
done_shortened ds h = by_bool (is_long ds) (λ k. rw k refl) (λ k. rw k h)

done_after : (ds s : List ℕ) → done false (ds ++ s) ≡ true → done false (long_from ds s) ≡ true
done_after ds [] h =
    done_shortened ds (subst (λ u. done false u ≡ true) (append-nil ds) h)
done_after ds (b ∷ s) h = by_bool (is_ascii_hexdigit b)
    (λ k. rw k (done_after (ds ++ b ∷ []) s
    (subst (λ u. done false u ≡ true) (sym (append_assoc ds (b ∷ []) s)) h)))
    (λ k. let no = no_digit b k in
    let both : (done false ds && done false s) ≡ true = sym (done_parts false ds b s no) ∙ h in
    rw k (done_parts false (shortened ds) b (long s) no
    ∙ and_both _ _ (done_shortened ds (and_left (done false ds) (done false s) both))
    (done_after [] s (and_right (done false ds) (done false s) both))))

pub digits_after_long : (s : List ℕ) → digits s ≡ s → digits (long s) ≡ long s
digits_after_long s h =
    left_done false (long s) (done_after [] s (subst (λ t. done false t ≡ true) h (done_digits s)))

-- ---- texts that `long` leaves unchanged

-- after the hexadecimal digits ds, no run is long
abbrev pub calm : List ℕ → List ℕ → Bool
calm ds [] = not (is_long ds)
calm ds (b ∷ s) = cond (is_ascii_hexdigit b) (calm (ds ++ b ∷ []) s) (not (is_long ds) && calm [] s)

calm_goes_on : (ds more s : List ℕ) → all_of is_ascii_hexdigit more ≡ true
    → calm ds (more ++ s) ≡ calm (ds ++ more) s
calm_goes_on ds [] s h = ap (λ r. calm r s) (sym (append-nil ds))
calm_goes_on ds (b ∷ more) s h =
    rw (and_left (is_ascii_hexdigit b) (all_of is_ascii_hexdigit more) h)
    (calm_goes_on (ds ++ b ∷ []) more s
    (and_right (is_ascii_hexdigit b) (all_of is_ascii_hexdigit more) h)
    ∙ ap (λ r. calm r s) (append_assoc ds (b ∷ []) more))

short_now : (ds : List ℕ) → is_long (shortened ds) ≡ false
short_now ds = by_bool (is_long ds) (λ k. rw k refl) (λ k. rw (k, k) refl)

calm_long : (ds s : List ℕ) → all_of is_ascii_hexdigit ds ≡ true
    → calm [] (long_from ds s) ≡ true
calm_long ds [] h =
    ap (λ r. calm [] r) (sym (append-nil (shortened ds)))
    ∙ calm_goes_on [] (shortened ds) [] (all_shortened ds h)
    ∙ not_false (is_long (shortened ds)) (short_now ds)
calm_long ds (b ∷ s) h = by_bool (is_ascii_hexdigit b)
    (λ k. rw k (calm_long (ds ++ b ∷ []) s (all_more ds b h k)))
    (λ k. rw k (calm_goes_on [] (shortened ds) (b ∷ long s) (all_shortened ds h)
    ∙ calm_ends (shortened ds) b (long s) k
    ∙ and_both _ _ (not_false (is_long (shortened ds)) (short_now ds)) (calm_long [] s refl)))
  where
    calm_ends : (ds : List ℕ) (b : ℕ) (s : List ℕ) → is_ascii_hexdigit b ≡ false
        → calm ds (b ∷ s) ≡ (not (is_long ds) && calm [] s)
    calm_ends ds b s h = rw h refl

pub calm_if_left : (s : List ℕ) → long s ≡ s → calm [] s ≡ true
calm_if_left s h = subst (λ t. calm [] t ≡ true) h (calm_long [] s refl)

not_shortened : (ds : List ℕ) → not (is_long ds) ≡ true → shortened ds ≡ ds
not_shortened ds h = rw (not_true (is_long ds) h) refl

calm_from : (ds s : List ℕ) → calm ds s ≡ true → long_from ds s ≡ ds ++ s
calm_from ds [] h = not_shortened ds h ∙ sym (append-nil ds)
calm_from ds (b ∷ s) h = by_bool (is_ascii_hexdigit b)
    (λ k. rw k (calm_from (ds ++ b ∷ []) s (rw k at h) ∙ append_assoc ds (b ∷ []) s))
    (λ k. let both : (not (is_long ds) && calm [] s) ≡ true = rw k at h in
    rw k (ap₂ (λ x t. x ++ b ∷ t) (not_shortened ds (and_left (not (is_long ds)) (calm [] s) both))
    (calm_from [] s (and_right (not (is_long ds)) (calm [] s) both))))

pub left_if_calm : (s : List ℕ) → calm [] s ≡ true → long s ≡ s
left_if_calm s h = calm_from [] s h

-- ---- `long` after `digits`

-- no more digits, and a decimal digit only if there was one
record Smaller (now before : List ℕ) : Type 0 where
  few : length now ≤ length before
  digit : some_of is_ascii_digit now ≡ true → some_of is_ascii_digit before ≡ true

smaller_calm : (now before : List ℕ) → Smaller now before → not (is_long before) ≡ true
    → not (is_long now) ≡ true
smaller_calm now before h k = by_bool (is_long now)
    (λ l. no_test (is_long before) (and_both _ _
    (le-leb 6 (length before) (omega (
      arith,
      h.few,
      leb-true 6 (length now)
          (and_left (nat_le 6 (length now)) (some_of is_ascii_digit now) l),
    )))
    (h.digit (and_right (nat_le 6 (length now)) (some_of is_ascii_digit now) l)))
    (not_true (is_long before) k))
    (λ l. not_false (is_long now) l)

some_left : (class : ℕ → Bool) (s t : List ℕ) → some_of class s ≡ true
    → some_of class (s ++ t) ≡ true
some_left class [] t h = cc
some_left class (b ∷ s) t h = by_bool (class b) (λ k. rw k refl)
    (λ k. rw k (some_left class s t (rw k at h)))

some_last : (class : ℕ → Bool) (s : List ℕ) (b : ℕ) → class b ≡ true
    → some_of class (s ++ b ∷ []) ≡ true
some_last class [] b h = rw h refl
some_last class (c ∷ s) b h = by_bool (class c) (λ k. rw k refl)
    (λ k. rw k (some_last class s b h))

some_either : (class : ℕ → Bool) (s : List ℕ) (b : ℕ) → class b ≡ false
    → some_of class (s ++ b ∷ []) ≡ true → some_of class s ≡ true
some_either class [] b h k = no_test (class b) (only (class b) k) h
  where
    only : (x : Bool) → (x || false) ≡ true → x ≡ true
    only true h = refl
    only false h = h
some_either class (c ∷ s) b h k = by_bool (class c) (λ l. rw l refl)
    (λ l. rw l (some_either class s b h (rw l at k)))

smaller_skip : (now before : List ℕ) (b : ℕ) → Smaller now before → Smaller now (before ++ b ∷ [])
smaller_skip now before b h = record {
  few = omega (arith, h.few, length-append before (b ∷ []));
  digit = λ k. some_left is_ascii_digit before (b ∷ []) (h.digit k);
}

smaller_zero : (now before : List ℕ) (b : ℕ) → is_ascii_digit b ≡ true → Smaller now before
    → Smaller (now ++ 48 ∷ []) (before ++ b ∷ [])
smaller_zero now before b d h = record {
  few = omega (arith, h.few, length-append now (48 ∷ []), length-append before (b ∷ []));
  digit = λ k. some_last is_ascii_digit before b d;
}

smaller_same : (now before : List ℕ) (b : ℕ) → is_ascii_digit b ≡ false → Smaller now before
    → Smaller (now ++ b ∷ []) (before ++ b ∷ [])
smaller_same now before b d h = record {
  few = omega (arith, h.few, length-append now (b ∷ []), length-append before (b ∷ []));
  digit = λ k. some_left is_ascii_digit before (b ∷ [])
      (h.digit (some_either is_ascii_digit now b d k));
}

smaller_none : Smaller [] []
smaller_none = record { few = omega arith; digit = λ k. k }

is_hexdigit : (b : ℕ) → is_ascii_digit b ≡ true → is_ascii_hexdigit b ≡ true
is_hexdigit b h = rw h refl

other_byte : (b : ℕ) (s now before : List ℕ) → is_ascii_digit b ≡ false → Smaller now before
    → calm before (b ∷ s) ≡ true
    → ((n m : List ℕ) → Smaller n m → calm m s ≡ true → calm n (digits_from false s) ≡ true)
    → calm now (b ∷ digits_from false s) ≡ true
other_byte b s now before d h c more = by_bool (is_ascii_hexdigit b)
    (λ k. rw k (more (now ++ b ∷ []) (before ++ b ∷ []) (smaller_same now before b d h)
    (rw k at c)))
    (λ k. let both : (not (is_long before) && calm [] s) ≡ true = rw k at c in
    rw k (and_both _ _
    (smaller_calm now before h (and_left (not (is_long before)) (calm [] s) both))
    (more [] [] smaller_none (and_right (not (is_long before)) (calm [] s) both))))

calm_digits : (i : Bool) (s now before : List ℕ) → Smaller now before → calm before s ≡ true
    → calm now (digits_from i s) ≡ true
calm_digits i [] now before h c = smaller_calm now before h c
calm_digits true (b ∷ s) now before h c = by_bool (is_ascii_digit b)
    (λ d. let more : calm (before ++ b ∷ []) s ≡ true = rw (is_hexdigit b d) at c in
    rw d (calm_digits true s now (before ++ b ∷ []) (smaller_skip now before b h) more))
    (λ d. rw d (other_byte b s now before d h c (λ n m g e. calm_digits false s n m g e)))
calm_digits false (b ∷ s) now before h c = by_bool (is_ascii_digit b)
    (λ d. let more : calm (before ++ b ∷ []) s ≡ true = rw (is_hexdigit b d) at c in
    rw d (calm_digits true s (now ++ 48 ∷ []) (before ++ b ∷ []) (smaller_zero now before b d h)
    more))
    (λ d. rw d (other_byte b s now before d h c (λ n m g e. calm_digits false s n m g e)))

pub long_after_digits : (s : List ℕ) → long s ≡ s → long (digits s) ≡ digits s
long_after_digits s h =
    left_if_calm (digits s) (calm_digits false s [] [] smaller_none (calm_if_left s h))

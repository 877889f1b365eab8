-- Where a text begins, by a search; and the first place at which a pair is found.
use Rattle.std.proofs.Common.{◌≡◌, ℕ, suc, ◌+◌, ◌-◌, ◌<◌, ◌≤◌, ◌==◌, Bool, true, false, ◌&&◌}
use Rattle.std.proofs.Common.{List, [], ◌∷◌, ◌++◌, length, drop, get_or, nat_lt, Option, Some}
use Rattle.std.proofs.Common.{None, refl, sym, ap, ◌∙◌, ⊎_elim, arith, length-drop}
use Rattle.std.proofs.lemmas.Bool.{eq-eqb, eqb-true, eqb-false, ltb-true, ltb-false, cases_lt}
use Rattle.std.proofs.lemmas.List.{drop-drop, drop_all, get_or-drop, get_or_append_left}
use Rattle.memchr.specs.Find.{OccursAt, Nowhere, NoneBefore}
use Rattle.dap_words.specs.declared.occurrences.Occurrence.{Occurrence}
use Rattle.dap_words.specs.Words.{Pair, is_prefix, begins_here, is_longer_than, best_of, found}
use Rattle.dap_words.specs.Occurrences.{IsNext, pair_at, IsNextOf, comes_before, IsEarliest}
use Rattle.dap_words.proofs.Booleans.{by_bool, and_left, and_right, and_both, or_left, or_right}
use Rattle.dap_words.proofs.WordSteps.{step, prefix_rest, prefix_fits, prefix_of_begun}
use Rattle.dap_words.proofs.ReplaceSteps.{begun_some}
use Rattle.dap_words.proofs.ApartSteps.{long_text}

-- ---- the places at which a text begins

prefix_reads : (x s : List ℕ) → is_prefix x s ≡ true → (j : ℕ) → j < length x
    → get_or s j 0 ≡ get_or x j 0
prefix_reads x s h j l =
    ap (λ t. get_or t j 0) (prefix_rest x s h) ∙ get_or_append_left x (drop (length x) s) 0 j l

prefix_read : (x s : List ℕ) → length x ≤ length s
    → ((j : ℕ) → j < length x → get_or s j 0 ≡ get_or x j 0) → is_prefix x s ≡ true
prefix_read [] s l h = refl
prefix_read (b ∷ x) [] l h = absurd (omega (arith, l))
prefix_read (b ∷ x) (c ∷ s) l h =
    let first : b ≡ c = sym (h 0 (omega arith)) in
    let fits : length x ≤ length s = omega (arith, l) in
    and_both (b == c) (is_prefix x s) (eq-eqb b c first)
    (prefix_read x s fits (λ j m. h (suc j) (omega (arith, m))))

begun_by_prefix : (x s : List ℕ) → 0 < length x → is_prefix x s ≡ true → begins_here x s ≡ true
begun_by_prefix [] s l h = absurd (omega (arith, l))
begun_by_prefix (b ∷ x) s l h = h

begun_nowhere : (x : List ℕ) → begins_here x [] ≡ false
begun_nowhere [] = refl
begun_nowhere (b ∷ x) = refl

module _ (x s : List ℕ) where
  begun_at : (k : ℕ) → 0 < length x → OccursAt s x k → begins_here x (drop k s) ≡ true
  begun_at k some o =
      let fits : length x ≤ length (drop k s) = omega (arith, length-drop k s, o.fits) in
      begun_by_prefix x (drop k s) some
      (prefix_read x (drop k s) fits (λ j l. get_or-drop k s j 0 ∙ o.reads j l))

  occurs_at : (k : ℕ) → begins_here x (drop k s) ≡ true → OccursAt s x k
  occurs_at k h =
      let prefix = prefix_of_begun x (drop k s) h in
      let some = begun_some x (drop k s) h in
      let fits = prefix_fits x (drop k s) prefix in record {
        fits = omega (arith, length-drop k s, fits, some);
        reads = λ j l. sym (get_or-drop k s j 0) ∙ prefix_reads x (drop k s) prefix j l;
      }

  unbegun_at : (k : ℕ) → (OccursAt s x k → ⊥) → begins_here x (drop k s) ≡ false
  unbegun_at k h = by_bool (begins_here x (drop k s)) (λ b. absurd (h (occurs_at k b))) (λ b. b)

module _ (x s : List ℕ) (from : ℕ) where
  -- the places in the rest of s
  later : (k : ℕ) → from ≤ k → begins_here x (drop (k - from) (drop from s)) ≡ false
      → begins_here x (drop k s) ≡ false
  later k l h =
      let same : from + (k - from) ≡ k = omega arith in
      ap (λ i. begins_here x (drop i s)) (sym same)
      ∙ ap (begins_here x) (sym (drop-drop (k - from) from s)) ∙ h

  pub place_found : (at : ℕ) → 0 < length x
      → NoneBefore (OccursAt (drop from s) x) 0 (length (drop from s) + 1) at
      → OccursAt (drop from s) x at → IsNext x s from (from + at)
  place_found at some first o = record {
    low = omega arith;
    high = omega (arith, o.fits, some, length-drop from s);
    begins = λ _. ap (begins_here x) (sym (drop-drop at from s)) ∙ begun_at x (drop from s) at some o;
    before = λ k l m. later k l
        (unbegun_at x (drop from s) (k - from) (first.before (k - from) (omega arith) (omega arith)));
  }

  nowhere : from ≤ length s
      → ((k : ℕ) → from ≤ k → k < length s → begins_here x (drop k s) ≡ false)
      → IsNext x s from (length s)
  nowhere within h = record {
    low = within;
    high = omega arith;
    begins = λ l. absurd (omega (arith, l));
    before = h;
  }

  pub no_place : from ≤ length s
      → Nowhere (OccursAt (drop from s) x) 0 (length (drop from s) + 1)
      → IsNext x s from (length s)
  no_place within never = nowhere within (λ k l m. later k l (unbegun_at x (drop from s) (k - from)
      (never (k - from) (omega arith) (omega (arith, length-drop from s)))))

  pub too_long : from ≤ length s → length (drop from s) < length x → IsNext x s from (length s)
  too_long within long = nowhere within (λ k l m. long_text x (drop k s)
      (omega (arith, long, length-drop from s, length-drop k s)))

pub empty_text : (x s : List ℕ) (from : ℕ) → length x ≡ 0 → from ≤ length s
    → IsNext x s from (length s)
empty_text [] s from e within = nowhere [] s from within (λ k l m. refl)
empty_text (b ∷ x) s from e within = absurd (omega (arith, e))

-- a text that does not begin before the end
pub begins_no_more : (x s : List ℕ) (at : ℕ) → IsNext x s 0 at → length s ≤ at → (k : ℕ)
    → begins_here x (drop k s) ≡ false
begins_no_more x s at n past k = ⊎_elim
    (λ l. n.before k (omega arith) l)
    (λ l. ap (begins_here x) (drop_all k s (omega (arith, l, past))) ∙ begun_nowhere x)
    (cases_lt k at)

-- ---- one more pair

pub best_more : (best : Option Pair) (pairs : List Pair) (p : Pair) (s : List ℕ)
    → best_of best (pairs ++ p ∷ []) s ≡ step (best_of best pairs s) p s
best_more best [] p s = refl
best_more best (q ∷ pairs) p s = best_more (step best q s) pairs p s

module _ (pairs : List Pair) (p : Pair) (s : List ℕ) where
  pub found_other : begins_here p.text s ≡ false → found (pairs ++ p ∷ []) s ≡ found pairs s
  found_other h = best_more None pairs p s ∙ rw h refl

  found_longer : begins_here p.text s ≡ true → is_longer_than (found pairs s) p ≡ true
      → found (pairs ++ p ∷ []) s ≡ Some p
  found_longer h k = best_more None pairs p s ∙ rw (h, k) refl

  found_shorter : is_longer_than (found pairs s) p ≡ false
      → found (pairs ++ p ∷ []) s ≡ found pairs s
  found_shorter k = by_bool (begins_here p.text s)
      (λ h. best_more None pairs p s ∙ rw (h, k) refl) found_other

-- ---- the earliest occurrence

abbrev is_longer : Occurrence → Occurrence → Bool
is_longer o best = nat_lt (length (pair_at best).text) (length (pair_at o).text)

pub earliest_none : (s : List ℕ) (from : ℕ) → from ≤ length s → IsEarliest [] s from None
earliest_none s from l = record {
  low = l;
  within = tt;
  before = λ _ _ _. refl;
  here = refl;
}

module _ (pairs : List Pair) (s : List ℕ) (from : ℕ) (o : Occurrence) (n : IsNextOf s from o) where
  taken_at : o.at < length s
      → ((k : ℕ) → from ≤ k → k < o.at → found pairs (drop k s) ≡ None)
      → is_longer_than (found pairs (drop o.at s)) (pair_at o) ≡ true
      → IsEarliest (pairs ++ pair_at o ∷ []) s from (Some o)
  taken_at within none longer = record {
    low = n.low;
    within = within;
    before = λ k l m. found_other pairs (pair_at o) (drop k s) (n.before k l m) ∙ none k l m;
    here = found_longer pairs (pair_at o) (drop o.at s) (n.begins within) longer;
  }

  pub earliest_taken : (best : Option Occurrence) → IsEarliest pairs s from best
      → comes_before (length s) o best ≡ true
      → IsEarliest (pairs ++ pair_at o ∷ []) s from (Some o)
  earliest_taken None e h =
      let less = ltb-true o.at (length s) h in
      taken_at less (λ k l m. e.before k l (omega (arith, less, m)))
      (rw (e.before o.at n.low less) refl)
  earliest_taken (Some best) e h =
      let within = e.within in
      by_bool (nat_lt o.at best.at)
      (λ t. let less = ltb-true o.at best.at t in
      taken_at (omega (arith, less, within)) (λ k l m. e.before k l (omega (arith, less, m)))
      (rw (e.before o.at n.low less) refl))
      (λ f. let both = rw f at h in
      let same = eqb-true o.at best.at (and_left (o.at == best.at) (is_longer o best) both) in
      let is : found pairs (drop o.at s) ≡ Some (pair_at best) =
      ap (λ k. found pairs (drop k s)) same ∙ e.here in
      taken_at (omega (arith, same, within)) (λ k l m. e.before k l (omega (arith, same, m)))
      (rw is (and_right (o.at == best.at) (is_longer o best) both)))

  pub earliest_left : (best : Option Occurrence) → IsEarliest pairs s from best
      → comes_before (length s) o best ≡ false → IsEarliest (pairs ++ pair_at o ∷ []) s from best
  earliest_left None e h =
      let past = ltb-false o.at (length s) h in record {
        low = e.low;
        within = tt;
        before = λ k l m. found_other pairs (pair_at o) (drop k s)
            (n.before k l (omega (arith, past, m))) ∙ e.before k l m;
        here = found_other pairs (pair_at o) (drop (length s) s)
            (ap (begins_here (pair_at o).text) (drop_all (length s) s (omega arith))
            ∙ begun_nowhere (pair_at o).text) ∙ e.here;
      }
  earliest_left (Some best) e h =
      let rest = (o.at == best.at) && is_longer o best in
      let past = ltb-false o.at best.at (or_left (nat_lt o.at best.at) rest h) in record {
        low = e.low;
        within = e.within;
        before = λ k l m. found_other pairs (pair_at o) (drop k s)
            (n.before k l (omega (arith, past, m))) ∙ e.before k l m;
        here = by_bool (o.at == best.at)
            (λ t. let shorter = rw t at (or_right (nat_lt o.at best.at) rest h) in
            let less : is_longer_than (found pairs (drop best.at s)) (pair_at o) ≡ false =
            rw e.here shorter in
            found_shorter pairs (pair_at o) (drop best.at s) less ∙ e.here)
            (λ f. let other = eqb-false o.at best.at f in
            found_other pairs (pair_at o) (drop best.at s)
            (n.before best.at e.low (omega (arith, past, other))) ∙ e.here);
      }

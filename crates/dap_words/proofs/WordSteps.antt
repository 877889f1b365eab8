-- The pair that is found at the start of a text.
use Rattle.std.proofs.Common.{◌≡◌, ℕ, ◌≤◌, ◌==◌, Bool, true, false, cond, not, ◌&&◌}
use Rattle.std.proofs.Common.{◌||◌, ◌⊎◌, inl, inr, List, [], ◌∷◌, ◌++◌, length, drop, Option, Some}
use Rattle.std.proofs.Common.{None, nat_le, nat_lt, bytes_eq, refl, sym, ap, ap₂, ◌∙◌, subst}
use Rattle.std.proofs.Common.{arith}
use Rattle.std.proofs.lemmas.Bool.{eqb-true, eq-eqb, leb-true, le-leb, ltb-true, ltb-false}
use Rattle.std.proofs.lemmas.Slice.Eq.{bytes_eq-Decides}
use Rattle.dap_words.specs.Words.{Pair, is_prefix, begins_here, none_begins, Among, is_longest}
use Rattle.dap_words.specs.Words.{IsFound, is_text_among, have_own_texts, is_longer_than, best_of}
use Rattle.dap_words.specs.Words.{found}
use Rattle.dap_words.proofs.Booleans.{by_bool, and_left, and_right, and_both}
use Rattle.dap_words.proofs.Booleans.{not_true, not_false, no_test}

pub by_option : {P : Type 0} → (o : Option Pair) → (o ≡ None → P)
    → ((p : Pair) → o ≡ Some p → P) → P
by_option None f g = f refl
by_option (Some p) f g = g p refl

-- ---- prefixes

pub prefix_rest : (x s : List ℕ) → is_prefix x s ≡ true → s ≡ x ++ drop (length x) s
prefix_rest [] s h = refl
prefix_rest (b ∷ x) [] h = cc
prefix_rest (b ∷ x) (c ∷ s) h =
    ap₂ (λ y t. y ∷ t) (sym (eqb-true b c (and_left (b == c) (is_prefix x s) h)))
    (prefix_rest x s (and_right (b == c) (is_prefix x s) h))

pub prefix_fits : (x s : List ℕ) → is_prefix x s ≡ true → length x ≤ length s
prefix_fits [] s h = omega arith
prefix_fits (b ∷ x) [] h = cc
prefix_fits (b ∷ x) (c ∷ s) h =
    let rest = prefix_fits x s (and_right (b == c) (is_prefix x s) h) in omega (arith, rest)

pub prefix_here : (x s : List ℕ) → is_prefix x (x ++ s) ≡ true
prefix_here [] s = refl
prefix_here (b ∷ x) s = and_both _ _ (eq-eqb b b refl) (prefix_here x s)

-- two prefixes with as many bytes are the same
pub prefixes_same : (x y s : List ℕ) → is_prefix x s ≡ true → is_prefix y s ≡ true
    → length x ≡ length y → x ≡ y
prefixes_same [] [] s h k e = refl
prefixes_same [] (c ∷ y) s h k e = absurd (omega (arith, e))
prefixes_same (b ∷ x) [] s h k e = absurd (omega (arith, e))
prefixes_same (b ∷ x) (c ∷ y) [] h k e = cc
prefixes_same (b ∷ x) (c ∷ y) (a ∷ s) h k e =
    let less : length x ≡ length y = omega (arith, e) in
    ap₂ (λ z t. z ∷ t) (eqb-true b a (and_left (b == a) (is_prefix x s) h)
    ∙ sym (eqb-true c a (and_left (c == a) (is_prefix y s) k)))
    (prefixes_same x y s (and_right (b == a) (is_prefix x s) h)
    (and_right (c == a) (is_prefix y s) k) less)

pub prefix_of_begun : (x s : List ℕ) → begins_here x s ≡ true → is_prefix x s ≡ true
prefix_of_begun [] s h = refl
prefix_of_begun (b ∷ x) s h = h

-- ---- the best so far

abbrev pub step : Option Pair → Pair → List ℕ → Option Pair
step best p s = cond (begins_here p.text s && is_longer_than best p) (Some p) best

pub none_found : (best : Option Pair) (pairs : List Pair) (s : List ℕ)
    → none_begins pairs s ≡ true → best_of best pairs s ≡ best
none_found best [] s h = refl
none_found best (p ∷ pairs) s h =
    let never = not_true (begins_here p.text s)
    (and_left (not (begins_here p.text s)) (none_begins pairs s) h) in
    rw never (none_found best pairs s
    (and_right (not (begins_here p.text s)) (none_begins pairs s) h))

-- nothing is found only if nothing starts
step_none : (best : Option Pair) (p : Pair) (s : List ℕ) → step best p s ≡ None
    → (best ≡ None) × (begins_here p.text s ≡ false)
step_none best p s h = by_bool (begins_here p.text s)
    (λ k. go best (rw k at h) k)
    (λ k. (rw k at h, k))
  where
    go : (best : Option Pair) → cond (is_longer_than best p) (Some p) best ≡ None
        → begins_here p.text s ≡ true → (best ≡ None) × (begins_here p.text s ≡ false)
    go None h k = cc
    go (Some q) h k = by_bool (is_longer_than (Some q) p)
        (λ l. let no : Some p ≡ None = rw l at h in cc)
        (λ l. let no : Some q ≡ None = rw l at h in cc)

pub nothing_begins : (best : Option Pair) (pairs : List Pair) (s : List ℕ)
    → best_of best pairs s ≡ None → (best ≡ None) × (none_begins pairs s ≡ true)
nothing_begins best [] s h = (h, refl)
nothing_begins best (p ∷ pairs) s h =
    let rest = nothing_begins (step best p s) pairs s h in
    let first = step_none best p s rest.0 in
    (first.0, and_both _ _ (not_false (begins_here p.text s) first.1) rest.1)

-- the pair that is found is one of the pairs, and its text starts here
abbrev IsKnown : Option Pair → List Pair → List ℕ → Pair → Type 0
IsKnown best pairs s q = (best ≡ Some q) ⊎ (Among pairs q × (begins_here q.text s ≡ true))

step_some : (best : Option Pair) (p : Pair) (s : List ℕ) (q : Pair) → step best p s ≡ Some q
    → (best ≡ Some q) ⊎ ((q ≡ p) × (begins_here p.text s ≡ true))
step_some best p s q h = by_bool (begins_here p.text s)
    (λ k. by_bool (is_longer_than best p)
    (λ l. let is : Some p ≡ Some q = rw (k, l) at h in
    let same : q ≡ p = cc in
    inr (same, k))
    (λ l. inl (rw (k, l) at h)))
    (λ k. inl (rw k at h))

pub found_known : (best : Option Pair) (pairs : List Pair) (s : List ℕ) (q : Pair)
    → best_of best pairs s ≡ Some q → IsKnown best pairs s q
found_known best [] s q h = inl h
found_known best (p ∷ pairs) s q h =
    elim (found_known (step best p s) pairs s q h) [
      | inl is ↦ (elim (step_some best p s q is) [
        | inl old ↦ inl old
        | inr (same, b) ↦ inr (inl same, ap (λ r. begins_here r.text s) same ∙ b)
      ])
      | inr (among, b) ↦ inr (inr among, b)
    ]

-- no text that starts here, including the best before, is longer than the one that is found
abbrev at_most : Option Pair → Pair → Bool
at_most None q = true
at_most (Some p) q = nat_le (length p.text) (length q.text)

step_longest : (best : Option Pair) (p : Pair) (s : List ℕ) (q : Pair)
    → at_most (step best p s) q ≡ true → (at_most best q ≡ true)
    × ((not (begins_here p.text s) || nat_le (length p.text) (length q.text)) ≡ true)
step_longest None p s q h = by_bool (begins_here p.text s)
    (λ k. let most : nat_le (length p.text) (length q.text) ≡ true = rw k at h in
    (refl, rw k most))
    (λ k. (refl, rw k refl))
step_longest (Some best) p s q h = by_bool (begins_here p.text s)
    (λ k. by_bool (nat_lt (length best.text) (length p.text))
    (λ l. let most : nat_le (length p.text) (length q.text) ≡ true = rw (k, l) at h in
    let one = ltb-true (length best.text) (length p.text) l in
    let two = leb-true (length p.text) (length q.text) most in
    (le-leb (length best.text) (length q.text) (omega (arith, one, two)), rw k most))
    (λ l. let most : nat_le (length best.text) (length q.text) ≡ true = rw (k, l) at h in
    let one = ltb-false (length best.text) (length p.text) l in
    let two = leb-true (length best.text) (length q.text) most in
    (most, rw k (le-leb (length p.text) (length q.text) (omega (arith, one, two))))))
    (λ k. let most : nat_le (length best.text) (length q.text) ≡ true = rw k at h in
    (most, rw k refl))

self_at_most : (best : Option Pair) (q : Pair) → best ≡ Some q → at_most best q ≡ true
self_at_most best q e = rw e (le-leb (length q.text) (length q.text) (omega arith))

pub found_longest : (best : Option Pair) (pairs : List Pair) (s : List ℕ) (q : Pair)
    → best_of best pairs s ≡ Some q → (at_most best q ≡ true) × (is_longest pairs q.text s ≡ true)
found_longest best [] s q h = (self_at_most best q h, refl)
found_longest best (p ∷ pairs) s q h =
    let rest = found_longest (step best p s) pairs s q h in
    let first = step_longest best p s q rest.0 in
    (first.0, and_both _ _ first.1 rest.1)

pub found_is : (pairs : List Pair) (s : List ℕ) (q : Pair) → found pairs s ≡ Some q
    → IsFound pairs q s
found_is pairs s q h = elim (found_known None pairs s q h) [
  | inl never ↦ absurd cc
  | inr (among, b) ↦ record {
    among = among;
    begins = b;
    longest = (found_longest None pairs s q h).1;
  }
]

-- ---- at most one is found

pub begun_among : (pairs : List Pair) (s : List ℕ) (p : Pair) → Among pairs p
    → begins_here p.text s ≡ true → none_begins pairs s ≡ false
begun_among [] s p a b = absurd a
begun_among (q ∷ pairs) s p (inl e) b =
    rw (ap (λ r. begins_here r.text s) (sym e) ∙ b) refl
begun_among (q ∷ pairs) s p (inr a) b = and_none (not (begins_here q.text s)) _
    (begun_among pairs s p a b)
  where
    and_none : (c d : Bool) → d ≡ false → (c && d) ≡ false
    and_none true d h = h
    and_none false d h = refl

longest_among : (pairs : List Pair) (x s : List ℕ) (p : Pair) → is_longest pairs x s ≡ true
    → Among pairs p → begins_here p.text s ≡ true → length p.text ≤ length x
longest_among [] x s p h a b = absurd a
longest_among (q ∷ pairs) x s p h (inl e) b =
    let begins : begins_here q.text s ≡ true = ap (λ r. begins_here r.text s) (sym e) ∙ b in
    let most : nat_le (length q.text) (length x) ≡ true =
    rw begins at (and_left (not (begins_here q.text s) || nat_le (length q.text) (length x))
    (is_longest pairs x s) h) in
    subst (λ r. length r.text ≤ length x) (sym e) (leb-true (length q.text) (length x) most)
longest_among (q ∷ pairs) x s p h (inr a) b =
    longest_among pairs x s p
    (and_right (not (begins_here q.text s) || nat_le (length q.text) (length x))
    (is_longest pairs x s) h) a b

text_among : (x : List ℕ) (pairs : List Pair) (p : Pair) → Among pairs p → x ≡ p.text
    → is_text_among x pairs ≡ true
text_among x [] p a e = absurd a
text_among x (q ∷ pairs) p (inl s) e =
    rw ((bytes_eq-Decides x q.text).1 (e ∙ ap (λ r. r.text) s)) refl
text_among x (q ∷ pairs) p (inr a) e = or_true (bytes_eq x q.text) _ (text_among x pairs p a e)
  where
    or_true : (c d : Bool) → d ≡ true → (c || d) ≡ true
    or_true true d h = refl
    or_true false d h = h

same_text : (pairs : List Pair) (p q : Pair) → have_own_texts pairs ≡ true → Among pairs p
    → Among pairs q → p.text ≡ q.text → p ≡ q
same_text [] p q h a b e = absurd a
same_text (r ∷ pairs) p q h (inl s) (inl t) e = s ∙ sym t
same_text (r ∷ pairs) p q h (inl s) (inr b) e =
    no_test (is_text_among r.text pairs)
    (text_among r.text pairs q b (ap (λ x. x.text) (sym s) ∙ e))
    (not_true (is_text_among r.text pairs)
    (and_left (not (is_text_among r.text pairs)) (have_own_texts pairs) h))
same_text (r ∷ pairs) p q h (inr a) (inl t) e =
    no_test (is_text_among r.text pairs)
    (text_among r.text pairs p a (ap (λ x. x.text) (sym t) ∙ sym e))
    (not_true (is_text_among r.text pairs)
    (and_left (not (is_text_among r.text pairs)) (have_own_texts pairs) h))
same_text (r ∷ pairs) p q h (inr a) (inr b) e =
    same_text pairs p q (and_right (not (is_text_among r.text pairs)) (have_own_texts pairs) h)
    a b e

-- the pair that the relation requires is the one that the function finds
pub is_found : (pairs : List Pair) (s : List ℕ) (p : Pair) → have_own_texts pairs ≡ true
    → IsFound pairs p s → found pairs s ≡ Some p
is_found pairs s p h f = by_option (found pairs s)
    (λ none. no_test (none_begins pairs s) (nothing_begins None pairs s none).1
    (begun_among pairs s p f.among f.begins))
    (λ q some. let g = found_is pairs s q some in
    let less = longest_among pairs p.text s q f.longest g.among g.begins in
    let more = longest_among pairs q.text s p g.longest f.among f.begins in
    let long : length q.text ≡ length p.text = omega (arith, less, more) in
    let same = prefixes_same q.text p.text s (prefix_of_begun q.text s g.begins)
    (prefix_of_begun p.text s f.begins) long in
    some ∙ ap Some (same_text pairs q p h g.among f.among same))

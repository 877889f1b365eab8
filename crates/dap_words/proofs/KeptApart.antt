-- If no word meets a text, a second pass changes nothing.
use Rattle.std.proofs.Common.{◌≡◌, ℕ, ◌==◌, Bool, true, false, not, ◌&&◌, ◌||◌, inl, inr, List, []}
use Rattle.std.proofs.Common.{◌∷◌, ◌++◌, refl, sym, ap, ◌∙◌}
use Rattle.std.proofs.lemmas.Bool.{eqb-true, eq-eqb}
use Rattle.dap_words.specs.Words.{Pair, is_prefix, begins_here, none_begins, Among, Replaced}
use Rattle.dap_words.specs.Words.{at_end}
use Rattle.dap_words.specs.Words.{other, replace}
use Rattle.dap_words.specs.Apart.{agree, agree_from, meet, meets_any, are_apart_from, are_apart}
use Rattle.dap_words.proofs.Booleans.{by_bool, and_left, and_right, and_both, or_left, or_right}
use Rattle.dap_words.proofs.Booleans.{both_false, not_true, not_false, no_test}
use Rattle.dap_words.proofs.WordSteps.{prefix_of_begun, begun_among}

-- ---- lists that agree

agree_turned : (s t : List ℕ) → agree s t ≡ true → agree t s ≡ true
agree_turned [] [] h = refl
agree_turned [] (c ∷ t) h = refl
agree_turned (b ∷ s) [] h = refl
agree_turned (b ∷ s) (c ∷ t) h =
    and_both _ _ (eq-eqb c b (sym (eqb-true b c (and_left (b == c) (agree s t) h))))
    (agree_turned s t (and_right (b == c) (agree s t) h))

prefix_agrees : (x w t : List ℕ) → is_prefix x (w ++ t) ≡ true → agree x w ≡ true
prefix_agrees [] w t h = refl
prefix_agrees (b ∷ x) [] t h = refl
prefix_agrees (b ∷ x) (c ∷ w) t h =
    and_both _ _ (and_left (b == c) (is_prefix x (w ++ t)) h)
    (prefix_agrees x w t (and_right (b == c) (is_prefix x (w ++ t)) h))

-- ---- no text starts in a word

-- the word, from one of its bytes on, agrees with one of the texts
abbrev over_any : List Pair → List ℕ → Bool
over_any [] w = false
over_any (p ∷ texts) w = agree_from w p.text || over_any texts w

over_from_meets : (texts : List Pair) (w : List ℕ) → meets_any texts w ≡ false → over_any texts w
    ≡ false
over_from_meets [] w h = refl
over_from_meets (p ∷ texts) w h =
    both_false _ _
    (or_right (agree_from p.text w) (agree_from w p.text)
    (or_left (meet p.text w) (meets_any texts w) h))
    (over_from_meets texts w (or_right (meet p.text w) (meets_any texts w) h))

over_rest : (texts : List Pair) (b : ℕ) (w : List ℕ) → over_any texts (b ∷ w) ≡ false
    → over_any texts w ≡ false
over_rest [] b w h = refl
over_rest (p ∷ texts) b w h =
    both_false _ _
    (or_right (agree (b ∷ w) p.text) (agree_from w p.text)
    (or_left (agree_from (b ∷ w) p.text) (over_any texts (b ∷ w)) h))
    (over_rest texts b w (or_right (agree_from (b ∷ w) p.text) (over_any texts (b ∷ w)) h))

none_over : (texts : List Pair) (b : ℕ) (w t : List ℕ) → over_any texts (b ∷ w) ≡ false
    → none_begins texts (b ∷ w ++ t) ≡ true
none_over [] b w t h = refl
none_over (p ∷ texts) b w t h =
    and_both _ _
    (by_bool (begins_here p.text (b ∷ w ++ t))
    (λ k. no_test (agree (b ∷ w) p.text)
    (agree_turned p.text (b ∷ w)
    (prefix_agrees p.text (b ∷ w) t (prefix_of_begun p.text (b ∷ w ++ t) k)))
    (or_left (agree (b ∷ w) p.text) (agree_from w p.text)
    (or_left (agree_from (b ∷ w) p.text) (over_any texts (b ∷ w)) h)))
    (λ k. not_false (begins_here p.text (b ∷ w ++ t)) k))
    (none_over texts b w t (or_right (agree_from (b ∷ w) p.text) (over_any texts (b ∷ w)) h))

-- no text starts anywhere
abbrev is_clean : List Pair → List ℕ → Bool
is_clean pairs [] = true
is_clean pairs (b ∷ s) = none_begins pairs (b ∷ s) && is_clean pairs s

clean_over : (pairs : List Pair) (w t : List ℕ) → over_any pairs w ≡ false → is_clean pairs t ≡ true
    → is_clean pairs (w ++ t) ≡ true
clean_over pairs [] t h c = c
clean_over pairs (b ∷ w) t h c =
    and_both _ _ (none_over pairs b w t h) (clean_over pairs w t (over_rest pairs b w h) c)

-- ---- a text that starts at a byte that was kept started there before

-- the text, from one of its bytes on, agrees with one of the words
abbrev under_any : List Pair → List ℕ → Bool
under_any [] x = false
under_any (p ∷ words) x = agree_from x p.word || under_any words x

under_rest : (words : List Pair) (b : ℕ) (x : List ℕ) → under_any words (b ∷ x) ≡ false
    → under_any words x ≡ false
under_rest [] b x h = refl
under_rest (p ∷ words) b x h =
    both_false _ _
    (or_right (agree (b ∷ x) p.word) (agree_from x p.word)
    (or_left (agree_from (b ∷ x) p.word) (under_any words (b ∷ x)) h))
    (under_rest words b x (or_right (agree_from (b ∷ x) p.word) (under_any words (b ∷ x)) h))

under_among : (words : List Pair) (x : List ℕ) (p : Pair) → under_any words x ≡ false
    → Among words p → agree_from x p.word ≡ false
under_among [] x p h a = absurd a
under_among (q ∷ words) x p h (inl e) =
    ap (λ r. agree_from x r.word) e ∙ or_left (agree_from x q.word) (under_any words x) h
under_among (q ∷ words) x p h (inr a) =
    under_among words x p (or_right (agree_from x q.word) (under_any words x) h) a

meets_among : (texts : List Pair) (w : List ℕ) (p : Pair) → meets_any texts w ≡ false
    → Among texts p → meet p.text w ≡ false
meets_among [] w p h a = absurd a
meets_among (q ∷ texts) w p h (inl e) =
    ap (λ r. meet r.text w) e ∙ or_left (meet q.text w) (meets_any texts w) h
meets_among (q ∷ texts) w p h (inr a) =
    meets_among texts w p (or_right (meet q.text w) (meets_any texts w) h) a

under_of : (texts words : List Pair) (p : Pair) → are_apart_from texts words ≡ true
    → Among texts p → under_any words p.text ≡ false
under_of texts [] p h a = refl
under_of texts (q ∷ words) p h a =
    let no = not_true (meets_any texts q.word)
    (and_left (not (meets_any texts q.word)) (are_apart_from texts words) h) in
    both_false _ _
    (or_left (agree_from p.text q.word) (agree_from q.word p.text)
    (meets_among texts q.word p no a))
    (under_of texts words p
    (and_right (not (meets_any texts q.word)) (are_apart_from texts words) h) a)

word_apart : (texts words : List Pair) (p : Pair) → are_apart_from texts words ≡ true
    → Among words p → meets_any texts p.word ≡ false
word_apart texts [] p h a = absurd a
word_apart texts (q ∷ words) p h (inl e) =
    ap (λ r. meets_any texts r.word) e
    ∙ not_true (meets_any texts q.word)
    (and_left (not (meets_any texts q.word)) (are_apart_from texts words) h)
word_apart texts (q ∷ words) p h (inr a) =
    word_apart texts words p
    (and_right (not (meets_any texts q.word)) (are_apart_from texts words) h) a

module _ (pairs : List Pair) where
  came_before : (x : List ℕ) {s t : List ℕ} → under_any pairs x ≡ false → Replaced pairs s t
      → is_prefix x t ≡ true → is_prefix x s ≡ true
  came_before [] u r h = refl
  came_before (c ∷ x) u at_end h = h
  came_before (c ∷ x) u (other {b} {s} {t} none r) h =
      and_both _ _ (and_left (c == b) (is_prefix x t) h)
      (came_before x (under_rest pairs c x u) r (and_right (c == b) (is_prefix x t) h))
  came_before (c ∷ x) u (replace {u = v} {s} {t} p e f r) h =
      no_test (agree (c ∷ x) p.word) (prefix_agrees (c ∷ x) p.word t h)
      (or_left (agree (c ∷ x) p.word) (agree_from x p.word)
      (under_among pairs (c ∷ x) p u f.among))

  began_before : (x : List ℕ) (b : ℕ) {s t : List ℕ} → under_any pairs x ≡ false
      → Replaced pairs s t → begins_here x (b ∷ t) ≡ true → begins_here x (b ∷ s) ≡ true
  began_before [] b u r h = h
  began_before (c ∷ x) b {s} {t} u r h =
      and_both _ _ (and_left (c == b) (is_prefix x t) h)
      (came_before x (under_rest pairs c x u) r (and_right (c == b) (is_prefix x t) h))

  none_after : (texts : List Pair) (b : ℕ) {s t : List ℕ}
      → ((p : Pair) → Among texts p → under_any pairs p.text ≡ false) → Replaced pairs s t
      → none_begins texts (b ∷ s) ≡ true → none_begins texts (b ∷ t) ≡ true
  none_after [] b u r h = refl
  none_after (p ∷ texts) b {s} {t} u r h =
      and_both _ _
      (by_bool (begins_here p.text (b ∷ t))
      (λ k. no_test (begins_here p.text (b ∷ s))
      (began_before p.text b (u p (inl refl)) r k)
      (not_true (begins_here p.text (b ∷ s))
      (and_left (not (begins_here p.text (b ∷ s))) (none_begins texts (b ∷ s)) h)))
      (λ k. not_false (begins_here p.text (b ∷ t)) k))
      (none_after texts b (λ q a. u q (inr a)) r
      (and_right (not (begins_here p.text (b ∷ s))) (none_begins texts (b ∷ s)) h))

  -- ---- twice

  clean_after : {s t : List ℕ} → are_apart pairs ≡ true → Replaced pairs s t
      → is_clean pairs t ≡ true
  clean_after h at_end = refl
  clean_after h (other {b} {s} {t} none r) =
      and_both _ _ (none_after pairs b (λ p a. under_of pairs pairs p h a) r none)
      (clean_after h r)
  clean_after h (replace {u} {s} {t} p e f r) =
      clean_over pairs p.word t
      (over_from_meets pairs p.word (word_apart pairs pairs p h f.among)) (clean_after h r)

  not_clean : (u : List ℕ) (p : Pair) → is_clean pairs u ≡ true → Among pairs p
      → begins_here p.text u ≡ true → ⊥
  not_clean [] p c a b = nothing p.text b
    where
      nothing : (x : List ℕ) → begins_here x [] ≡ true → ⊥
      nothing [] h = cc
      nothing (d ∷ x) h = cc
  not_clean (d ∷ u) p c a b =
      no_test (none_begins pairs (d ∷ u))
      (and_left (none_begins pairs (d ∷ u)) (is_clean pairs u) c)
      (begun_among pairs (d ∷ u) p a b)

  clean_stays : {t u : List ℕ} → is_clean pairs t ≡ true → Replaced pairs t u → u ≡ t
  clean_stays c at_end = refl
  clean_stays c (other {b} {s} {t} none r) =
      ap (λ v. b ∷ v)
      (clean_stays (and_right (none_begins pairs (b ∷ s)) (is_clean pairs s) c) r)
  clean_stays c (replace {u} {s} {t} p e f r) = absurd (not_clean u p c f.among f.begins)

pub replaced_twice : (pairs : List Pair) (s t u : List ℕ) → are_apart pairs ≡ true
    → Replaced pairs s t → Replaced pairs t u → u ≡ t
replaced_twice pairs s t u h r again = clean_stays pairs (clean_after pairs h r) again

-- A list of words with one more.
use Rattle.std.proofs.Common.{◌≡◌, ℕ, Bool, true, false, not, ◌&&◌, ◌||◌, List, [], ◌∷◌, ◌++◌}
use Rattle.std.proofs.Common.{map, refl, sym, ap, ◌∙◌, bytes_eq}
use Rattle.std.proofs.lemmas.Slice.Eq.{bytes_eq-Decides}
use Rattle.dap_words.specs.Words.{Pair, pair_of, pairs_of, is_text_among, have_own_texts}
use Rattle.dap_words.specs.Apart.{meet, meets_any, are_apart_from, are_apart, is_met, stays_apart}
use Rattle.dap_words.specs.declared.words.Word.{Word}
use Rattle.dap_words.proofs.Booleans.{by_bool, and_left, and_right, and_both, or_left, or_right}
use Rattle.dap_words.proofs.Booleans.{both_false, not_true, not_false, no_test}

pub pairs_push : (ws : List Word) (w : Word)
    → pairs_of (ws ++ w ∷ []) ≡ pairs_of ws ++ pair_of w ∷ []
pairs_push [] w = refl
pairs_push (x ∷ ws) w = ap (λ ps. pair_of x ∷ ps) (pairs_push ws w)

-- ---- no two words replace the same text

same_turned : (x y : List ℕ) → bytes_eq x y ≡ false → bytes_eq y x ≡ false
same_turned x y h =
    by_bool (bytes_eq y x)
    (λ k. no_test (bytes_eq x y)
    ((bytes_eq-Decides x y).1 (sym ((bytes_eq-Decides y x).0 k))) h)
    (λ k. k)

among_more : (x : List ℕ) (pairs : List Pair) (p : Pair) → is_text_among x pairs ≡ false
    → bytes_eq x p.text ≡ false → is_text_among x (pairs ++ p ∷ []) ≡ false
among_more x [] p h k = both_false _ _ k refl
among_more x (q ∷ pairs) p h k =
    both_false _ _ (or_left (bytes_eq x q.text) (is_text_among x pairs) h)
    (among_more x pairs p (or_right (bytes_eq x q.text) (is_text_among x pairs) h) k)

pub own_more : (pairs : List Pair) (p : Pair) → have_own_texts pairs ≡ true
    → is_text_among p.text pairs ≡ false → have_own_texts (pairs ++ p ∷ []) ≡ true
own_more [] p h k = refl
own_more (q ∷ pairs) p h k =
    let own = not_true (is_text_among q.text pairs)
    (and_left (not (is_text_among q.text pairs)) (have_own_texts pairs) h) in
    let other = same_turned p.text q.text
    (or_left (bytes_eq p.text q.text) (is_text_among p.text pairs) k) in
    and_both _ _
    (not_false (is_text_among q.text (pairs ++ p ∷ [])) (among_more q.text pairs p own other))
    (own_more pairs p (and_right (not (is_text_among q.text pairs)) (have_own_texts pairs) h)
    (or_right (bytes_eq p.text q.text) (is_text_among p.text pairs) k))

-- ---- no word meets a text

meets_more : (texts : List Pair) (p : Pair) (w : List ℕ) → meets_any texts w ≡ false
    → meet p.text w ≡ false → meets_any (texts ++ p ∷ []) w ≡ false
meets_more [] p w h k = both_false _ _ k refl
meets_more (q ∷ texts) p w h k =
    both_false _ _ (or_left (meet q.text w) (meets_any texts w) h)
    (meets_more texts p w (or_right (meet q.text w) (meets_any texts w) h) k)

text_more : (texts words : List Pair) (p : Pair) → are_apart_from texts words ≡ true
    → is_met words p.text ≡ false → are_apart_from (texts ++ p ∷ []) words ≡ true
text_more texts [] p h k = refl
text_more texts (q ∷ words) p h k =
    let none = not_true (meets_any texts q.word)
    (and_left (not (meets_any texts q.word)) (are_apart_from texts words) h) in
    let also = or_left (meet p.text q.word) (is_met words p.text) k in
    and_both _ _
    (not_false (meets_any (texts ++ p ∷ []) q.word) (meets_more texts p q.word none also))
    (text_more texts words p
    (and_right (not (meets_any texts q.word)) (are_apart_from texts words) h)
    (or_right (meet p.text q.word) (is_met words p.text) k))

word_more : (texts words : List Pair) (p : Pair) → are_apart_from texts words ≡ true
    → meets_any texts p.word ≡ false → are_apart_from texts (words ++ p ∷ []) ≡ true
word_more texts [] p h k = and_both _ _ (not_false (meets_any texts p.word) k) refl
word_more texts (q ∷ words) p h k =
    and_both _ _ (and_left (not (meets_any texts q.word)) (are_apart_from texts words) h)
    (word_more texts words p
    (and_right (not (meets_any texts q.word)) (are_apart_from texts words) h) k)

pub apart_more : (pairs : List Pair) (p : Pair) → are_apart pairs ≡ true
    → stays_apart pairs p ≡ true → are_apart (pairs ++ p ∷ []) ≡ true
apart_more pairs p h k =
    let rest = and_right (not (meet p.text p.word))
    (not (meets_any pairs p.word) && not (is_met pairs p.text)) k in
    let own = not_true (meet p.text p.word) (and_left (not (meet p.text p.word))
    (not (meets_any pairs p.word) && not (is_met pairs p.text)) k) in
    let word = not_true (meets_any pairs p.word)
    (and_left (not (meets_any pairs p.word)) (not (is_met pairs p.text)) rest) in
    let text = not_true (is_met pairs p.text)
    (and_right (not (meets_any pairs p.word)) (not (is_met pairs p.text)) rest) in
    word_more (pairs ++ p ∷ []) pairs p (text_more pairs pairs p h text)
    (meets_more pairs p p.word word own)

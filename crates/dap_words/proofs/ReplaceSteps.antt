-- The steps of the loop that writes words in the place of texts.
use Rattle.std.proofs.Common.{◌≡◌, ℕ, zero, suc, ◌+◌, ◌-◌, ◌<◌, ◌≤◌, true, List, [], ◌∷◌, ◌++◌}
use Rattle.std.proofs.Common.{length, drop, Some, None, refl, sym, ap, ◌∙◌, arith, append_assoc}
use Rattle.std.proofs.Common.{append-nil, length-drop, length-take, take}
use Rattle.std.proofs.lemmas.List.{drop-drop, drop_all, take-append-le}
use Rattle.dap_words.specs.Words.{Pair, begins_here, found, written, covered}
use Rattle.dap_words.specs.Words.{replaced_after, replaced}
use Rattle.dap_words.proofs.WordSteps.{prefix_rest, prefix_of_begun, prefix_fits, found_is}
use Rattle.dap_words.proofs.ReplacedTexts.{kept_byte, word_written}

pub begun_some : (x s : List ℕ) → begins_here x s ≡ true → 0 < length x
begun_some [] s h = cc
begun_some (b ∷ x) s h = omega arith

pub text_some : (pairs : List Pair) (s : List ℕ) (p : Pair) → found pairs s ≡ Some p
    → 0 < length p.text
text_some pairs s p h = begun_some p.text s (found_is pairs s p h).begins

pub text_fits : (pairs : List Pair) (bytes : List ℕ) (i : ℕ) (p : Pair) → i ≤ length bytes
    → found pairs (drop i bytes) ≡ Some p → i + length p.text ≤ length bytes
text_fits pairs bytes i p l h =
    let begins = (found_is pairs (drop i bytes) p h).begins in
    let fits = prefix_fits p.text (drop i bytes) (prefix_of_begun p.text (drop i bytes) begins) in
    omega (arith, fits, length-drop i bytes)

pub word_step : (pairs : List Pair) (bytes out whole : List ℕ) (i : ℕ) (p : Pair)
    → found pairs (drop i bytes) ≡ Some p → out ++ replaced pairs (drop i bytes) ≡ whole
    → (out ++ p.word) ++ replaced pairs (drop (i + length p.text) bytes) ≡ whole
word_step pairs bytes out whole i p h w =
    let s = drop i bytes in
    let begins = (found_is pairs s p h).begins in
    append_assoc out p.word (replaced pairs (drop (i + length p.text) bytes))
    ∙ ap (λ t. out ++ t)
    (ap (λ t. p.word ++ replaced pairs t) (sym (drop-drop (length p.text) i bytes))
    ∙ sym (word_written pairs p s (drop (length p.text) s)
    (prefix_rest p.text s (prefix_of_begun p.text s begins)) begins h))
    ∙ w

-- the bytes are copied up to the first place at which a pair is found
copied : (pairs : List Pair) (n : ℕ) (s : List ℕ)
    → ((k : ℕ) → k < n → found pairs (drop k s) ≡ None)
    → replaced pairs s ≡ take n s ++ replaced pairs (drop n s)
copied pairs zero s h = refl
copied pairs (suc n) [] h = refl
copied pairs (suc n) (b ∷ s) h =
    kept_byte pairs b s (h 0 (omega arith))
    ∙ ap (λ t. b ∷ t) (copied pairs n s (λ k l. h (suc k) (omega (arith, l))))

pub copy_step : (pairs : List Pair) (bytes out whole : List ℕ) (i j : ℕ) → i ≤ j
    → ((k : ℕ) → i ≤ k → k < j → found pairs (drop k bytes) ≡ None)
    → out ++ replaced pairs (drop i bytes) ≡ whole
    → (out ++ take (j - i) (drop i bytes)) ++ replaced pairs (drop j bytes) ≡ whole
copy_step pairs bytes out whole i j l none w =
    let rest = drop i bytes in
    let same : i + (j - i) ≡ j = omega arith in
    let there : drop j bytes ≡ drop (j - i) rest =
    ap (λ k. drop k bytes) (sym same) ∙ sym (drop-drop (j - i) i bytes) in
    append_assoc out (take (j - i) rest) (replaced pairs (drop j bytes))
    ∙ ap (λ t. out ++ t) (ap (λ t. take (j - i) rest ++ replaced pairs t) there
    ∙ sym (copied pairs (j - i) rest (λ k m. ap (found pairs) (drop-drop k i bytes)
    ∙ none (i + k) (omega arith) (omega (arith, m)))))
    ∙ w

-- nothing is found up to the end
pub rest_step : (pairs : List Pair) (bytes out whole : List ℕ) (i : ℕ) → i ≤ length bytes
    → ((k : ℕ) → i ≤ k → k < length bytes → found pairs (drop k bytes) ≡ None)
    → out ++ replaced pairs (drop i bytes) ≡ whole
    → out ++ take (length bytes - i) (drop i bytes) ≡ whole
rest_step pairs bytes out whole i l none w =
    let all = out ++ take (length bytes - i) (drop i bytes) in
    sym (append-nil all)
    ∙ ap (λ t. all ++ replaced pairs t) (sym (drop_all (length bytes) bytes (omega arith)))
    ∙ copy_step pairs bytes out whole i (length bytes) l none w

-- the result for two lists of pairs of which the same pair is found at each place
same_after : (pairs others : List Pair) (s : List ℕ) (n : ℕ)
    → ((k : ℕ) → found pairs (drop k s) ≡ found others (drop k s))
    → replaced_after pairs s n ≡ replaced_after others s n
same_after pairs others [] zero h = refl
same_after pairs others [] (suc n) h = refl
same_after pairs others (b ∷ s) (suc n) h = same_after pairs others s n (λ k. h (suc k))
same_after pairs others (b ∷ s) zero h =
    let other = found others (b ∷ s) in
    ap (λ o. written o b ++ replaced_after pairs s (covered o)) (h 0)
    ∙ ap (λ t. written other b ++ t)
    (same_after pairs others s (covered other) (λ k. h (suc k)))

pub same_replaced : (pairs others : List Pair) (s : List ℕ)
    → ((k : ℕ) → found pairs (drop k s) ≡ found others (drop k s))
    → replaced pairs s ≡ replaced others s
same_replaced pairs others s h = same_after pairs others s 0 h

pub still_begun : (old out more : List ℕ) → take (length old) out ≡ old
    → take (length old) (out ++ more) ≡ old
still_begun old out more h =
    let fits : length old ≤ length out = omega (arith, ap length h, length-take (length old) out) in
    take-append-le (length old) out more fits ∙ h

-- `replaced`: the relation and the function agree.
use Rattle.std.proofs.Common.{◌≡◌, ℕ, zero, suc, true, List, [], ◌∷◌, ◌++◌, length, drop}
use Rattle.std.proofs.Common.{Some, None, refl, sym, ap, ◌∙◌}
use Rattle.std.proofs.lemmas.List.{append_cancel_left}
use Rattle.dap_words.specs.Words.{Pair, begins_here, Replaced, at_end, other}
use Rattle.dap_words.specs.Words.{replace, have_own_texts, found, replaced_after}
use Rattle.dap_words.specs.Words.{replaced}
use Rattle.dap_words.proofs.WordSteps.{by_option, prefix_rest, none_found, nothing_begins, found_is}
use Rattle.dap_words.proofs.WordSteps.{is_found}

-- ---- the relation holds for the result

-- the rest comes after a text that was found
pub found_rest : (x : List ℕ) (b : ℕ) (s : List ℕ) → begins_here x (b ∷ s) ≡ true
    → (b ∷ s) ≡ x ++ drop (length (drop 1 x)) s
found_rest [] b s h = cc
found_rest (c ∷ x) b s h = prefix_rest (c ∷ x) (b ∷ s) h

said_after : (pairs : List Pair) (s : List ℕ) (n : ℕ)
    → Replaced pairs (drop n s) (replaced_after pairs s n)
said_after pairs [] zero = at_end
said_after pairs [] (suc n) = at_end
said_after pairs (b ∷ s) (suc n) = said_after pairs s n
said_after pairs (b ∷ s) zero = by_option (found pairs (b ∷ s))
    (λ none. rw none (other (nothing_begins None pairs (b ∷ s) none).1 (said_after pairs s 0)))
    (λ p some. let f = found_is pairs (b ∷ s) p some in
    rw some (replace p (found_rest p.text b s f.begins) f
    (said_after pairs s (length (drop 1 p.text)))))

pub replaced_is : (pairs : List Pair) (s : List ℕ) → Replaced pairs s (replaced pairs s)
replaced_is pairs s = said_after pairs s 0

-- ---- it holds for no other result

pub jumped : (pairs : List Pair) (s : List ℕ) (n : ℕ)
    → replaced_after pairs s n ≡ replaced pairs (drop n s)
jumped pairs [] zero = refl
jumped pairs [] (suc n) = refl
jumped pairs (b ∷ s) zero = refl
jumped pairs (b ∷ s) (suc n) = jumped pairs s n

-- if nothing is found, the byte is kept
pub kept_byte : (pairs : List Pair) (b : ℕ) (s : List ℕ) → found pairs (b ∷ s) ≡ None
    → replaced pairs (b ∷ s) ≡ b ∷ replaced pairs s
kept_byte pairs b s h = rw h refl

-- if a text is found, its word is written and reading continues after it
pub word_written : (pairs : List Pair) (p : Pair) (u s : List ℕ) → u ≡ p.text ++ s
    → begins_here p.text u ≡ true → found pairs u ≡ Some p
    → replaced pairs u ≡ p.word ++ replaced pairs s
word_written pairs p [] s e b h = absurd (nothing p.text b)
  where
    nothing : (x : List ℕ) → begins_here x [] ≡ true → ⊥
    nothing [] h = cc
    nothing (c ∷ x) h = cc
word_written pairs p (c ∷ u) s e b h =
    rw h (ap (λ t. p.word ++ t) (jumped pairs u (length (drop 1 p.text))
    ∙ ap (replaced pairs) (append_cancel_left p.text (drop (length (drop 1 p.text)) u) s
    (sym (found_rest p.text c u b) ∙ e))))

pub replaced_is_one : (pairs : List Pair) (s t : List ℕ) → have_own_texts pairs ≡ true
    → Replaced pairs s t → t ≡ replaced pairs s
replaced_is_one pairs s t h r = go r
  where
    go : {s t : List ℕ} → Replaced pairs s t → t ≡ replaced pairs s
    go at_end = refl
    go (other {b} {s} {t} none r) =
        ap (λ u. b ∷ u) (go r) ∙ sym (kept_byte pairs b s (none_found None pairs (b ∷ s) none))
    go (replace {u} {s} {t} p e f r) =
        ap (λ x. p.word ++ x) (go r)
        ∙ sym (word_written pairs p u s e f.begins (is_found pairs u p h f))

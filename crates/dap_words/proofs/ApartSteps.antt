-- The steps of the loops that compare texts and words.
use Rattle.std.proofs.Common.{◌≡◌, ℕ, ◌+◌, ◌<◌, ◌≤◌, true, false, List, [], ◌∷◌}
use Rattle.std.proofs.Common.{length, drop, get_or, refl, sym, ap, ◌∙◌, arith}
use Rattle.std.proofs.lemmas.List.{drop_more, drop_all}
use Rattle.dap_words.specs.Words.{begins_here}
use Rattle.dap_words.specs.Apart.{agree, agree_from}
use Rattle.dap_words.proofs.Booleans.{by_bool}
use Rattle.dap_words.proofs.WordSteps.{prefix_of_begun, prefix_fits}

agree_none : (s : List ℕ) → agree s [] ≡ true
agree_none [] = refl
agree_none (b ∷ s) = refl

pub agree_short : (s t : List ℕ) (i : ℕ) → length t ≤ i → agree (drop i s) (drop i t) ≡ true
agree_short s t i h = ap (agree (drop i s)) (drop_all i t h) ∙ agree_none (drop i s)

pub agree_from_more : (s t : List ℕ) (i : ℕ) → i < length s → agree (drop i s) t ≡ false
    → agree_from (drop i s) t ≡ agree_from (drop (i + 1) s) t
agree_from_more s t i l h =
    let here = drop_more s i 0 l in
    ap (λ x. agree_from x t) here
    ∙ later (get_or s i 0) (drop (i + 1) s) (sym (ap (λ x. agree x t) here) ∙ h)
  where
    later : (b : ℕ) (r : List ℕ) → agree (b ∷ r) t ≡ false → agree_from (b ∷ r) t ≡ agree_from r t
    later b r k = rw k refl

pub long_text : (x s : List ℕ) → length s < length x → begins_here x s ≡ false
long_text x s h = by_bool (begins_here x s)
    (λ k. let fits = prefix_fits x s (prefix_of_begun x s k) in absurd (omega (arith, fits)))
    (λ k. k)

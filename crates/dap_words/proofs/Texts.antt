-- One text: without words, and a second time.
use Rattle.std.proofs.Common.{◌≡◌, ℕ, true, List, [], ◌∷◌, refl, ap}
use Rattle.dap_words.specs.Words.{Pair, replaced}
use Rattle.dap_words.specs.Apart.{are_apart}
use Rattle.dap_words.proofs.ReplacedTexts.{replaced_is}
use Rattle.dap_words.proofs.KeptApart.{replaced_twice}

pub replaced_none : (s : List ℕ) → replaced [] s ≡ s
replaced_none [] = refl
replaced_none (b ∷ s) = ap (λ t. b ∷ t) (replaced_none s)

pub text_twice : (pairs : List Pair) (s : List ℕ) → are_apart pairs ≡ true
    → replaced pairs (replaced pairs s) ≡ replaced pairs s
text_twice pairs s h =
    replaced_twice pairs s (replaced pairs s) (replaced pairs (replaced pairs s)) h
    (replaced_is pairs s) (replaced_is pairs (replaced pairs s))

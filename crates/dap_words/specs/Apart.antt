-- A condition on texts and their words under which a second pass changes nothing.
use Rattle.std.specs.Prelude.{ℕ, ◌==◌, Bool, true, false, not, ◌&&◌, ◌||◌, List, [], ◌∷◌}
use Rattle.dap_words.specs.Words.{Pair}

-- The two lists have the same bytes up to the end of the shorter one.
abbrev pub agree : List ℕ → List ℕ → Bool
agree [] t = true
agree (b ∷ s) [] = true
agree (b ∷ s) (c ∷ t) = (b == c) && agree s t

-- The second list agrees with the first one from some byte of the first one on.
abbrev pub agree_from : List ℕ → List ℕ → Bool
agree_from [] t = false
agree_from (b ∷ s) t = agree (b ∷ s) t || agree_from s t

-- The text and the word can overlap (own): one contains the other, or a suffix of one is a prefix
-- of the other. An empty word meets every text.
abbrev pub meet : List ℕ → List ℕ → Bool
meet text word = agree_from text word || agree_from word text

-- The word meets the text of one of the pairs.
abbrev pub meets_any : List Pair → List ℕ → Bool
meets_any [] word = false
meets_any (p ∷ pairs) word = meet p.text word || meets_any pairs word

-- No word of the second pairs meets a text of the first ones.
abbrev pub are_apart_from : List Pair → List Pair → Bool
are_apart_from texts [] = true
are_apart_from texts (p ∷ pairs) = not (meets_any texts p.word) && are_apart_from texts pairs

-- No word meets a text (own).
abbrev pub are_apart : List Pair → Bool
are_apart pairs = are_apart_from pairs pairs

-- The word of one of the pairs meets the text.
abbrev pub is_met : List Pair → List ℕ → Bool
is_met [] text = false
is_met (p ∷ pairs) text = meet text p.word || is_met pairs text

-- The pair can follow pairs that are apart (own): its word meets neither its own text nor one of
-- theirs, and no word of theirs meets its text.
abbrev pub stays_apart : List Pair → Pair → Bool
stays_apart pairs p =
    not (meet p.text p.word) && (not (meets_any pairs p.word) && not (is_met pairs p.text))

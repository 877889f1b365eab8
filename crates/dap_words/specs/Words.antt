-- Words in the place of texts: the result for a text and a list of pairs of a text and its word.
use Rattle.std.specs.Prelude.{◌≡◌, ℕ, zero, suc, ◌==◌, Bool, true, false, cond, not, ◌&&◌, ◌||◌}
use Rattle.std.specs.Prelude.{◌⊎◌, List, [], ◌∷◌, ◌++◌, length, drop, map, nat_le, nat_lt, bytes_eq}
use Rattle.std.specs.Prelude.{Option, Some, None, string_bytes, IsUtf8}
use Rattle.dap_words.specs.declared.words.Word.{Word}

-- A text and the word that replaces it.
pub record Pair : Type 0 where
  pub text : List ℕ
  pub word : List ℕ

abbrev pub pair_of : Word → Pair
pair_of w = record { text = string_bytes w.text; word = string_bytes w.word }

abbrev pub pairs_of : List Word → List Pair
pairs_of ws = map pair_of ws

-- ---- as a relation

-- The first list is a prefix of the second one.
abbrev pub is_prefix : List ℕ → List ℕ → Bool
is_prefix [] s = true
is_prefix (b ∷ x) [] = false
is_prefix (b ∷ x) (c ∷ s) = (b == c) && is_prefix x s

-- The text starts here: it is not empty, and it is a prefix of s.
abbrev pub begins_here : List ℕ → List ℕ → Bool
begins_here [] s = false
begins_here (b ∷ x) s = is_prefix (b ∷ x) s

-- No text of the pairs starts here.
abbrev pub none_begins : List Pair → List ℕ → Bool
none_begins [] s = true
none_begins (p ∷ pairs) s = not (begins_here p.text s) && none_begins pairs s

-- The list has the pair.
abbrev pub Among : List Pair → Pair → Type 0
Among [] p = ⊥
Among (q ∷ pairs) p = (p ≡ q) ⊎ Among pairs p

-- No text that starts here is longer than x.
abbrev pub is_longest : List Pair → List ℕ → List ℕ → Bool
is_longest [] x s = true
is_longest (p ∷ pairs) x s =
    (not (begins_here p.text s) || nat_le (length p.text) (length x)) && is_longest pairs x s

-- The pair with the longest text that starts here.
pub record IsFound (pairs : List Pair) (p : Pair) (s : List ℕ) : Type 0 where
  pub among : Among pairs p
  pub begins : begins_here p.text s ≡ true
  pub longest : is_longest pairs p.text s ≡ true

-- t is s with words in the place of texts (own). From left to right, the longest text that starts
-- at a byte is replaced by its word, and reading continues after that text. A byte at which no text
-- starts is unchanged.
pub data Replaced (pairs : List Pair) : List ℕ → List ℕ → Type 0 where
  at_end : Replaced pairs [] []
  other : {b : ℕ} {s t : List ℕ} → none_begins pairs (b ∷ s) ≡ true → Replaced pairs s t
      → Replaced pairs (b ∷ s) (b ∷ t)
  replace : {u s t : List ℕ} → (p : Pair) → u ≡ p.text ++ s → IsFound pairs p u
      → Replaced pairs s t → Replaced pairs u (p.word ++ t)

-- Some pair has this text.
abbrev pub is_text_among : List ℕ → List Pair → Bool
is_text_among x [] = false
is_text_among x (p ∷ pairs) = bytes_eq x p.text || is_text_among x pairs

-- No two pairs have the same text.
abbrev pub have_own_texts : List Pair → Bool
have_own_texts [] = true
have_own_texts (p ∷ pairs) = not (is_text_among p.text pairs) && have_own_texts pairs

-- All texts and words are UTF-8.
abbrev pub AreUtf8 : List Pair → Type 0
AreUtf8 [] = Unit {0}
AreUtf8 (p ∷ pairs) = IsUtf8 p.text × IsUtf8 p.word × AreUtf8 pairs

-- ---- the same as functions

abbrev pub is_longer_than : Option Pair → Pair → Bool
is_longer_than None p = true
is_longer_than (Some best) p = nat_lt (length best.text) (length p.text)

-- The pair with the longest text that starts here, among these and the best one before them. If
-- several are longest, it is the first one.
abbrev pub best_of : Option Pair → List Pair → List ℕ → Option Pair
best_of best [] s = best
best_of best (p ∷ pairs) s =
    best_of (cond (begins_here p.text s && is_longer_than best p) (Some p) best) pairs s

abbrev pub found : List Pair → List ℕ → Option Pair
found = best_of None

-- The bytes that are written for the pair found at a byte, and the number of bytes after this one
-- that the pair replaces.
abbrev pub written : Option Pair → ℕ → List ℕ
written None b = b ∷ []
written (Some p) b = p.word

abbrev pub covered : Option Pair → ℕ
covered None = 0
covered (Some p) = length (drop 1 p.text)

-- The result for the text after its first bytes, which were read before.
abbrev pub replaced_after : List Pair → List ℕ → ℕ → List ℕ
replaced_after pairs [] n = []
replaced_after pairs (b ∷ s) (suc n) = replaced_after pairs s n
replaced_after pairs (b ∷ s) zero =
    written (found pairs (b ∷ s)) b ++ replaced_after pairs s (covered (found pairs (b ∷ s)))

abbrev pub replaced : List Pair → List ℕ → List ℕ
replaced pairs s = replaced_after pairs s 0

-- For private clauses: the next place at which each text begins.
use Rattle.std.specs.Prelude.{◌≡◌, ℕ, ◌<◌, ◌≤◌, ◌==◌, nat_lt, Bool, true, false, ◌&&◌, ◌||◌}
use Rattle.std.specs.Prelude.{List, length, drop, map, Option, Some, None, option_map, IfSome}
use Rattle.std.specs.List.{All}
use Rattle.dap_words.specs.Words.{Pair, pair_of, begins_here, found}
use Rattle.dap_words.specs.declared.occurrences.Occurrence.{Occurrence}

-- The first place of s, at or after a place, at which the text begins; the length of s if there is
-- none.
pub record IsNext (x s : List ℕ) (from at : ℕ) : Type 0 where
  pub low : from ≤ at
  pub high : at ≤ length s
  pub begins : at < length s → begins_here x (drop at s) ≡ true
  pub before : (k : ℕ) → from ≤ k → k < at → begins_here x (drop k s) ≡ false

abbrev pub pair_at : Occurrence → Pair
pair_at o = pair_of o.word.now

abbrev pub pairs_at : List Occurrence → List Pair
pairs_at os = map pair_at os

abbrev pub IsNextOf : List ℕ → ℕ → Occurrence → Type 0
IsNextOf s from o = IsNext (pair_at o).text s from o.at

abbrev pub AreNext : List ℕ → ℕ → List Occurrence → Type 0
AreNext s from os = All (IsNextOf s from) os

-- The occurrence starts before the best one, or at the same place with a longer text. An occurrence
-- at the end is none.
abbrev pub comes_before : ℕ → Occurrence → Option Occurrence → Bool
comes_before end o None = nat_lt o.at end
comes_before end o (Some best) = nat_lt o.at best.at
    || ((o.at == best.at) && nat_lt (length (pair_at best).text) (length (pair_at o).text))

abbrev pub place_of : ℕ → Option Occurrence → ℕ
place_of end None = end
place_of end (Some o) = o.at

-- From a place on, the occurrence is the first one at which a pair is found, and that pair; None if
-- none is found.
pub record IsEarliest (pairs : List Pair) (s : List ℕ) (from : ℕ) (best : Option Occurrence)
    : Type 0 where
  pub low : from ≤ place_of (length s) best
  pub within : IfSome best (λ o. o.at < length s)
  pub before : (k : ℕ) → from ≤ k → k < place_of (length s) best → found pairs (drop k s) ≡ None
  pub here : found pairs (drop (place_of (length s) best) s) ≡ option_map pair_at best

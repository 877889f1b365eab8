-- Texts that are the same on two machines, except for a text of each machine, such as a path.
use Rattle.std.specs.Prelude.{◌≡◌, ℕ, zero, suc, Bool, true, not, ◌&&◌, List, [], ◌∷◌, ◌++◌, map}
use Rattle.dap_words.specs.Runs.{begins_with}
use Rattle.dap_words.specs.Words.{Pair, begins_here, none_begins, IsFound}

-- A part of such a text: bytes that both machines write, or a place of the machine's own text.
pub data Part : Type 0 where
  literal : List ℕ → Part
  own_text : Part

-- The bytes that the machine with this own text writes.
abbrev pub filled : List ℕ → List Part → List ℕ
filled x [] = []
filled x (literal l ∷ parts) = l ++ filled x parts
filled x (own_text ∷ parts) = x ++ filled x parts

-- The text starts at no byte of the literal. The rest comes after the literal.
abbrev pub none_within : List ℕ → List ℕ → List ℕ → Bool
none_within x [] rest = true
none_within x (b ∷ l) rest = not (begins_here x (b ∷ l ++ rest)) && none_within x l rest

-- In the bytes that the machine writes, its own text starts at no byte of a literal.
abbrev pub only_at_places : List ℕ → List Part → Bool
only_at_places x [] = true
only_at_places x (literal l ∷ parts) = none_within x l (filled x parts) && only_at_places x parts
only_at_places x (own_text ∷ parts) = only_at_places x parts

-- A reader that goes from left to right finds the machine's own text only at its places (own).
pub record IsReadAtPlaces (x : List ℕ) (parts : List Part) : Type 0 where
  pub some : begins_with (λ b. true) x ≡ true
  pub only : only_at_places x parts ≡ true

-- The word list of the machine with this own text.
abbrev pub its_word : List ℕ → List ℕ → List Pair
its_word x w = record { text = x; word = w } ∷ []

-- ---- several texts for each machine

-- The pair with this number, or an empty one if there are fewer pairs.
abbrev pub pair_at : List Pair → ℕ → Pair
pair_at [] k = record { text = []; word = [] }
pair_at (p ∷ pairs) zero = p
pair_at (p ∷ pairs) (suc k) = pair_at pairs k

abbrev pub words_of : List Pair → List (List ℕ)
words_of pairs = map (λ p. p.word) pairs

-- A part of a text: bytes that both machines write, or a place of the text with this number.
pub data Piece : Type 0 where
  same : List ℕ → Piece
  text_of : ℕ → Piece

-- The bytes that the machine with these pairs writes.
abbrev pub written_by : List Pair → List Piece → List ℕ
written_by pairs [] = []
written_by pairs (same l ∷ pieces) = l ++ written_by pairs pieces
written_by pairs (text_of k ∷ pieces) = (pair_at pairs k).text ++ written_by pairs pieces

-- No text of the machine starts at a byte of the list. The rest comes after the list.
abbrev pub none_in : List Pair → List ℕ → List ℕ → Bool
none_in pairs [] rest = true
none_in pairs (b ∷ l) rest = none_begins pairs (b ∷ l ++ rest) && none_in pairs l rest

-- A reader that goes from left to right finds at each place the text of that place, and no text
-- elsewhere (own).
abbrev pub AreFoundAtPlaces : List Pair → List Piece → Type 0
AreFoundAtPlaces pairs [] = Unit {0}
AreFoundAtPlaces pairs (same l ∷ pieces) =
    (none_in pairs l (written_by pairs pieces) ≡ true) × AreFoundAtPlaces pairs pieces
AreFoundAtPlaces pairs (text_of k ∷ pieces) =
    IsFound pairs (pair_at pairs k) (written_by pairs (text_of k ∷ pieces))
    × AreFoundAtPlaces pairs pieces

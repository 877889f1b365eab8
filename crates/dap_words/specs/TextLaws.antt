-- The laws that the functions of `text_laws` state.
use Rattle.std.specs.Prelude.{◌≡◌, ◌↔◌, ℕ, true, false, List, IsUtf8}
use Rattle.dap_words.specs.Digits.{digits, hex}
use Rattle.dap_words.specs.Long.{AreLongOf, long}
use Rattle.dap_words.specs.Uuids.{AreUuidsOf, uuid}
use Rattle.dap_words.specs.Words.{Pair, Replaced, have_own_texts, AreUtf8, replaced}
use Rattle.dap_words.specs.Apart.{are_apart}
use Rattle.dap_words.specs.Machines.{Part, filled, IsReadAtPlaces, its_word, Piece, words_of}
use Rattle.dap_words.specs.Machines.{written_by, AreFoundAtPlaces}

-- ---- runs of hexadecimal digits

-- The relation holds for a text and its result under `long`, and for no other result.
abbrev pub LongAre : Type 0
LongAre = (s t : List ℕ) → AreLongOf s t ↔ (t ≡ long s)

abbrev pub LongTwice : Type 0
LongTwice = (s : List ℕ) → long (long s) ≡ long s

abbrev pub LongUtf8 : Type 0
LongUtf8 = (s : List ℕ) → IsUtf8 s → IsUtf8 (long s)

-- ---- UUIDs

-- The relation holds for a text and its result under `uuid`, and for no other result.
abbrev pub UuidsAre : Type 0
UuidsAre = (s t : List ℕ) → AreUuidsOf false s t ↔ (t ≡ uuid s)

abbrev pub UuidTwice : Type 0
UuidTwice = (s : List ℕ) → uuid (uuid s) ≡ uuid s

abbrev pub UuidUtf8 : Type 0
UuidUtf8 = (s : List ℕ) → IsUtf8 s → IsUtf8 (uuid s)

-- ---- two actions at one place, in order: if the first leaves a text unchanged, then it leaves the
-- result of the second unchanged too

abbrev pub StaysAfter : (List ℕ → List ℕ) → (List ℕ → List ℕ) → Type 0
StaysAfter first second = (s : List ℕ) → first s ≡ s → first (second s) ≡ second s

abbrev pub DigitsAfterLong : Type 0
DigitsAfterLong = StaysAfter digits long

abbrev pub LongAfterDigits : Type 0
LongAfterDigits = StaysAfter long digits

abbrev pub LongAfterHex : Type 0
LongAfterHex = StaysAfter long hex

abbrev pub UuidAfterHex : Type 0
UuidAfterHex = StaysAfter uuid hex

abbrev pub UuidAfterLong : Type 0
UuidAfterLong = StaysAfter uuid long

-- The second action can change a text that the first one leaves unchanged.
abbrev pub Unsettles : (List ℕ → List ℕ) → (List ℕ → List ℕ) → Type 0
Unsettles first second = StaysAfter first second → ⊥

abbrev pub DigitsThenUuid : Type 0
DigitsThenUuid = Unsettles digits uuid

abbrev pub HexThenDigits : Type 0
HexThenDigits = Unsettles hex digits

abbrev pub HexThenLong : Type 0
HexThenLong = Unsettles hex long

abbrev pub HexThenUuid : Type 0
HexThenUuid = Unsettles hex uuid

abbrev pub LongThenUuid : Type 0
LongThenUuid = Unsettles long uuid

abbrev pub UuidThenDigits : Type 0
UuidThenDigits = Unsettles uuid digits

-- ---- words

-- The relation holds for a text and its result under `replaced`. It holds for no other result if no
-- two pairs have the same text.
abbrev pub ReplacedIs : Type 0
ReplacedIs = (pairs : List Pair) (s : List ℕ) → Replaced pairs s (replaced pairs s)

abbrev pub ReplacedIsOne : Type 0
ReplacedIsOne = (pairs : List Pair) (s t : List ℕ) → have_own_texts pairs ≡ true
    → Replaced pairs s t → t ≡ replaced pairs s

-- If all texts and words are UTF-8, then the result for a UTF-8 text is UTF-8.
abbrev pub ReplacedUtf8 : Type 0
ReplacedUtf8 = (pairs : List Pair) (s t : List ℕ) → AreUtf8 pairs → IsUtf8 s
    → Replaced pairs s t → IsUtf8 t

-- If no word meets a text, a second pass changes nothing.
abbrev pub ReplacedTwice : Type 0
ReplacedTwice = (pairs : List Pair) (s t u : List ℕ) → are_apart pairs ≡ true
    → Replaced pairs s t → Replaced pairs t u → u ≡ t

-- Two machines write the same text, except that each writes its own text at some places. If each
-- reading finds these only at their places, then the results with the same word are equal.
abbrev pub TwoMachines : Type 0
TwoMachines = (x y w : List ℕ) (parts : List Part) (s t : List ℕ) → IsReadAtPlaces x parts
    → IsReadAtPlaces y parts → Replaced (its_word x w) (filled x parts) s
    → Replaced (its_word y w) (filled y parts) t → s ≡ t

-- The same for several texts per machine, with the same words in the same order.
abbrev pub TwoWordLists : Type 0
TwoWordLists = (pairs others : List Pair) (pieces : List Piece) (s t : List ℕ)
    → have_own_texts pairs ≡ true → have_own_texts others ≡ true
    → words_of pairs ≡ words_of others → AreFoundAtPlaces pairs pieces
    → AreFoundAtPlaces others pieces → Replaced pairs (written_by pairs pieces) s
    → Replaced others (written_by others pieces) t → s ≡ t

-- The laws that the functions of `laws` state.
use Rattle.std.specs.Prelude.{◌≡◌, true, ℕ, List, []}
use Rattle.dap_tree.specs.Doc.{Doc, is_sound, is_ordered, all_utf8, has_id, get}
use Rattle.dap_words.specs.Words.{Pair, have_own_texts, AreUtf8}
use Rattle.dap_words.specs.Apart.{are_apart}
use Rattle.dap_words.specs.Machines.{words_of}
use Rattle.dap_words.specs.Worded.{worded_message, names_its_kind, IsWorded, AreAlike}

-- At each path, the result has the value that `IsWorded` says.
abbrev pub WordedByPath : Type 0
WordedByPath = (pairs : List Pair) (d : Doc) → IsWorded pairs d (worded_message pairs d)

-- `type`, `command` and `event` of the message are unchanged.
abbrev pub KeepsKind : Type 0
KeepsKind = (pairs : List Pair) (d : Doc) (k : List ℕ) → names_its_kind k ≡ true
    → get k (worded_message pairs d) ≡ get k d

-- Without words nothing changes.
abbrev pub NoWords : Type 0
NoWords = (d : Doc) → worded_message [] d ≡ d

-- If no word meets a text, a second pass changes nothing.
abbrev pub WordedTwice : Type 0
WordedTwice = (pairs : List Pair) (d : Doc) → are_apart pairs ≡ true
    → worded_message pairs (worded_message pairs d) ≡ worded_message pairs d

-- Ids stay, and the message can be written if and only if it could be written before.
abbrev pub KeepsIds : Type 0
KeepsIds = (pairs : List Pair) (d : Doc) → has_id (worded_message pairs d) ≡ has_id d

abbrev pub KeepsSound : Type 0
KeepsSound = (pairs : List Pair) (d : Doc) → is_sound (worded_message pairs d) ≡ is_sound d

abbrev pub KeepsOrder : Type 0
KeepsOrder = (pairs : List Pair) (d : Doc) → is_ordered (worded_message pairs d) ≡ is_ordered d

-- Strings in UTF-8 stay in UTF-8.
abbrev pub KeepsUtf8 : Type 0
KeepsUtf8 = (pairs : List Pair) (d : Doc) → AreUtf8 pairs → all_utf8 d ≡ true
    → all_utf8 (worded_message pairs d) ≡ true

-- The messages of two machines that are equal except for texts of each machine become equal with
-- the same words in the same order.
abbrev pub TwoMachines : Type 0
TwoMachines = (pairs others : List Pair) (d e : Doc) → have_own_texts pairs ≡ true
    → have_own_texts others ≡ true → words_of pairs ≡ words_of others
    → AreAlike pairs others true d e → worded_message pairs d ≡ worded_message others e

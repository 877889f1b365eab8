-- Worked cases of the definitions, and why some actions cannot be used at one place.
use Rattle.std.proofs.Common.{◌≡◌, ℕ, true, false, List, [], ◌∷◌, refl}
use Rattle.std.specs.Prelude.{codes}
use Rattle.dap_words.specs.Digits.{digits, hex}
use Rattle.dap_words.specs.Long.{long}
use Rattle.dap_words.specs.Uuids.{uuid}
use Rattle.dap_words.specs.Words.{Pair, replaced, have_own_texts}
use Rattle.dap_words.specs.Apart.{are_apart}

-- ---- long

six_digits : long (codes "at 140023") ≡ codes "at 0"
six_digits = refl

five_digits : long (codes "at 14002") ≡ codes "at 14002"
five_digits = refl

no_decimal : long (codes "deadbeef") ≡ codes "deadbeef"
no_decimal = refl

after_letters : long (codes "ghost1a2b3c4") ≡ codes "ghost0"
after_letters = refl

two_runs : long (codes "7ffd1a-12345g") ≡ codes "0-12345g"
two_runs = refl

after_an_x : long (codes "0x7ffd9c") ≡ codes "0x0"
after_an_x = refl

-- ---- uuid

one_uuid : uuid (codes "id 550e8400-e29b-41d4-a716-44665544abcd.")
    ≡ codes "id 00000000-0000-0000-0000-000000000000."
one_uuid = refl

upper_case : uuid (codes "550E8400-E29B-41D4-A716-44665544ABCD")
    ≡ codes "00000000-0000-0000-0000-000000000000"
upper_case = refl

-- a part of a longer run, before or after
digit_before : uuid (codes "a550e8400-e29b-41d4-a716-44665544abcd")
    ≡ codes "a550e8400-e29b-41d4-a716-44665544abcd"
digit_before = refl

digit_after : uuid (codes "550e8400-e29b-41d4-a716-44665544abcd0")
    ≡ codes "550e8400-e29b-41d4-a716-44665544abcd0"
digit_after = refl

dashes_around : uuid (codes "-550e8400-e29b-41d4-a716-44665544abcd-12")
    ≡ codes "-00000000-0000-0000-0000-000000000000-12"
dashes_around = refl

short_group : uuid (codes "550e8400-e29b-41d-a716-44665544abcd")
    ≡ codes "550e8400-e29b-41d-a716-44665544abcd"
short_group = refl

-- ---- actions that cannot be used at one place: a second pass changes the text again

hex_digits : digits (hex (codes "1xA")) ≡ codes "0xA"
hex_digits = refl

hex_digits_again : digits (hex (codes "0xA")) ≡ codes "0x0"
hex_digits_again = refl

hex_long : long (hex (codes "123456x1")) ≡ codes "0x1"
hex_long = refl

hex_long_again : long (hex (codes "0x1")) ≡ codes "0x0"
hex_long_again = refl

-- ---- words

abbrev pair : List ℕ → List ℕ → Pair
pair x w = record { text = x; word = w }

abbrev two_folders : List Pair
two_folders = pair (codes "/home/a") (codes "HOME") ∷ pair (codes "/home/a/toy") (codes "TOY") ∷ []

longest_first : replaced two_folders (codes "/home/a/toy/x.py /home/a/b")
    ≡ codes "TOY/x.py HOME/b"
longest_first = refl

are_own : have_own_texts two_folders ≡ true
are_own = refl

stay_apart : are_apart two_folders ≡ true
stay_apart = refl

-- nothing is replaced in a word
not_in_a_word : replaced (pair (codes "a") (codes "aa") ∷ []) (codes "ba") ≡ codes "baa"
not_in_a_word = refl

-- from the left: the text that starts first
from_the_left : replaced (pair (codes "ab") (codes "X") ∷ pair (codes "bcd") (codes "Y") ∷ [])
    (codes "abcd") ≡ codes "Xcd"
from_the_left = refl

-- a word that is a prefix of a text: a second pass replaces that text
abbrev shrinks : List Pair
shrinks = pair (codes "ab") (codes "a") ∷ []

shrunk : replaced shrinks (codes "abb") ≡ codes "ab"
shrunk = refl

shrunk_again : replaced shrinks (codes "ab") ≡ codes "a"
shrunk_again = refl

shrinks_not_apart : are_apart shrinks ≡ false
shrinks_not_apart = refl

-- an empty word joins the bytes around its text
abbrev joins : List Pair
joins = pair (codes "ab") [] ∷ []

joined : replaced joins (codes "aabb") ≡ codes "ab"
joined = refl

joins_not_apart : are_apart joins ≡ false
joins_not_apart = refl

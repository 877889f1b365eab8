-- Examples of transcripts, computed from the definition.
use Rattle.std.proofs.Common.{◌≡◌, pos, true, false, [], ◌∷◌, refl}
use Rattle.std.specs.Prelude.{codes}
use Rattle.std.specs.{Str.chars, Char.encode_utf8, Fmt.digits}
use Rattle.json.specs.Print.{escape_byte}
use Rattle.dap_tree.specs.Doc.{Doc, null, whole, list, object, no_items}
use Rattle.dap_tree.specs.Doc.{item, no_members, member}
use Rattle.dap_transcript.specs.{Lines.part_text, Scalars.{string_text}}
use Rattle.dap_transcript.specs.{Names.{is_plain, member_name, name_text}}

-- ---- names

plain_name : is_plain (codes "threadId") ≡ true
plain_name = refl

on_is_typed : is_plain (codes "oN") ≡ false
on_is_typed = refl

exponent_is_typed : is_plain (codes "e1") ≡ false
exponent_is_typed = refl

e_is_plain : is_plain (codes "e") ≡ true
e_is_plain = refl

digit_first : is_plain (codes "1a") ≡ false
digit_first = refl

dash_is_not_plain : is_plain (codes "x-y") ≡ false
dash_is_not_plain = refl

client_is_plain : is_plain (codes "client") ≡ true
client_is_plain = refl

client_is_renamed : member_name (codes "client_") ≡ codes "client__"
client_is_renamed = refl

client_id_stays : member_name (codes "clientID") ≡ codes "clientID"
client_id_stays = refl

quoted_name : name_text (codes "e1") ≡ codes "\"e1\""
unfolding digits chars encode_utf8 escape_byte
quoted_name = refl

-- ---- scalars

-- U+2028 and U+007F in a string.
separator : string_text (97 ∷ 0xe2 ∷ 0x80 ∷ 0xa8 ∷ 0x7f ∷ []) ≡ codes "\"a\\u2028\\u007f\""
unfolding digits chars encode_utf8 escape_byte
separator = refl

-- An e with an acute accent, a quotation mark and a line feed.
other_characters : string_text (0xc3 ∷ 0xa9 ∷ 34 ∷ 10 ∷ [])
    ≡ 34 ∷ 0xc3 ∷ 0xa9 ∷ codes "\\\"\\n\""
unfolding digits chars encode_utf8 escape_byte
other_characters = refl

-- ---- values

one : Doc
one = whole (pos 1)

empty_values : part_text true 2
    (object (member (codes "a") (object no_members)
    (member (codes "b") (list no_items) no_members)))
    ≡ codes "\n    a: {}\n    b: []\n"
empty_values = refl

nested_lists : part_text true 2
    (list (item (list (item (whole (pos 1)) (item (list no_items) no_items)))
    (item (whole (pos 2)) no_items)))
    ≡ codes "\n  -\n    - 1\n    - []\n  - 2\n"
unfolding digits
nested_lists = refl

objects_in_a_list : part_text true 2
    (list (item (object (member (codes "a") (whole (pos 1))
    (member (codes "b") (list (item null no_items)) no_members)))
    (item (object no_members) no_items)))
    ≡ codes "\n  - a: 1\n    b:\n    - null\n  - {}\n"
unfolding digits
objects_in_a_list = refl

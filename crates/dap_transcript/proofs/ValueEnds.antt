-- The end of the value that a canonical text starts with.
use Rattle.std.proofs.Common.{◌≡◌, ℕ, ◌+◌, ◌-◌, ◌≤◌, true, false, List, ◌++◌, Option, None}
use Rattle.std.proofs.Common.{length, take, drop, sym, ap, ◌∙◌, arith, length-append}
use Rattle.std.proofs.lemmas.List.{length-drop, take_at}
use Rattle.dap_tree.specs.Doc.{null, boolean, whole, text, list, object, id}
use Rattle.dap_tree.specs.Json.{text_of}
use Rattle.dap_transcript.specs.Canonical.{EndsValue, opens_nest, opens_string, rest_from}
use Rattle.dap_transcript.specs.Canonical.{string_rest}
use Rattle.dap_transcript.proofs.StringRests.{quoted_rest}
use Rattle.dap_transcript.proofs.Nests.{list_left, nest_rest, object_left}
use Rattle.dap_transcript.proofs.WordTexts.{IsWord, boolean_word, null_word, number_word}
use Rattle.dap_transcript.proofs.WordTexts.{word_no_nest, word_no_string}

no_string : (t w more : List ℕ) → IsWord w → t ≡ w ++ more → opens_string t ≡ true → ⊥
no_string t w more word is opening =
    let no : true ≡ false = sym opening ∙ ap opens_string is ∙ word_no_string w more word in
    absurd (cc)

no_nest : (t w more : List ℕ) → IsWord w → t ≡ w ++ more → opens_nest t ≡ true → ⊥
no_nest t w more word is opening =
    let no : true ≡ false = sym opening ∙ ap opens_nest is ∙ word_no_nest w more word in
    absurd (cc)

pub string_ends : (t : List ℕ) (end : Option ℕ) → rest_from t end ≡ string_rest false (drop 1 t)
    → opens_string t ≡ true → EndsValue t end
string_ends t end rest opening null more is e =
    absurd (no_string t (text_of null) more null_word is opening)
string_ends t end rest opening (boolean b) more is e =
    absurd (no_string t (text_of (boolean b)) more (boolean_word b) is opening)
string_ends t end rest opening (whole z) more is e =
    absurd (no_string t (text_of (whole z)) more (number_word z) is opening)
string_ends t end rest opening (text s) more is e =
    rest ∙ ap (λ u. string_rest false (drop 1 u)) is ∙ quoted_rest s more
string_ends t end rest opening (list ds) more is e =
    let no : true ≡ false = sym opening ∙ ap opens_string is in absurd (cc)
string_ends t end rest opening (object ms) more is e =
    let no : true ≡ false = sym opening ∙ ap opens_string is in absurd (cc)
string_ends t end rest opening (id s z) more is e =
    absurd (no_string t (text_of (id s z)) more (number_word z) is opening)

pub nest_ends : (t : List ℕ) (end : Option ℕ) → rest_from t end ≡ nest_rest None 0 t
    → opens_nest t ≡ true → EndsValue t end
nest_ends t end rest opening null more is e =
    absurd (no_nest t (text_of null) more null_word is opening)
nest_ends t end rest opening (boolean b) more is e =
    absurd (no_nest t (text_of (boolean b)) more (boolean_word b) is opening)
nest_ends t end rest opening (whole z) more is e =
    absurd (no_nest t (text_of (whole z)) more (number_word z) is opening)
nest_ends t end rest opening (text s) more is e =
    let no : true ≡ false = sym opening ∙ ap opens_nest is in absurd (cc)
nest_ends t end rest opening (list ds) more is e =
    rest ∙ ap (nest_rest None 0) is ∙ list_left ds more
nest_ends t end rest opening (object ms) more is e =
    rest ∙ ap (nest_rest None 0) is ∙ object_left ms more
nest_ends t end rest opening (id s z) more is e =
    absurd (no_nest t (text_of (id s z)) more (number_word z) is opening)

-- The parts of a text that is divided at the start of the second part.
pub divided : (t front rest : List ℕ) (end : ℕ) → t ≡ front ++ rest → end ≤ length t
    → drop end t ≡ rest → take end t ≡ front
divided t front rest end is within left =
    let whole : length t ≡ length front + length rest = ap length is ∙ length-append front rest in
    let part : length t - end ≡ length rest = sym (length-drop end t) ∙ ap length left in
    let len : length front ≡ end = omega arith in
    ap (take end) is ∙ take_at front rest end len

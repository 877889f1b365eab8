-- The string and key tokens of UTF-8 text are UTF-8.
use Rattle.std.proofs.Common.{◌≡◌, ℕ, ◌<◌, List, [], ◌∷◌, ◌++◌, Bool, true, false, cond, ◌==◌}
use Rattle.std.proofs.Common.{Option, Some, None, IsUtf8, refl, sym, subst, arith, append_assoc}
use Rattle.std.proofs.lemmas.Bool.{cond_both, eqb-true}
use Rattle.std.proofs.lemmas.Str.{is_utf8-from_IsUtf8}
use Rattle.std.specs.List.{list_all}
use Rattle.std.specs.Option.{IfSome}
use Rattle.std.specs.Str.{is_utf8}
use Rattle.json.specs.Ascii as ascii
use Rattle.json.specs.Token.{Token, begin_object, end_object, begin_array, end_array, key, string}
use Rattle.json.specs.Token.{number, boolean, null, bad}
use Rattle.json.specs.Text.{content, plain}
use Rattle.json.specs.Word.{is_operator, is_space, ends_word, number_before, word}
use Rattle.json.specs.Lex.{Lexeme, token, comma, colon, Class, quote, backslash, operator, space}
use Rattle.json.specs.Lex.{other, class, operator_lexeme, string_token, Mode, between, in_word}
use Rattle.json.specs.Lex.{in_string, in_escape, lex_byte, lex, Place, fresh, after_value}
use Rattle.json.specs.Lex.{after_comma, after_key, begins_colon, may_begin, may_close, if_allowed}
use Rattle.json.specs.Lex.{place_token, punctuate, tokens}
use Rattle.dap_tree.proofs.Booleans.{and_left, and_right, and_both}
use Rattle.dap_tree.proofs.Strings.{after_ascii, string_utf8}

abbrev pub token_utf8 : Token → Bool
token_utf8 begin_object = true
token_utf8 end_object = true
token_utf8 begin_array = true
token_utf8 end_array = true
token_utf8 (key s) = is_utf8 s
token_utf8 (string s) = is_utf8 s
token_utf8 (number s) = true
token_utf8 (boolean b) = true
token_utf8 null = true
token_utf8 bad = true

abbrev pub tokens_utf8 : List Token → Bool
tokens_utf8 ts = list_all token_utf8 ts

abbrev lexeme_utf8 : Lexeme → Bool
lexeme_utf8 (token t) = token_utf8 t
lexeme_utf8 comma = true
lexeme_utf8 colon = true

abbrev lexemes_utf8 : List Lexeme → Bool
lexemes_utf8 ls = list_all lexeme_utf8 ls

-- ---- one lexeme

string_token-utf8 : (o : Option (List ℕ)) → IfSome o IsUtf8 → token_utf8 (string_token o) ≡ true
string_token-utf8 None h = refl
string_token-utf8 (Some s) h = is_utf8-from_IsUtf8 s h

either_token : (b : Bool) (t u : Token) → token_utf8 t ≡ true → token_utf8 u ≡ true
    → token_utf8 (cond b t u) ≡ true
either_token b t u h k = cond_both b t u (λ v. token_utf8 v ≡ true) (λ _. h) (λ _. k)

number-utf8 : (text : List ℕ) (o : Option (List ℕ)) → token_utf8 (number_before text o) ≡ true
number-utf8 text None = refl
number-utf8 text (Some rest) = either_token (ends_word rest) _ bad refl refl

word-utf8 : (text : List ℕ) → token_utf8 (word text) ≡ true
unfolding word
word-utf8 text = search (either_token, number-utf8)

either_lexeme : (b : Bool) (l m : Lexeme) → lexeme_utf8 l ≡ true → lexeme_utf8 m ≡ true
    → lexeme_utf8 (cond b l m) ≡ true
either_lexeme b l m h k = cond_both b l m (λ n. lexeme_utf8 n ≡ true) (λ _. h) (λ _. k)

operator-utf8 : (x : ℕ) → lexeme_utf8 (operator_lexeme x) ≡ true
operator-utf8 x = search either_lexeme

-- ---- the lexemes of a text

-- what follows a quote is UTF-8
abbrev IsAfter : Class → List ℕ → Type 0
IsAfter quote rest = IsUtf8 rest
IsAfter backslash rest = Unit {0}
IsAfter operator rest = Unit {0}
IsAfter space rest = Unit {0}
IsAfter other rest = Unit {0}

after_byte : (x : ℕ) (rest : List ℕ) → (x < 128 → IsUtf8 rest) → IsAfter (class x) rest
after_byte x rest utf8 =
    let either : (b : Bool) (c d : Class) → (b ≡ true → IsAfter c rest)
    → (b ≡ false → IsAfter d rest)
    → IsAfter (cond b c d) rest = λ b c d. cond_both b c d (λ e. IsAfter e rest) in
    either (x == ascii.quote) quote _ (λ is. utf8 (omega (arith, eqb-true x ascii.quote is)))
    (λ _. either (x == ascii.backslash) backslash _ (λ _. tt)
    (λ _. either (is_operator x) operator _ (λ _. tt)
    (λ _. either (is_space x) space other (λ _. tt) (λ _. tt))))

byte-utf8 : (m : Mode) (c : Class) (x : ℕ) (rest : List ℕ) (k : Mode → List Lexeme) → IsAfter c rest
    → ((n : Mode) → lexemes_utf8 (k n) ≡ true) → lexemes_utf8 (lex_byte m c x rest k) ≡ true
byte-utf8 between quote x rest k u h =
    and_both _ _ (string_token-utf8 (content plain rest) (string_utf8 rest u)) (h in_string)
byte-utf8 between backslash x rest k u h = h in_word
byte-utf8 between operator x rest k u h = and_both _ _ (operator-utf8 x) (h between)
byte-utf8 between space x rest k u h = h between
byte-utf8 between other x rest k u h = and_both _ _ (word-utf8 (x ∷ rest)) (h in_word)
byte-utf8 in_word quote x rest k u h = h in_word
byte-utf8 in_word backslash x rest k u h = h in_word
byte-utf8 in_word operator x rest k u h = and_both _ _ (operator-utf8 x) (h between)
byte-utf8 in_word space x rest k u h = h between
byte-utf8 in_word other x rest k u h = h in_word
byte-utf8 in_string quote x rest k u h = h between
byte-utf8 in_string backslash x rest k u h = h in_escape
byte-utf8 in_string operator x rest k u h = h in_string
byte-utf8 in_string space x rest k u h = h in_string
byte-utf8 in_string other x rest k u h = h in_string
byte-utf8 in_escape c x rest k u h = h in_string

lex-utf8 : (m : Mode) (front rest : List ℕ) → IsUtf8 (front ++ rest)
    → lexemes_utf8 (lex m rest) ≡ true
unfolding lex
lex-utf8 m front [] u = refl
lex-utf8 m front (x ∷ xs) u =
    byte-utf8 m (class x) x xs (λ next. lex next xs)
    (after_byte x xs (λ low. after_ascii front xs x low u))
    (λ next. lex-utf8 next (front ++ x ∷ []) xs
    (subst IsUtf8 (sym (append_assoc front (x ∷ []) xs)) u))

-- ---- commas and colons

if_allowed-utf8 : (b : Bool) (t : Token) (k : Place → List Token) (next : Place)
    → token_utf8 t ≡ true → ((p : Place) → tokens_utf8 (k p) ≡ true)
    → tokens_utf8 (if_allowed b t k next) ≡ true
if_allowed-utf8 true t k next h rest = and_both _ _ h (rest next)
if_allowed-utf8 false t k next h rest = refl

place_token-utf8 : (p : Place) (t : Token) (before_colon : Bool) (k : Place → List Token)
    → token_utf8 t ≡ true → ((q : Place) → tokens_utf8 (k q) ≡ true)
    → tokens_utf8 (place_token p t before_colon k) ≡ true
place_token-utf8 p begin_object before_colon k h rest =
    if_allowed-utf8 (may_begin p) begin_object k fresh h rest
place_token-utf8 p end_object before_colon k h rest =
    if_allowed-utf8 (may_close p) end_object k after_value h rest
place_token-utf8 p begin_array before_colon k h rest =
    if_allowed-utf8 (may_begin p) begin_array k fresh h rest
place_token-utf8 p end_array before_colon k h rest =
    if_allowed-utf8 (may_close p) end_array k after_value h rest
place_token-utf8 p (key s) before_colon k h rest = refl
place_token-utf8 p (string s) true k h rest =
    if_allowed-utf8 (may_begin p) (key s) k after_key h rest
place_token-utf8 p (string s) false k h rest =
    if_allowed-utf8 (may_begin p) (string s) k after_value h rest
place_token-utf8 p (number s) before_colon k h rest =
    if_allowed-utf8 (may_begin p) (number s) k after_value h rest
place_token-utf8 p (boolean b) before_colon k h rest =
    if_allowed-utf8 (may_begin p) (boolean b) k after_value h rest
place_token-utf8 p null before_colon k h rest =
    if_allowed-utf8 (may_begin p) null k after_value h rest
place_token-utf8 p bad before_colon k h rest = refl

lexeme_token-utf8 : (p : Place) (t : Token) (ls : List Lexeme) (k : Place → List Token)
    → lexemes_utf8 (token t ∷ ls) ≡ true
    → ((q : Place) → lexemes_utf8 ls ≡ true → tokens_utf8 (k q) ≡ true)
    → tokens_utf8 (place_token p t (begins_colon ls) k) ≡ true
lexeme_token-utf8 p t ls k h rest =
    place_token-utf8 p t (begins_colon ls) k (and_left (token_utf8 t) (lexemes_utf8 ls) h)
    (λ q. rest q (and_right (token_utf8 t) (lexemes_utf8 ls) h))

punctuate-utf8 : (p : Place) (ls : List Lexeme) → lexemes_utf8 ls ≡ true
    → tokens_utf8 (punctuate p ls) ≡ true
unfolding punctuate
punctuate-utf8 fresh [] h = refl
punctuate-utf8 after_value [] h = refl
punctuate-utf8 after_comma [] h = refl
punctuate-utf8 after_key [] h = refl
punctuate-utf8 fresh (token t ∷ ls) h = lexeme_token-utf8 fresh t ls _ h (λ q. punctuate-utf8 q ls)
punctuate-utf8 after_value (token t ∷ ls) h =
    lexeme_token-utf8 after_value t ls _ h (λ q. punctuate-utf8 q ls)
punctuate-utf8 after_comma (token t ∷ ls) h =
    lexeme_token-utf8 after_comma t ls _ h (λ q. punctuate-utf8 q ls)
punctuate-utf8 after_key (token t ∷ ls) h =
    lexeme_token-utf8 after_key t ls _ h (λ q. punctuate-utf8 q ls)
punctuate-utf8 fresh (comma ∷ ls) h = refl
punctuate-utf8 after_value (comma ∷ ls) h = punctuate-utf8 after_comma ls h
punctuate-utf8 after_comma (comma ∷ ls) h = refl
punctuate-utf8 after_key (comma ∷ ls) h = refl
punctuate-utf8 fresh (colon ∷ ls) h = refl
punctuate-utf8 after_value (colon ∷ ls) h = refl
punctuate-utf8 after_comma (colon ∷ ls) h = refl
punctuate-utf8 after_key (colon ∷ ls) h = punctuate-utf8 fresh ls h

pub text_tokens-utf8 : (text : List ℕ) → IsUtf8 text → tokens_utf8 (tokens text) ≡ true
text_tokens-utf8 text u = punctuate-utf8 fresh (lex between text) (lex-utf8 between [] text u)

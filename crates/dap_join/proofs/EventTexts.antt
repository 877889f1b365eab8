-- The text `event` of a document occurs in its content, unless an escape `\u` does.
use Rattle.std.proofs.Common.{◌≡◌, ◌≢◌, ◌∙◌, ℕ, suc, ◌+◌, ◌-◌, ◌<◌, ◌≤◌, ◌==◌, ◌&&◌, Bool, true}
use Rattle.std.proofs.Common.{false, cond, List, [], ◌∷◌, ◌++◌, drop, take, length, get_or}
use Rattle.std.proofs.Common.{Option, Some, None, is_some, option_map, option_and_then, IfSome}
use Rattle.std.proofs.Common.{Ordering, Less, Equal, Greater, nat_cmp, nat_eq, nat_lt, bytes_eq}
use Rattle.std.proofs.Common.{codes, refl, sym, ap, subst, inl, inr, arith, rules, append-nil}
use Rattle.std.proofs.Common.{length-append, length-drop}
use Rattle.std.specs.Prelude.{⊤}
use Rattle.std.specs.Ordering.{match_ordering}
use Rattle.std.specs.Cmp.Lexicographic.{slice_cmp}
use Rattle.std.specs.List.{AllByRecursion, starts_with}
use Rattle.std.proofs.lemmas.Bool.{eqb-true}
use Rattle.std.proofs.lemmas.List.{get_or-drop, get_or_append_left}
use Rattle.std.proofs.lemmas.Slice.Eq.{bytes_eq-Decides}
use Rattle.memchr.specs.Find.{FindsNeedle}
use Rattle.json.specs.Token.{Token, begin_object, end_object, begin_array, end_array, key, string}
use Rattle.json.specs.Token.{number, boolean, null, bad}
use Rattle.json.specs.Text.{content, plain, after_backslash, after_u, prepend, short_escape}
use Rattle.json.specs.Ascii.{true_text, false_text, null_text}
use Rattle.json.specs.Word.{after_number, ends_word, head, literal, number_before, word}
use Rattle.json.specs.Lex.{Lexeme, token, comma, colon, Class, quote, backslash, operator, space}
use Rattle.json.specs.Lex.{other, class, operator_lexeme, string_token, Mode, between, in_word}
use Rattle.json.specs.Lex.{in_string, in_escape, lex_byte, lex, Place, fresh, after_value}
use Rattle.json.specs.Lex.{after_comma, after_key, begins_colon, may_begin, may_close, if_allowed}
use Rattle.json.specs.Lex.{place_token, punctuate, tokens}
use Rattle.json.specs.Json as json
use Rattle.json.specs.Json.{value}
use Rattle.json.specs.Tree.{json_tokens, members_tokens}
use Rattle.json.proofs.Unique.Spelling.{value-json_tokens_back}
use Rattle.serde_json.specs.Data as values
use Rattle.serde_json.specs.Read.{number_of, of_json, of_items, of_members, max_depth, read}
use Rattle.dap_tree.specs.Doc as doc
use Rattle.dap_tree.specs.Doc.{Doc, get_member}
use Rattle.dap_tree.specs.Json.{Outcome, HasOutcome, IsRead, data_of, members_data}
use Rattle.dap_tree.specs.Json as reading
use Rattle.dap_tree.specs.declared.side.Side.{Side}
use Rattle.dap_tree.specs.declared.side.Side.TheVariants.{Adapter}
use Rattle.dap_tree.proofs.Outcomes.{some_outcome, whole_or_fraction}
use Rattle.dap_profile.specs.declared.profile.Kind.TheVariants.{Event}
use Rattle.dap_message.specs.Rows.{is_of_kind, is_text, name_key}
use Rattle.dap_join.specs.JoiningSteps.{IsNoEvent}
use Rattle.dap_join.specs.Outputs.{IsPart, part_of}
use Rattle.dap_join.specs.Outputs as outputs

-- The bytes do not occur in the content.
abbrev pub Lacks : List ℕ → List ℕ → Type 0
Lacks part content = (k : ℕ) (rest : List ℕ) → drop k content ≡ part ++ rest → ⊥

later : (part xs : List ℕ) (x : ℕ) → Lacks part (x ∷ xs) → Lacks part xs
later part xs x lacks k rest is = lacks (suc k) rest is

abbrev pub escape : List ℕ
escape = 92 ∷ 117 ∷ []

abbrev event : List ℕ
event = codes "event"

-- The word and the quote that ends it.
abbrev pub event_end : List ℕ
event_end = event ++ 34 ∷ []

-- ---- the content of a string

-- The character of a short escape is not a letter.
short_is_small : (y c : ℕ) → short_escape y ≡ Some c → c < 97
unfolding short_escape
short_is_small y c is = grind arith

abbrev AreLetters : List ℕ → Type 0
AreLetters w = AllByRecursion (λ c. 97 ≤ c) w

module _ (w : List ℕ) (letters : AreLetters w) where
  first_is_letter : (c : ℕ) (o : Option (List ℕ)) → c < 97 → prepend (c ∷ []) o ≡ Some w → ⊥
  first_is_letter c None small is = absurd cc
  first_is_letter c (Some s) small is =
      let all : AreLetters (c ∷ s) = subst AreLetters (sym (same (c ∷ s) is)) letters in
      let first = all.0 in omega (arith, first)
    where
      same : (s : List ℕ) → Some s ≡ Some w → s ≡ w
      same s is = cc

  no_escape : (xs : List ℕ) → Lacks escape (92 ∷ xs) → content after_backslash xs ≡ Some w → ⊥
  unfolding content
  no_escape [] lacks is = absurd cc
  no_escape (y ∷ ys) lacks is = at (y == 117) (short_escape y) refl refl is
    where
      at : (b : Bool) (o : Option ℕ) → (y == 117) ≡ b → short_escape y ≡ o
          → cond b (content after_u ys)
          (option_and_then (λ c. prepend (c ∷ []) (content plain ys)) o) ≡ Some w → ⊥
      at true o is_u short is = lacks 0 ys (ap (λ z. 92 ∷ z ∷ ys) (eqb-true y 117 is_u))
      at false None is_u short is = absurd cc
      at false (Some c) is_u short is =
          first_is_letter c (content plain ys) (short_is_small y c short) is

spelled : (xs w : List ℕ) → AreLetters w → Lacks escape xs → content plain xs ≡ Some w
    → (rest : List ℕ) × (xs ≡ w ++ 34 ∷ rest)
unfolding content
spelled [] w letters lacks is = absurd cc
spelled (x ∷ xs) w letters lacks is =
    at w letters (x == 34) (x == 92) (nat_lt x 32) (content plain xs) refl refl
    (λ v all e. spelled xs v all (later escape xs x lacks) e) is
  where
    more : (o : Option (List ℕ)) (w : List ℕ) → AreLetters w
        → ((v : List ℕ) → AreLetters v → o ≡ Some v → (rest : List ℕ) × (xs ≡ v ++ 34 ∷ rest))
        → prepend (x ∷ []) o ≡ Some w → (rest : List ℕ) × (x ∷ xs ≡ w ++ 34 ∷ rest)
    more None w letters again is = absurd cc
    more (Some s) [] letters again is = absurd cc
    more (Some s) (y ∷ w) letters again is =
        let first : x ≡ y = cc in
        let tails : Some s ≡ Some w = cc in
        let found = again w letters.1 tails in
        (found.0, ap (λ zs. x ∷ zs) found.1 ∙ ap (λ z. z ∷ (w ++ 34 ∷ found.0)) first)

    at : (w : List ℕ) → AreLetters w → (q b n : Bool) (o : Option (List ℕ)) → (x == 34) ≡ q
        → (x == 92) ≡ b
        → ((v : List ℕ) → AreLetters v → o ≡ Some v → (rest : List ℕ) × (xs ≡ v ++ 34 ∷ rest))
        → cond q (Some []) (cond b (content after_backslash xs)
        (cond n None (prepend (x ∷ []) o))) ≡ Some w
        → (rest : List ℕ) × (x ∷ xs ≡ w ++ 34 ∷ rest)
    at [] letters true b n o is_q is_b again is = (xs, ap (λ z. z ∷ xs) (eqb-true x 34 is_q))
    at (y ∷ w) letters true b n o is_q is_b again is = absurd cc
    at w letters false true n o is_q is_b again is =
        absurd (no_escape w letters xs
        (subst (λ z. Lacks escape (z ∷ xs)) (eqb-true x 92 is_b) lacks) is)
    at w letters false false true o is_q is_b again is = absurd cc
    at w letters false false false o is_q is_b again is = more o w letters again is

-- ---- the tokens of a content

abbrev Differs : Token → Type 0
Differs begin_object = ⊤
Differs end_object = ⊤
Differs begin_array = ⊤
Differs end_array = ⊤
Differs (key s) = ⊤
Differs (string s) = s ≢ event
Differs (number s) = ⊤
Differs (boolean b) = ⊤
Differs null = ⊤
Differs bad = ⊤

abbrev AllDiffer : List Token → Type 0
AllDiffer = AllByRecursion Differs

abbrev LexemeDiffers : Lexeme → Type 0
LexemeDiffers (token t) = Differs t
LexemeDiffers comma = ⊤
LexemeDiffers colon = ⊤

abbrev LexemesDiffer : List Lexeme → Type 0
LexemesDiffer = AllByRecursion LexemeDiffers

either : {A : Type 0} (P : A → Type 0) (b : Bool) (x y : A) → P x → P y → P (cond b x y)
either P true x y p q = p
either P false x y p q = q

string_differs : (xs : List ℕ) → Lacks escape xs → Lacks event_end xs
    → Differs (string_token (content plain xs))
string_differs xs no_escapes no_event = at (content plain xs) refl
  where
    at : (o : Option (List ℕ)) → content plain xs ≡ o → Differs (string_token o)
    at None is = tt
    at (Some s) is = λ same.
        let found = spelled xs event (search rules) no_escapes (is ∙ ap Some same) in
        no_event 0 found.0 found.1

literal_differs : (name : List ℕ) (k : Token) (t : List ℕ) → Differs k → Differs (literal name k t)
literal_differs name k t differs =
    either Differs (starts_with nat_eq t name && ends_word (drop (length name) t)) k bad differs tt

word_differs : (t : List ℕ) → Differs (word t)
unfolding word
word_differs t =
    either Differs (head t == 116) _ _ (literal_differs true_text (boolean true) t tt)
    (either Differs (head t == 102) _ _ (literal_differs false_text (boolean false) t tt)
    (either Differs (head t == 110) _ _ (literal_differs null_text null t tt)
    (numbers (after_number t))))
  where
    numbers : (o : Option (List ℕ)) → Differs (number_before t o)
    numbers None = tt
    numbers (Some rest) =
        either Differs (ends_word rest) (number (take (length t - length rest) t)) bad tt tt

mark_differs : (x : ℕ) → LexemeDiffers (operator_lexeme x)
mark_differs x =
    either LexemeDiffers (x == 123) (token begin_object) _ tt
    (either LexemeDiffers (x == 125) (token end_object) _ tt
    (either LexemeDiffers (x == 91) (token begin_array) _ tt
    (either LexemeDiffers (x == 93) (token end_array) _ tt
    (either LexemeDiffers (x == 44) comma colon tt tt))))

byte : (m : Mode) (c : Class) (x : ℕ) (xs : List ℕ) (k : Mode → List Lexeme)
    → Differs (string_token (content plain xs)) → ((n : Mode) → LexemesDiffer (k n))
    → LexemesDiffer (lex_byte m c x xs k)
byte between quote x xs k s h = (s, h in_string)
byte between backslash x xs k s h = (tt, h in_word)
byte between operator x xs k s h = (mark_differs x, h between)
byte between space x xs k s h = h between
byte between other x xs k s h = (word_differs (x ∷ xs), h in_word)
byte in_word quote x xs k s h = h in_word
byte in_word backslash x xs k s h = h in_word
byte in_word operator x xs k s h = (mark_differs x, h between)
byte in_word space x xs k s h = h between
byte in_word other x xs k s h = h in_word
byte in_string quote x xs k s h = h between
byte in_string backslash x xs k s h = h in_escape
byte in_string operator x xs k s h = h in_string
byte in_string space x xs k s h = h in_string
byte in_string other x xs k s h = h in_string
byte in_escape c x xs k s h = h in_string

lexemes_differ : (xs : List ℕ) (m : Mode) → Lacks escape xs → Lacks event_end xs
    → LexemesDiffer (lex m xs)
unfolding lex
lexemes_differ [] m no_escapes no_event = tt
lexemes_differ (x ∷ xs) m no_escapes no_event =
    let escapes = later escape xs x no_escapes in
    let events = later event_end xs x no_event in
    byte m (class x) x xs (λ n. lex n xs) (string_differs xs escapes events)
    (λ n. lexemes_differ xs n escapes events)

allowed : (b : Bool) (t : Token) (k : Place → List Token) (next : Place) → Differs t
    → AllDiffer (k next) → AllDiffer (if_allowed b t k next)
allowed true t k next p q = (p, q)
allowed false t k next p q = (tt, tt)

placed : (p : Place) (t : Token) (b : Bool) (k : Place → List Token) → Differs t
    → ((n : Place) → AllDiffer (k n)) → AllDiffer (place_token p t b k)
placed p begin_object b k q h = allowed (may_begin p) begin_object k fresh q (h fresh)
placed p end_object b k q h = allowed (may_close p) end_object k after_value q (h after_value)
placed p begin_array b k q h = allowed (may_begin p) begin_array k fresh q (h fresh)
placed p end_array b k q h = allowed (may_close p) end_array k after_value q (h after_value)
placed p (key s) b k q h = (tt, tt)
placed p (string s) true k q h = allowed (may_begin p) (key s) k after_key tt (h after_key)
placed p (string s) false k q h = allowed (may_begin p) (string s) k after_value q (h after_value)
placed p (number s) b k q h = allowed (may_begin p) (number s) k after_value q (h after_value)
placed p (boolean v) b k q h = allowed (may_begin p) (boolean v) k after_value q (h after_value)
placed p null b k q h = allowed (may_begin p) null k after_value q (h after_value)
placed p bad b k q h = (tt, tt)

tokens_differ : (ls : List Lexeme) → LexemesDiffer ls → (p : Place) → AllDiffer (punctuate p ls)
unfolding punctuate
tokens_differ [] h fresh = tt
tokens_differ [] h after_value = tt
tokens_differ [] h after_comma = (tt, tt)
tokens_differ [] h after_key = (tt, tt)
tokens_differ (token t ∷ ls) h p =
    placed p t (begins_colon ls) (λ n. punctuate n ls) h.0 (tokens_differ ls h.1)
tokens_differ (comma ∷ ls) h fresh = (tt, tt)
tokens_differ (comma ∷ ls) h after_value = tokens_differ ls h.1 after_comma
tokens_differ (comma ∷ ls) h after_comma = (tt, tt)
tokens_differ (comma ∷ ls) h after_key = (tt, tt)
tokens_differ (colon ∷ ls) h fresh = (tt, tt)
tokens_differ (colon ∷ ls) h after_value = (tt, tt)
tokens_differ (colon ∷ ls) h after_comma = (tt, tt)
tokens_differ (colon ∷ ls) h after_key = tokens_differ ls h.1 fresh

-- ---- the document

abbrev mutual
  HasNone : values.Data → Type 0
  HasNone values.null = ⊤
  HasNone (values.boolean b) = ⊤
  HasNone (values.number n) = ⊤
  HasNone (values.string s) = s ≢ event
  HasNone (values.array ds) = ⊤
  HasNone (values.object ms) = MembersHaveNone ms

  MembersHaveNone : values.Members → Type 0
  MembersHaveNone values.no_members = ⊤
  MembersHaveNone (values.member k d ms) = HasNone d × MembersHaveNone ms

one_of : (o : Ordering) (a b c : values.Members) → MembersHaveNone a → MembersHaveNone b
    → MembersHaveNone c → MembersHaveNone (match_ordering o a b c)
one_of Less a b c p q r = p
one_of Equal a b c p q r = q
one_of Greater a b c p q r = r

put_none : (k : List ℕ) (d : values.Data) (ms : values.Members) → HasNone d → MembersHaveNone ms
    → MembersHaveNone (values.put k d ms)
put_none k d values.no_members p q = (p, tt)
put_none k d (values.member l e ms) p q =
    one_of (slice_cmp nat_cmp k l) (values.member k d (values.member l e ms)) (values.member l d ms)
    (values.member l e (values.put k d ms)) (p, q) (p, q.1) (q.0, put_none k d ms p q.1)

mapped : {A B : Type 0} (P : B → Type 0) (f : A → B) → ((a : A) → P (f a)) → (o : Option A)
    → IfSome (option_map f o) P
mapped P f each None = tt
mapped P f each (Some a) = each a

split : (ts us : List Token) → AllDiffer (ts ++ us) → AllDiffer ts × AllDiffer us
split [] us h = (tt, h)
split (t ∷ ts) us h = let rest = split ts us h.1 in ((h.0, rest.0), rest.1)

mutual
  has_none : (j : json.Json) → AllDiffer (json_tokens j) → IfSome (of_json j) HasNone
  has_none json.null h = tt
  has_none (json.boolean b) h = tt
  has_none (json.number s) h = mapped HasNone values.number (λ n. tt) (number_of s)
  has_none (json.string s) h = h.0
  has_none (json.array js) h = mapped HasNone values.array (λ ds. tt) (of_items js)
  has_none (json.object ms) h =
      objects (of_members ms values.no_members) (members_have_none ms values.no_members h.1 tt)
    where
      objects : (o : Option values.Members) → IfSome o MembersHaveNone
          → IfSome (option_map values.object o) HasNone
      objects None none = tt
      objects (Some found) none = none

  members_have_none : (ms : json.Members) (found : values.Members)
      → AllDiffer (members_tokens ms) → MembersHaveNone found
      → IfSome (of_members ms found) MembersHaveNone
  members_have_none json.no_members found h none = none
  members_have_none (json.member k j ms) found h none =
      let parts = split (json_tokens j) (members_tokens ms) h.1 in
      at (of_json j) (has_none j parts.0)
      (λ d p. members_have_none ms (values.put k d found) parts.1 (put_none k d found p none))
    where
      at : (o : Option values.Data) → IfSome o HasNone
          → ((d : values.Data) → HasNone d
          → IfSome (of_members ms (values.put k d found)) MembersHaveNone)
          → IfSome (option_and_then (λ d. of_members ms (values.put k d found)) o) MembersHaveNone
      at None p next = tt
      at (Some d) p next = next d p

read_none : (xs : List ℕ) → AllDiffer (tokens xs) → IfSome (read xs) HasNone
read_none xs differ = at (value max_depth (tokens xs)) refl
  where
    at : (o : Option (json.Json × List Token)) → value max_depth (tokens xs) ≡ o
        → IfSome (option_and_then of_json (option_and_then (λ p. json.if_last p.0 p.1) o)) HasNone
    at None is = tt
    at (Some (j, [])) is =
        has_none j (subst AllDiffer
        (value-json_tokens_back max_depth (tokens xs) [] j is ∙ append-nil (json_tokens j)) differ)
    at (Some (j, t ∷ ts)) is = tt

text_is_other : (s : List ℕ) (b : Bool) → bytes_eq event s ≡ b → s ≢ event → b ≡ false
text_is_other s true is differs = absurd (differs (sym ((bytes_eq-Decides event s).0 is)))
text_is_other s false is differs = refl

one_other : (d : Doc) → HasNone (data_of d) → is_text event (Some d) ≡ false
one_other doc.null none = refl
one_other (doc.boolean b) none = refl
one_other (doc.whole z) none = refl
one_other (doc.text s) none = text_is_other s (bytes_eq event s) refl none
one_other (doc.list ds) none = refl
one_other (doc.object ms) none = refl
one_other (doc.id s z) none = refl

found_other : (k : List ℕ) (ms : doc.Members) → MembersHaveNone (members_data ms)
    → is_text event (get_member k ms) ≡ false
found_other k doc.no_members none = refl
found_other k (doc.member l e ms) none =
    chosen (slice_cmp nat_cmp k l) (found_other k ms none.1) (one_other e none.0)
  where
    chosen : (o : Ordering) → is_text event (get_member k ms) ≡ false
        → is_text event (Some e) ≡ false
        → is_text event (match_ordering o (get_member k ms) (Some e) (get_member k ms)) ≡ false
    chosen Less rest here = rest
    chosen Equal rest here = here
    chosen Greater rest here = rest

no_kind : (d : Doc) → HasNone (data_of d) → is_of_kind Event d ≡ false
no_kind doc.null none = refl
no_kind (doc.boolean b) none = refl
no_kind (doc.whole z) none = refl
no_kind (doc.text s) none = refl
no_kind (doc.list ds) none = refl
no_kind (doc.object ms) none = found_other (codes "type") ms none
no_kind (doc.id s z) none = refl

pub no_event : (xs : List ℕ) → Lacks escape xs → Lacks event_end xs → IsNoEvent xs
no_event xs no_escapes no_events d is =
    let differ =
    tokens_differ (lex between xs) (lexemes_differ xs between no_escapes no_events) fresh in
    no_kind d (subst (λ o. IfSome o HasNone) is.0.1 (read_none xs differ))

-- ---- searches

pub lacks_unfound : (xs part : List ℕ) (found : Option ℕ) → 0 < length part
    → FindsNeedle xs part 0 found → is_some found ≡ false → Lacks part xs
lacks_unfound xs part (Some at) some finds none k rest is = absurd cc
lacks_unfound xs part None some never none k rest is =
    let long : length xs - k ≡ length part + length rest =
    sym (length-drop k xs) ∙ ap length is ∙ length-append part rest in
    let within : k + length part ≤ length xs = omega arith in
    never k (omega arith) (omega arith) (record {
      fits = within;
      reads = λ j less. sym (get_or-drop k xs j 0) ∙ ap (λ l. get_or l j 0) is
          ∙ get_or_append_left part rest 0 j less;
    })

-- ---- what a record is for joining

pub no_event_is_other : (d : Doc) → is_of_kind Event d ≡ false → part_of Adapter d ≡ outputs.other
no_event_is_other d none =
    ap (λ b. outputs.part_with (cond b (outputs.output_with d (doc.get (codes "body") d)) None) d)
    (named (codes "output"))
    ∙ ap (λ b. cond b outputs.stopped outputs.other) (named (codes "stopped"))
  where
    named : (name : List ℕ) → outputs.is_event name d ≡ false
    named name = ap (λ b. b && is_text name (doc.get (name_key Event) d)) none

pub not_output : (side : Side) (bytes : List ℕ)
    → ((d : Doc) → IsRead bytes d → part_of side d ≡ outputs.other)
    → IsPart (side, bytes) outputs.other
not_output side bytes each = by_outcome (some_outcome bytes).0 (some_outcome bytes).1
  where
    by_outcome : (o : Outcome) → HasOutcome bytes o → IsPart (side, bytes) outputs.other
    by_outcome (reading.document d) read = inl (d, read, sym (each d read))
    by_outcome reading.no_reading none = inr (λ d read. none (data_of d) read.0, refl)
    by_outcome reading.fraction float =
        inr (λ d read. whole_or_fraction bytes d read float, refl)

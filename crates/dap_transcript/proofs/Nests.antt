-- What follows an array or object: the text after the bracket that closes it.
use Rattle.std.proofs.Common.{◌≡◌, ℕ, ◌+◌, ◌-◌, ◌<◌, ◌==◌, true, false, cond, Bool}
use Rattle.std.proofs.Common.{◌||◌, not, List, [], ◌∷◌, ◌++◌, Option, Some, None, length, drop}
use Rattle.std.proofs.Common.{get_or, refl, ap, ◌∙◌, arith, append_assoc}
use Rattle.std.proofs.lemmas.Bool.{and_parts, lt-leb, not-true, or_parts}
use Rattle.std.proofs.lemmas.Bool.{cond-false}
use Rattle.std.proofs.lemmas.List.{drop_more}
use Rattle.std.specs.Prelude.{nat_le}
use Rattle.std.specs.{List.list_all, Option.option_and_then}
use Rattle.json.specs.Print.{quoted}
use Rattle.serde_json.specs.Written.{comma_if, items_text, members_text}
use Rattle.dap_tree.specs.Doc.{Doc, null, boolean, whole, text, list, object, id, Items, no_items}
use Rattle.dap_tree.specs.Doc.{item, Members, no_members, member}
use Rattle.dap_tree.specs.Json.{text_of, items_data, members_data}
use Rattle.dap_transcript.specs.Canonical.{ends_value, string_rest}
use Rattle.dap_transcript.proofs.StringRests.{quoted_rest}
use Rattle.dap_transcript.proofs.WordTexts.{is_mark, boolean_word, null_word, number_word}

abbrev pub opens : ℕ → Bool
opens b = (b == 91) || (b == 123)

abbrev pub closes : ℕ → Bool
closes b = (b == 93) || (b == 125)

-- What follows the last of `depth` open arrays and objects. The state is `Some` inside of a string:
-- whether a backslash escapes the next byte.
abbrev pub nest_rest : Option Bool → ℕ → List ℕ → Option (List ℕ)
nest_rest state depth [] = None
nest_rest (Some true) depth (b ∷ s) = nest_rest (Some false) depth s
nest_rest (Some false) depth (b ∷ s) =
    cond (b == 34) (nest_rest None depth s) (nest_rest (Some (b == 92)) depth s)
nest_rest None depth (b ∷ s) =
    cond (b == 34) (nest_rest (Some false) depth s)
    (cond (opens b) (nest_rest None (depth + 1) s)
    (cond (closes b) (cond (nat_le depth 1) (Some s) (nest_rest None (depth - 1) s))
    (nest_rest None depth s)))

-- What follows after a bracket at this depth is closed.
abbrev pub closed : ℕ → List ℕ → Option (List ℕ)
closed depth s = cond (nat_le depth 1) (Some s) (nest_rest None (depth - 1) s)

-- ---- a string

at_quote : {A B : Type 0} (f : A → Option B) (b : Bool) (x : A) (o : Option B) (p : Option A)
    → o ≡ option_and_then f p → cond b (f x) o ≡ option_and_then f (cond b (Some x) p)
at_quote f true x o p h = refl
at_quote f false x o p h = h

string_inside : (escaped : Bool) (n : ℕ) (s : List ℕ)
    → nest_rest (Some escaped) n s ≡ option_and_then (nest_rest None n) (string_rest escaped s)
string_inside true n [] = refl
string_inside false n [] = refl
string_inside true n (b ∷ s) = string_inside false n s
string_inside false n (b ∷ s) =
    at_quote (nest_rest None n) (b == 34) s (nest_rest (Some (b == 92)) n s)
    (string_rest (b == 92) s) (string_inside (b == 92) n s)

quoted_passed : (n : ℕ) (s rest : List ℕ)
    → nest_rest None n (quoted s ++ rest) ≡ nest_rest None n rest
quoted_passed n s rest =
    string_inside false n (drop 1 (quoted s ++ rest))
    ∙ ap (option_and_then (nest_rest None n)) (quoted_rest s rest)

-- ---- a number or a word

other_passed : (n b : ℕ) (s : List ℕ) → (b == 34) ≡ false → opens b ≡ false → closes b ≡ false
    → nest_rest None n (b ∷ s) ≡ nest_rest None n s
other_passed n b s quote opening closing = rw (quote, opening, closing) refl

mark_passed : (n b : ℕ) (s : List ℕ) → is_mark b ≡ false
    → nest_rest None n (b ∷ s) ≡ nest_rest None n s
mark_passed n b s h =
    let first = or_parts (b == 34) (opens b || ends_value (b ∷ [])) h in
    let second = or_parts (opens b) (ends_value (b ∷ [])) first.1 in
    let third = or_parts (b == 44) (closes b) second.1 in
    other_passed n b s first.0 second.0 third.1

word_passed : (n : ℕ) (w rest : List ℕ) → list_all (λ b. not (is_mark b)) w ≡ true
    → nest_rest None n (w ++ rest) ≡ nest_rest None n rest
word_passed n [] rest h = refl
word_passed n (b ∷ w) rest h =
    let parts = and_parts (not (is_mark b)) (list_all (λ c. not (is_mark c)) w) h in
    mark_passed n b (w ++ rest) (not-true (is_mark b) parts.0) ∙ word_passed n w rest parts.1

-- ---- an array or object

comma_passed : (later : Bool) (n : ℕ) (s : List ℕ)
    → nest_rest None n (comma_if later ++ s) ≡ nest_rest None n s
comma_passed true n s = refl
comma_passed false n s = refl

-- Inside of other arrays and objects.
closed_inside : (n : ℕ) (rest : List ℕ) → 0 < n → closed (n + 1) rest ≡ nest_rest None n rest
closed_inside n rest h =
    let same : n + 1 - 1 ≡ n = omega arith in
    cond-false (nat_le (n + 1) 1) (Some rest) (nest_rest None (n + 1 - 1) rest)
    (lt-leb (n + 1) 1 (omega arith))
    ∙ ap (λ m. nest_rest None m rest) same

mutual
  value_passed : (d : Doc) (n : ℕ) (rest : List ℕ) → 0 < n
      → nest_rest None n (text_of d ++ rest) ≡ nest_rest None n rest
  value_passed null n rest h = word_passed n (text_of null) rest null_word.bytes
  value_passed (boolean b) n rest h =
      word_passed n (text_of (boolean b)) rest (boolean_word b).bytes
  value_passed (whole z) n rest h = word_passed n (text_of (whole z)) rest (number_word z).bytes
  value_passed (text s) n rest h = quoted_passed n s rest
  value_passed (list ds) n rest h =
      items_passed ds false (n + 1) rest (omega arith) ∙ closed_inside n rest h
  value_passed (object ms) n rest h =
      members_passed ms false (n + 1) rest (omega arith) ∙ closed_inside n rest h
  value_passed (id s z) n rest h = word_passed n (text_of (id s z)) rest (number_word z).bytes

  items_passed : (ds : Items) (later : Bool) (n : ℕ) (rest : List ℕ) → 0 < n
      → nest_rest None n (items_text later (items_data ds) ++ rest) ≡ closed n rest
  items_passed no_items later n rest h = refl
  items_passed (item d ds) later n rest h =
      let left = items_text true (items_data ds) in
      ap (nest_rest None n) (append_assoc (comma_if later) (text_of d ++ left) rest)
      ∙ comma_passed later n ((text_of d ++ left) ++ rest)
      ∙ ap (nest_rest None n) (append_assoc (text_of d) left rest)
      ∙ value_passed d n (left ++ rest) h ∙ items_passed ds true n rest h

  members_passed : (ms : Members) (later : Bool) (n : ℕ) (rest : List ℕ) → 0 < n
      → nest_rest None n (members_text later (members_data ms) ++ rest) ≡ closed n rest
  members_passed no_members later n rest h = refl
  members_passed (member k d ms) later n rest h =
      let left = members_text true (members_data ms) in
      ap (nest_rest None n)
      (append_assoc (comma_if later) (quoted k ++ 58 ∷ (text_of d ++ left)) rest)
      ∙ comma_passed later n ((quoted k ++ 58 ∷ (text_of d ++ left)) ++ rest)
      ∙ ap (nest_rest None n) (append_assoc (quoted k) (58 ∷ (text_of d ++ left)) rest)
      ∙ quoted_passed n k (58 ∷ ((text_of d ++ left) ++ rest))
      ∙ ap (nest_rest None n) (append_assoc (text_of d) left rest)
      ∙ value_passed d n (left ++ rest) h ∙ members_passed ms true n rest h

pub list_left : (ds : Items) (rest : List ℕ)
    → nest_rest None 0 (text_of (list ds) ++ rest) ≡ Some rest
list_left ds rest = items_passed ds false 1 rest (omega arith)

pub object_left : (ms : Members) (rest : List ℕ)
    → nest_rest None 0 (text_of (object ms) ++ rest) ≡ Some rest
object_left ms rest = members_passed ms false 1 rest (omega arith)

-- ---- the loop over a text

pub nest_at_quote : (t : List ℕ) (at depth : ℕ) → at < length t → get_or t at 0 ≡ 34
    → nest_rest None depth (drop at t)
    ≡ option_and_then (nest_rest None depth) (string_rest false (drop (at + 1) t))
nest_at_quote t at depth inside quote =
    ap (nest_rest None depth) (drop_more t at 0 inside)
    ∙ ap (λ b. nest_rest None depth (b ∷ drop (at + 1) t)) quote
    ∙ string_inside false depth (drop (at + 1) t)

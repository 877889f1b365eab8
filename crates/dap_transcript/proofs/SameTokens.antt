-- The texts of names and of scalars determine them, up to the `:` or the line end after them.
use Rattle.std.proofs.Common.{◌≡◌, ℕ, ◌==◌, Bool, true, false, cond, not, ◌||◌, List, [], ◌∷◌}
use Rattle.std.proofs.Common.{◌++◌, codes, IsUtf8, refl, sym, ap, ap₂, ◌∙◌, subst, arith}
use Rattle.std.proofs.lemmas.Bool.{and_parts, and_from, both_ways}
use Rattle.std.specs.List.{list_all}
use Rattle.std.proofs.Common.{ℤ, pos, negsuc, ◌+◌, ◌%◌, ◌^◌, ◌<◌, suc, decimal, ltb-true}
use Rattle.std.proofs.lemmas.Bool.Decides.{nat_tests}
use Rattle.std.proofs.lemmas.Fmt.{decimal_by_steps}
use Rattle.std.proofs.lemmas.List.Folds.{list_all-append}
use Rattle.std.proofs.lemmas.Str.{IsUtf8-from_is_utf8}
use Rattle.dap_tree.specs.Doc.{Doc, null, boolean, whole, text, list, object, id, no_items}
use Rattle.dap_tree.specs.Doc.{item, no_members, member, in_range, all_plain, all_utf8}
use Rattle.dap_tree.specs.Json.{text_of, IsRead}
use Rattle.dap_tree.proofs.{Texts.text_is_read, Outcomes.read_once}
use Rattle.dap_transcript.specs.Names.{has_plain_form, is_letter, is_name_byte, is_plain}
use Rattle.dap_transcript.specs.Names.{name_text}
use Rattle.dap_transcript.specs.{Scalars.string_text, Transcript.title}
use Rattle.dap_transcript.proofs.SameStrings.{quoted_text, rest_of, same_string}

-- LF or `:`.
abbrev pub ends_token : ℕ → Bool
ends_token c = (c == 10) || (c == 58)

-- A byte of a text without quotes: neither LF nor `:` nor `"`.
abbrev pub is_bare_byte : ℕ → Bool
is_bare_byte b = not (ends_token b || (b == 34))

-- A text without quotes, or a string.
pub data Token : Type 0 where
  bare : List ℕ → Token
  quoted : List ℕ → Token

abbrev pub spelled : Token → List ℕ
spelled (bare w) = w
spelled (quoted s) = string_text s

abbrev pub IsFine : Token → Type 0
IsFine (bare w) = list_all is_bare_byte w ≡ true
IsFine (quoted s) = IsUtf8 s

-- ---- two texts without quotes

same_bare : (v w : List ℕ) (c d : ℕ) (x y : List ℕ) → list_all is_bare_byte v ≡ true
    → list_all is_bare_byte w ≡ true → is_bare_byte c ≡ false → is_bare_byte d ≡ false
    → v ++ c ∷ x ≡ w ++ d ∷ y → (v ≡ w) × (c ≡ d) × (x ≡ y)
same_bare [] [] c d x y hv hw hc hd h =
    let first : c ≡ d = cc in
    let rest : x ≡ y = cc in
    (refl, first, rest)
same_bare [] (b ∷ w) c d x y hv hw hc hd h =
    let first : c ≡ b = cc in
    let bare_first = (and_parts _ _ hw).0 in
    absurd (both_ways (is_bare_byte c) hc (ap is_bare_byte first ∙ bare_first))
same_bare (a ∷ v) [] c d x y hv hw hc hd h =
    let first : d ≡ a = cc in
    let bare_first = (and_parts _ _ hv).0 in
    absurd (both_ways (is_bare_byte d) hd (ap is_bare_byte first ∙ bare_first))
same_bare (a ∷ v) (b ∷ w) c d x y hv hw hc hd h =
    let first : a ≡ b = cc in
    let rest : v ++ c ∷ x ≡ w ++ d ∷ y = cc in
    let later = same_bare v w c d x y (and_parts _ _ hv).1 (and_parts _ _ hw).1 hc hd rest in
    (ap₂ (λ (n : ℕ) (l : List ℕ). n ∷ l) first later.0, later.1, later.2)

is_end : (c : ℕ) → ends_token c ≡ true → is_bare_byte c ≡ false
is_end c h = ap (λ b. not (b || (c == 34))) h

no_quote : (c : ℕ) → ends_token c ≡ true → c ≡ 34 → ⊥
no_quote c h e =
    let no : false ≡ true = ap ends_token (sym e) ∙ h in cc

-- A text without quotes is no string.
bare_or_quoted : (w s : List ℕ) (c : ℕ) (x y : List ℕ) → list_all is_bare_byte w ≡ true
    → ends_token c ≡ true → w ++ c ∷ x ≡ string_text s ++ y → ⊥
bare_or_quoted w s c x y fine end h =
    no_quote c end
    (same_bare w [] c 34 x (rest_of s ++ y) fine refl (is_end c end) refl
    (h ∙ ap (λ q. q ++ y) (quoted_text s))).1

pub same_token : (t u : Token) (c d : ℕ) (x y : List ℕ) → IsFine t → IsFine u
    → ends_token c ≡ true → ends_token d ≡ true → spelled t ++ c ∷ x ≡ spelled u ++ d ∷ y
    → (t ≡ u) × (c ≡ d) × (x ≡ y)
same_token (bare v) (bare w) c d x y ft fu hc hd h =
    let same = same_bare v w c d x y ft fu (is_end c hc) (is_end d hd) h in
    (ap bare same.0, same.1, same.2)
same_token (bare v) (quoted s) c d x y ft fu hc hd h =
    absurd (bare_or_quoted v s c x (d ∷ y) ft hc h)
same_token (quoted s) (bare w) c d x y ft fu hc hd h =
    absurd (bare_or_quoted w s d y (c ∷ x) fu hd (sym h))
same_token (quoted s) (quoted t) c d x y ft fu hc hd h =
    let same = same_string s t (c ∷ x) (d ∷ y) ft fu h in
    let first : c ≡ d = cc in
    let rest : x ≡ y = cc in
    (ap quoted same.0, first, rest)

-- ---- names

abbrev pub named_token : Bool → List ℕ → Token
named_token b k = cond b (bare k) (quoted k)

named_text : (b : Bool) (k : List ℕ) → cond b k (string_text k) ≡ spelled (named_token b k)
named_text true k = refl
named_text false k = refl

inner : Token → List ℕ
inner (bare w) = w
inner (quoted s) = s

named_inner : (b : Bool) (k : List ℕ) → inner (named_token b k) ≡ k
unfolding inner
named_inner true k = refl
named_inner false k = refl

-- The text is written without quotes if a test says so, and otherwise as a string. So is the other.
pub same_text : (a b : Bool) (k l : List ℕ) (c d : ℕ) (x y : List ℕ)
    → IsFine (named_token a k) → IsFine (named_token b l) → ends_token c ≡ true
    → ends_token d ≡ true → cond a k (string_text k) ++ c ∷ x ≡ cond b l (string_text l) ++ d ∷ y
    → (k ≡ l) × (c ≡ d) × (x ≡ y)
same_text a b k l c d x y fk fl hc hd h =
    let same = same_token (named_token a k) (named_token b l) c d x y fk fl hc hd
    (ap (λ t. t ++ c ∷ x) (sym (named_text a k)) ∙ h ∙ ap (λ t. t ++ d ∷ y) (named_text b l)) in
    (sym (named_inner a k) ∙ ap inner same.0 ∙ named_inner b l, same.1, same.2)

pub fine_text : (b : Bool) (k : List ℕ) → (b ≡ true → list_all is_bare_byte k ≡ true) → IsUtf8 k
    → IsFine (named_token b k)
fine_text true k bytes utf8 = bytes refl
fine_text false k bytes utf8 = utf8

letter_bare : (b : ℕ) → is_letter b ≡ true → is_bare_byte b ≡ true
letter_bare b h = grind (arith, nat_tests)

byte_bare : (b : ℕ) → is_name_byte b ≡ true → is_bare_byte b ≡ true
byte_bare b h = grind (arith, nat_tests)

bytes_bare : (k : List ℕ) → list_all is_name_byte k ≡ true → list_all is_bare_byte k ≡ true
bytes_bare [] h = refl
bytes_bare (b ∷ k) h =
    let parts = and_parts (is_name_byte b) (list_all is_name_byte k) h in
    and_from _ _ (byte_bare b parts.0) (bytes_bare k parts.1)

form_bare : (k : List ℕ) → has_plain_form k ≡ true → list_all is_bare_byte k ≡ true
form_bare [] h = refl
form_bare (b ∷ k) h =
    let parts = and_parts (is_letter b) (list_all is_name_byte k) h in
    and_from _ _ (letter_bare b parts.0) (bytes_bare k parts.1)

pub plain_bare : (k : List ℕ) → is_plain k ≡ true → list_all is_bare_byte k ≡ true
plain_bare k h = form_bare k (and_parts (has_plain_form k) _ h).0

abbrev pub name_token : List ℕ → Token
name_token k = named_token (is_plain k) k

pub name_spelled : (k : List ℕ) → name_text k ≡ spelled (name_token k)
name_spelled k = named_text (is_plain k) k

-- A name is determined by its text and the byte after it.
pub same_name : (k l : List ℕ) (c d : ℕ) (x y : List ℕ) → IsUtf8 k → IsUtf8 l
    → ends_token c ≡ true → ends_token d ≡ true → name_text k ++ c ∷ x ≡ name_text l ++ d ∷ y
    → (k ≡ l) × (c ≡ d) × (x ≡ y)
same_name k l c d x y uk ul =
    same_text (is_plain k) (is_plain l) k l c d x y (fine_text (is_plain k) k (plain_bare k) uk)
    (fine_text (is_plain l) l (plain_bare l) ul)

-- ---- titles

title_bare : (kind name : List ℕ) → list_all is_bare_byte kind ≡ true → is_plain name ≡ true
    → list_all is_bare_byte (kind ++ codes " " ++ name) ≡ true
title_bare kind name bytes plain =
    list_all-append is_bare_byte (kind ++ codes " ") name
    ∙ and_from _ _
    (list_all-append is_bare_byte kind (codes " ") ∙ and_from _ _ bytes refl)
    (plain_bare name plain)

-- The kind and the name of a message are determined by its title, as one text.
pub same_title : (j k n m x y : List ℕ) → list_all is_bare_byte j ≡ true
    → list_all is_bare_byte k ≡ true → IsUtf8 (j ++ codes " " ++ n)
    → IsUtf8 (k ++ codes " " ++ m) → title j n ++ 10 ∷ x ≡ title k m ++ 10 ∷ y
    → (j ++ codes " " ++ n ≡ k ++ codes " " ++ m) × (x ≡ y)
same_title j k n m x y hj hk un um h =
    let v = j ++ codes " " ++ n in
    let w = k ++ codes " " ++ m in
    let same = same_text (is_plain n) (is_plain m) v w 10 10 x y
    (fine_text (is_plain n) v (title_bare j n hj) un)
    (fine_text (is_plain m) w (title_bare k m hk) um) refl refl h in
    (same.0, same.2)

-- ---- the first byte of a name

-- The text starts with a byte that is neither `-` nor a blank.
pub record StartsName (t : List ℕ) : Type 0 where
  pub first : ℕ
  pub rest : List ℕ
  pub is : t ≡ first ∷ rest
  pub no_dash : first ≡ 45 → ⊥
  pub no_blank : first ≡ 32 → ⊥

no_letter : (b c : ℕ) → is_letter b ≡ true → is_letter c ≡ false → b ≡ c → ⊥
no_letter b c h other e = both_ways (is_letter c) other (ap is_letter (sym e) ∙ h)

text_starts : (b : Bool) (k x : List ℕ) → (b ≡ true → has_plain_form k ≡ true)
    → StartsName (cond b k (string_text k) ++ x)
text_starts true [] x h = let no = h refl in absurd (cc)
text_starts true (b ∷ k) x h =
    let letter = (and_parts (is_letter b) (list_all is_name_byte k) (h refl)).0 in
    record {
      first = b;
      rest = k ++ x;
      is = refl;
      no_dash = no_letter b 45 letter refl;
      no_blank = no_letter b 32 letter refl;
    }
text_starts false k x h =
    record {
      first = 34;
      rest = rest_of k ++ x;
      is = ap (λ t. t ++ x) (quoted_text k);
      no_dash = λ e. omega arith;
      no_blank = λ e. omega arith;
    }

pub name_starts : (k x : List ℕ) → StartsName (name_text k ++ x)
name_starts k x = text_starts (is_plain k) k x (λ h. (and_parts (has_plain_form k) _ h).0)

-- ---- scalars

abbrev pub doc_token : Doc → Token
doc_token null = bare (text_of null)
doc_token (boolean b) = bare (text_of (boolean b))
doc_token (whole z) = bare (text_of (whole z))
doc_token (text s) = quoted s
doc_token (list ds) = bare (text_of (list ds))
doc_token (object ms) = bare (text_of (object ms))
doc_token (id s z) = bare (text_of (id s z))

-- A document that is written on one line: a scalar, or an empty list or object.
abbrev pub is_flat : Doc → Bool
is_flat null = true
is_flat (boolean b) = true
is_flat (whole z) = true
is_flat (text s) = true
is_flat (list no_items) = true
is_flat (list (item d ds)) = false
is_flat (object no_members) = true
is_flat (object (member k d ms)) = false
is_flat (id s z) = false

digit_bare : (n : ℕ) → n < 10 → is_bare_byte (48 + n) ≡ true
digit_bare n h = grind (arith, nat_tests)

decimal_bare : (n : ℕ) → n < 2 ^ 64 → list_all is_bare_byte (decimal n) ≡ true
decimal_bare n h =
    decimal_by_steps (λ m ds. list_all is_bare_byte ds ≡ true)
    (λ m small. and_from _ _ (digit_bare m small) refl)
    (λ m ds big before. list_all-append is_bare_byte ds ((48 + m % 10) ∷ [])
    ∙ and_from _ _ before (and_from _ _ (digit_bare (m % 10) (omega arith)) refl)) n h

number_bare : (z : ℤ) → in_range z ≡ true → list_all is_bare_byte (text_of (whole z)) ≡ true
number_bare (pos n) h = decimal_bare n (ltb-true n (2 ^ 64) h)
number_bare (negsuc n) h = decimal_bare (suc n) (omega (arith, ltb-true n (2 ^ 63) h))

pub flat_fine : (d : Doc) → is_flat d ≡ true → all_plain d ≡ true → all_utf8 d ≡ true
    → IsFine (doc_token d)
flat_fine null f p u = refl
flat_fine (boolean true) f p u = refl
flat_fine (boolean false) f p u = refl
flat_fine (whole z) f p u = number_bare z p
flat_fine (text s) f p u = IsUtf8-from_is_utf8 s u
flat_fine (list no_items) f p u = refl
flat_fine (list (item d ds)) f p u = absurd (cc)
flat_fine (object no_members) f p u = refl
flat_fine (object (member k d ms)) f p u = absurd (cc)
flat_fine (id s z) f p u = absurd (cc)

flat_read : (d : Doc) → is_flat d ≡ true → all_plain d ≡ true → all_utf8 d ≡ true
    → IsRead (text_of d) d
flat_read null f p u = text_is_read null refl refl refl refl
flat_read (boolean b) f p u = text_is_read (boolean b) refl refl refl refl
flat_read (whole z) f p u = text_is_read (whole z) p refl refl refl
flat_read (text s) f p u = text_is_read (text s) refl refl refl u
flat_read (list no_items) f p u = text_is_read (list no_items) refl refl refl refl
flat_read (list (item d ds)) f p u = absurd (cc)
flat_read (object no_members) f p u = text_is_read (object no_members) refl refl refl refl
flat_read (object (member k d ms)) f p u = absurd (cc)
flat_read (id s z) f p u = absurd (cc)

-- The text of the document, as JSON.
token_json : Token → List ℕ
token_json (bare w) = w
token_json (quoted s) = text_of (text s)

token_text : (d : Doc) → token_json (doc_token d) ≡ text_of d
unfolding token_json
token_text null = refl
token_text (boolean b) = refl
token_text (whole z) = refl
token_text (text s) = refl
token_text (list ds) = refl
token_text (object ms) = refl
token_text (id s z) = refl

pub same_flat : (d e : Doc) → is_flat d ≡ true → is_flat e ≡ true → all_plain d ≡ true
    → all_plain e ≡ true → all_utf8 d ≡ true → all_utf8 e ≡ true → doc_token d ≡ doc_token e
    → d ≡ e
same_flat d e fd fe pd pe ud ue h =
    let texts = sym (token_text d) ∙ ap token_json h ∙ token_text e in
    read_once (text_of d) d e (flat_read d fd pd ud)
    (subst (λ bytes. IsRead bytes e) (sym texts) (flat_read e fe pe ue))

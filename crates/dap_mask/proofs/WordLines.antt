-- The line that is written for a word is read as that word.
use Rattle.std.proofs.Common.{◌≡◌, ◌≢◌, ℕ, ◌+◌, ◌/◌, ◌%◌, Bool, true, false, cond, not, ◌==◌}
use Rattle.std.proofs.Common.{◌||◌, List, [], ◌∷◌, ◌++◌, nat_lt, refl, sym, ap, ◌∙◌}
use Rattle.std.proofs.Common.{subst, true≢false, arith, append-nil, IsUtf8, Result, Ok, Err, OnOk}
use lib.Utf8.{encode}
use Rattle.std.proofs.lemmas.Bool.{eqb-true, ne_eqb, ltb-true, ltb-false, not-true}
use Rattle.std.proofs.lemmas.Str.{IsUtf8-append, is_utf8-from_IsUtf8}
use Rattle.std.specs.Char.{digit_char}
use Rattle.std.specs.Prelude.{codes}
use Rattle.json.specs.Print.{escape_letter, escape_byte, escape}
use Rattle.serde_json.specs.Data as json
use Rattle.dap_tree.specs.Doc.{text as text_doc}
use Rattle.dap_tree.specs.Json.{Reads, text_of}
use Rattle.dap_tree.proofs.Booleans.{and_left, and_right, and_both}
use Rattle.dap_message.proofs.Edits.{by_bool}
use Rattle.dap_words.specs.Words.{Pair}
use Rattle.dap_mask.specs.Grammar.{IsInside, at_end, escaped, other, IsName, quoted, SaysRule}
use Rattle.dap_mask.specs.Mask.{put}
use Rattle.dap_mask.specs.Runs.{has_class, onto, lines_of}
use Rattle.dap_mask.specs.Texts.{all_of}
use Rattle.dap_mask.specs.WordLines.{word_line, IsLineOf}
use Rattle.dap_mask.specs.declared.runs.ByteClass.TheVariants.{InLine}
use Rattle.dap_mask.proofs.Parsing.{rule_read}

-- ---- the bytes of a JSON string between its quotes

abbrev in_line : List ℕ → Bool
in_line s = all_of (has_class InLine) s

-- bytes that may be in a string, all in one line
record Inner (s : List ℕ) : Type 0 where
  inside : IsInside s
  line : in_line s ≡ true

inside_append : {s : List ℕ} → IsInside s → (t : List ℕ) → IsInside t → IsInside (s ++ t)
inside_append at_end t j = j
inside_append (escaped {b} {s} i) t j = escaped (inside_append i t j)
inside_append (other {b} {s} q e i) t j = other q e (inside_append i t j)

line_append : (s t : List ℕ) → in_line s ≡ true → in_line t ≡ true → in_line (s ++ t) ≡ true
line_append [] t h k = k
line_append (b ∷ s) t h k =
    and_both _ _ (and_left (has_class InLine b) (in_line s) h)
    (line_append s t (and_right (has_class InLine b) (in_line s) h) k)

not_line_feed : (b : ℕ) → b ≢ 10 → has_class InLine b ≡ true
not_line_feed b h = ap not (ne_eqb b 10 h)

other_letters : (b c d e f : Bool)
    → (cond b 98 (cond c 102 (cond d 110 (cond e 114 (cond f 116 0)))) == 10) ≡ false
other_letters true c d e f = refl
other_letters false true d e f = refl
other_letters false false true e f = refl
other_letters false false false true f = refl
other_letters false false false false true = refl
other_letters false false false false false = refl

no_line_feed_of : (a : Bool) (x y : ℕ) → (x == 10) ≡ false → (y == 10) ≡ false
    → (cond a x y == 10) ≡ false
no_line_feed_of true x y h k = h
no_line_feed_of false x y h k = k

letter_line : (x : ℕ) → (escape_letter x == 10) ≡ false
letter_line x = by_bool (x == 10)
    (λ yes. subst (λ y. (escape_letter y == 10) ≡ false) (sym (eqb-true x 10 yes)) refl)
    (λ no. no_line_feed_of ((x == 34) || (x == 92)) x _ no
    (other_letters (x == 8) (x == 12) (x == 10) (x == 13) (x == 9)))

record IsDigit (b : ℕ) : Type 0 where
  no_quote : b ≢ 34
  no_backslash : b ≢ 92
  no_line_feed : b ≢ 10

digit_ok : (d : ℕ) → IsDigit (digit_char d)
digit_ok d = go (nat_lt d 10) refl
  where
    go : (a : Bool) → nat_lt d 10 ≡ a → IsDigit (cond a (48 + d) (87 + d))
    go true e =
        let low = ltb-true d 10 e in
        record {
          no_quote = λ h. omega (arith, low, h);
          no_backslash = λ h. omega (arith, low, h);
          no_line_feed = λ h. omega (arith, low, h);
        }
    go false e =
        let high = ltb-false d 10 e in
        record {
          no_quote = λ h. omega (arith, high, h);
          no_backslash = λ h. omega (arith, high, h);
          no_line_feed = λ h. omega (arith, high, h);
        }

code_inner : (c d : ℕ) → Inner (92 ∷ 117 ∷ 48 ∷ 48 ∷ digit_char c ∷ digit_char d ∷ [])
code_inner c d =
    let one = digit_ok c in
    let two = digit_ok d in
    record {
      inside = escaped (other (λ h. omega arith) (λ h. omega arith)
          (other (λ h. omega arith) (λ h. omega arith)
          (other one.no_quote one.no_backslash (other two.no_quote two.no_backslash at_end))));
      line = and_both _ _ (not_line_feed (digit_char c) one.no_line_feed)
          (and_both _ _ (not_line_feed (digit_char d) two.no_line_feed) refl);
    }

-- a byte without an escape
plain_inner : (x : ℕ) → nat_lt 0 (escape_letter x) ≡ false → Inner (x ∷ [])
plain_inner x h =
    let no : (y : ℕ) → nat_lt 0 (escape_letter y) ≡ true → x ≢ y =
    λ y yes same. true≢false (sym yes ∙ sym (ap (λ z. nat_lt 0 (escape_letter z)) same) ∙ h) in
    record {
      inside = other (no 34 refl) (no 92 refl) at_end;
      line = and_both _ _ (not_line_feed x (no 10 refl)) refl;
    }

byte_inner : (x : ℕ) → Inner (escape_byte x)
unfolding escape_byte
byte_inner x = go (nat_lt 0 (escape_letter x)) (nat_lt x 32) refl
  where
    go : (a b : Bool) → nat_lt 0 (escape_letter x) ≡ a
        → Inner (cond a (92 ∷ escape_letter x ∷ [])
        (cond b (92 ∷ 117 ∷ 48 ∷ 48 ∷ digit_char (x / 16) ∷ digit_char (x % 16) ∷ []) (x ∷ [])))
    go true b e = record {
      inside = escaped at_end;
      line = and_both _ _ (ap not (letter_line x)) refl;
    }
    go false true e = code_inner (x / 16) (x % 16)
    go false false e = plain_inner x e

escape_inner : (s : List ℕ) → Inner (escape s)
escape_inner [] = record { inside = at_end; line = refl }
escape_inner (x ∷ s) =
    let one = byte_inner x in
    let more = escape_inner s in
    record {
      inside = inside_append one.inside (escape s) more.inside;
      line = line_append (escape_byte x) (escape s) one.line more.line;
    }

-- ---- the line of a word

quoted_line : (s : List ℕ) → in_line (text_of (text_doc s)) ≡ true
quoted_line s = let inner = escape_inner s in line_append (escape s) (34 ∷ []) inner.line refl

quoted_name : (s : List ℕ) → Reads (text_of (text_doc s)) (json.string s)
    → IsName (text_of (text_doc s)) s
quoted_name s read = let inner = escape_inner s in quoted (escape s) refl inner.inside read

line_says : (p : Pair) → Reads (text_of (text_doc p.text)) (json.string p.text)
    → Reads (text_of (text_doc p.word)) (json.string p.word) → SaysRule (word_line p) (put p)
line_says p one two =
    let t = text_of (text_doc p.text) in
    let w = text_of (text_doc p.word) in (
      codes "word" ∷ t ∷ w ∷ [],
      (
        [],
        codes " " ++ (t ++ (codes " " ++ w)),
        refl,
        refl,
        (
          codes " ",
          codes " " ++ w,
          refl,
          (refl, refl),
          (
            codes " ",
            [],
            ap (λ (v : List ℕ). 32 ∷ v) (sym (append-nil w)),
            (refl, refl),
            ([], [], refl, refl, tt),
          ),
        ),
      ),
      (t, w, refl, quoted_name p.text one, quoted_name p.word two),
    )

word_utf8 : IsUtf8 (codes "word ")
unfolding encode
word_utf8 = (codes "word ", (refl, refl))

space_utf8 : IsUtf8 (codes " ")
unfolding encode
space_utf8 = (codes " ", (refl, refl))

pub line_is_word : (p : Pair) → Reads (text_of (text_doc p.text)) (json.string p.text)
    → Reads (text_of (text_doc p.word)) (json.string p.word) → IsLineOf p (word_line p)
line_is_word p one two =
    let t = text_of (text_doc p.text) in
    let w = text_of (text_doc p.word) in
    record {
      one = line_append (codes "word ") (t ++ (codes " " ++ w)) refl
          (line_append t (codes " " ++ w) (quoted_line p.text)
          (line_append (codes " ") w refl (quoted_line p.word)));
      utf8 = is_utf8-from_IsUtf8 (word_line p)
          (IsUtf8-append (codes "word ") (t ++ (codes " " ++ w))
          word_utf8
          (IsUtf8-append t (codes " " ++ w) one.0
          (IsUtf8-append (codes " ") w space_utf8 two.0)));
      said = rule_read (word_line p) (put p) (line_says p one two);
    }

-- ---- one more line

-- a text has at least one line
onto_append : (b : ℕ) (s : List ℕ) (ls : List (List ℕ)) → onto b (lines_of s ++ ls)
    ≡ onto b (lines_of s) ++ ls
onto_append b [] ls = refl
onto_append b (c ∷ s) ls = by_bool (c == 10) (λ yes. rw yes refl)
    (λ no. rw no (onto_twice b c (lines_of s) ls))
  where
    onto_twice : (b c : ℕ) (ks ls : List (List ℕ))
        → onto b (onto c ks ++ ls) ≡ onto b (onto c ks) ++ ls
    onto_twice b c [] ls = refl
    onto_twice b c (k ∷ ks) ls = refl

only_line : (l : List ℕ) → in_line l ≡ true → lines_of l ≡ l ∷ []
only_line [] h = refl
only_line (b ∷ l) h =
    let here = not-true (b == 10) (and_left (has_class InLine b) (in_line l) h) in
    rw here (ap (onto b) (only_line l (and_right (has_class InLine b) (in_line l) h)))

pub one_more_line : (s l : List ℕ) → in_line l ≡ true
    → lines_of (s ++ 10 ∷ l) ≡ lines_of s ++ l ∷ []
one_more_line [] l h = ap (λ ls. [] ∷ ls) (only_line l h)
one_more_line (b ∷ s) l h = by_bool (b == 10)
    (λ yes. rw yes (ap (λ ls. [] ∷ ls) (one_more_line s l h)))
    (λ no. rw no (ap (onto b) (one_more_line s l h) ∙ onto_append b s (l ∷ [])))

-- ---- a call that succeeds

pub ok_then : {T E P Q : Type 0} → (r : Result T E) → (P → Q) → OnOk r P → OnOk r Q
ok_then (Ok x) f p = f p
ok_then (Err e) f p = tt

-- Tests of names by their bytes in a canonical text.
use Rattle.std.proofs.Common.{◌≡◌, ℕ, Bool, true, false, cond, not, ◌&&◌, ◌||◌, ◌==◌, List, []}
use Rattle.std.proofs.Common.{◌∷◌, ◌++◌, refl, sym, ap, ◌∙◌, codes, take, drop, length}
use Rattle.std.proofs.Common.{Some, append_assoc, arith, bytes_eq, nat_lt, nat_cmp}
use Rattle.std.proofs.lemmas.Bool.{and_parts, eqb-true}
use Rattle.std.proofs.lemmas.Bool.Decides.{nat_tests}
use Rattle.std.proofs.lemmas.List.{append_cancel_right, take-append-drop}
use Rattle.std.proofs.lemmas.List.Folds.{list_all-append}
use Rattle.std.proofs.lemmas.Slice.Eq.{bytes_eq-Decides}
use Rattle.std.specs.Cmp.Lexicographic.{slice_cmp}
use Rattle.std.specs.{Char.is_ascii_digit, List.list_all}
use Rattle.json.specs.Print.{escape}
use Rattle.dap_profile.specs.declared.profile.Kind.{Kind}
use Rattle.dap_profile.specs.declared.profile.Kind.TheVariants.{Request, Response, Event}
use Rattle.dap_message.specs.Rows.{name_key}
use Rattle.dap_tree.proofs.Booleans.{and_both}
use Rattle.dap_tree.specs.{Doc.text, Json.text_of}
use Rattle.dap_transcript.specs.declared.members.Omitted.{Omitted}
use Rattle.dap_transcript.specs.{Members.omits, Scalars.{escaped, is_simple, string_text}}
use Rattle.dap_transcript.specs.Names.{has_plain_form, has_underscores, is_exponent, is_letter}
use Rattle.dap_transcript.specs.Names.{is_name_byte, is_plain, is_typed_word, name_text}
use Rattle.dap_transcript.specs.Names.{names_head}
use Rattle.dap_transcript.specs.{Canonical.string_rest, Walk.StartsWithPlain}
use Rattle.dap_transcript.proofs.StringRests.{plain_rest, quoted_rest}
use Rattle.dap_transcript.proofs.Escapes.{same_order, simple_inside, simple_stays}

-- ---- tests that only names of simple characters pass

same_bool : (a b : Bool) → (a ≡ true → b ≡ true) → (b ≡ true → a ≡ true) → a ≡ b
same_bool true b f g = sym (f refl)
same_bool false true f g = g refl
same_bool false false f g = refl

-- Such a test of a name is the test of its bytes in a text.
same_test : (test : List ℕ → Bool)
    → ((s : List ℕ) → test s ≡ true → list_all is_simple s ≡ true) → (k : List ℕ)
    → test (escape k) ≡ test k
same_test test simple k =
    same_bool (test (escape k)) (test k)
    (λ h. ap test (sym (simple_inside k (simple (escape k) h))) ∙ h)
    (λ h. ap test (simple_stays k (simple k h)) ∙ h)

all_weaker : (p q : ℕ → Bool) → ((b : ℕ) → p b ≡ true → q b ≡ true) → (s : List ℕ)
    → list_all p s ≡ true → list_all q s ≡ true
all_weaker p q weaker [] h = refl
all_weaker p q weaker (b ∷ s) h =
    let parts = and_parts (p b) (list_all p s) h in
    and_both _ _ (weaker b parts.0) (all_weaker p q weaker s parts.1)

either_way : {P : Type 0} (a b : Bool) → (a ≡ true → P) → (b ≡ true → P) → (a || b) ≡ true → P
either_way true b f g h = f refl
either_way false b f g h = g h

-- ---- plain names

simple_name : (b : ℕ) → is_name_byte b ≡ true → is_simple b ≡ true
simple_name b h = grind (arith, nat_tests)

letter_name : (b : ℕ) → is_letter b ≡ true → is_name_byte b ≡ true
letter_name b h = ap (λ l. l || is_ascii_digit b) h

plain_form_simple : (s : List ℕ) → has_plain_form s ≡ true → list_all is_simple s ≡ true
plain_form_simple [] h = refl
plain_form_simple (b ∷ s) h =
    let parts = and_parts (is_letter b) (list_all is_name_byte s) h in
    and_both _ _ (simple_name b (letter_name b parts.0))
    (all_weaker is_name_byte is_simple simple_name s parts.1)

plain_simple : (s : List ℕ) → is_plain s ≡ true → list_all is_simple s ≡ true
plain_simple s h =
    plain_form_simple s
    (and_parts (has_plain_form s) (not (is_typed_word s || is_exponent s)) h).0

same_plain : (k : List ℕ) → is_plain (escape k) ≡ is_plain k
same_plain k = same_test is_plain plain_simple k

-- A name whose bytes are plain is written as it is, and another one as a string.
pub plain_text : (k inside : List ℕ) → inside ≡ escape k → is_plain inside ≡ true
    → inside ≡ name_text k
plain_text k inside is plain =
    let there : is_plain (escape k) ≡ true = ap is_plain (sym is) ∙ plain in
    is ∙ simple_inside k (plain_simple (escape k) there)
    ∙ sym (ap (λ b. cond b k (string_text k)) (sym (same_plain k) ∙ there))

pub quoted_name : (k name inside : List ℕ) → name ≡ text_of (text k) → inside ≡ escape k
    → is_plain inside ≡ false → escaped name ≡ name_text k
quoted_name k name inside own is plain =
    ap escaped own
    ∙ sym (ap (λ b. cond b k (string_text k))
    (sym (same_plain k) ∙ ap is_plain (sym is) ∙ plain))

-- No byte of a name without quotes ends a string.
name_rest : (s rest : List ℕ) → list_all is_name_byte s ≡ true
    → string_rest false (s ++ 34 ∷ rest) ≡ Some rest
name_rest [] rest h = refl
name_rest (b ∷ s) rest h =
    let parts = and_parts (is_name_byte b) (list_all is_name_byte s) h in
    let own : is_name_byte b ≡ true = parts.0 in
    plain_rest b (s ++ 34 ∷ rest) (λ e. grind (arith, nat_tests)) (λ e. grind (arith, nat_tests))
    ∙ name_rest s rest parts.1

pub starts_with_plain : (s inside name end colon value : List ℕ) → s ≡ 34 ∷ inside
    → inside ≡ name ++ end → end ≡ 34 ∷ colon → colon ≡ 58 ∷ value
    → list_all is_name_byte name ≡ true → is_plain name ≡ true → StartsWithPlain s name value
starts_with_plain s inside name end colon value quote front last mark own plain k more h =
    let whole : inside ≡ name ++ 34 ∷ colon = front ∙ ap (λ t. name ++ t) last in
    let own_rest : string_rest false inside ≡ Some colon =
    ap (string_rest false) whole ∙ name_rest name colon own in
    let in_text : inside ≡ drop 1 (text_of (text k) ++ 58 ∷ more) = ap (drop 1) (sym quote ∙ h) in
    let found : string_rest false inside ≡ Some (58 ∷ more) =
    ap (string_rest false) in_text ∙ quoted_rest k (58 ∷ more) in
    let same : Some colon ≡ Some (58 ∷ more) = sym own_rest ∙ found in
    let after : colon ≡ 58 ∷ more = cc in
    let bytes : name ++ 34 ∷ colon ≡ escape k ++ 34 ∷ colon =
    sym whole ∙ in_text ∙ append_assoc (escape k) (34 ∷ []) (58 ∷ more)
    ∙ ap (λ t. escape k ++ 34 ∷ t) (sym after) in (
      plain_text k name (append_cancel_right name (escape k) (34 ∷ colon) bytes) plain,
      ap (drop 1) (sym mark ∙ after),
    )

-- ---- names of heads

underscore_by : (q : ℕ → Bool) → q 95 ≡ true → (b : ℕ) → (b == 95) ≡ true → q b ≡ true
underscore_by q h b is = ap q (eqb-true b 95 is) ∙ h

-- The name is the word and underscores.
word_then : (w k : List ℕ) → has_underscores w k ≡ true
    → (u : List ℕ) × (k ≡ w ++ u) × (list_all (λ b. b == 95) u ≡ true)
word_then w k h =
    let n = length w in
    let parts = and_parts (bytes_eq (take n k) w) (list_all (λ b. b == 95) (drop n k)) h in (
      drop n k,
      sym (take-append-drop n k)
          ∙ ap (λ t. t ++ drop n k) ((bytes_eq-Decides (take n k) w).0 parts.0),
      parts.1,
    )

word_all : (q : ℕ → Bool) (w k : List ℕ) → list_all q w ≡ true → q 95 ≡ true
    → has_underscores w k ≡ true → list_all q k ≡ true
word_all q w k own one h =
    let found = word_then w k h in
    ap (list_all q) found.1 ∙ list_all-append q w found.0
    ∙ and_both _ _ own (all_weaker (λ b. b == 95) q (underscore_by q one) found.0 found.2)

head_all : (q : ℕ → Bool) → list_all q (codes "client") ≡ true
    → list_all q (codes "adapter") ≡ true → q 95 ≡ true → (k : List ℕ) → names_head k ≡ true
    → list_all q k ≡ true
head_all q client adapter one k h =
    either_way (has_underscores (codes "client") k) (has_underscores (codes "adapter") k)
    (word_all q (codes "client") k client one) (word_all q (codes "adapter") k adapter one) h

pub same_head : (k : List ℕ) → names_head (escape k) ≡ names_head k
same_head k = same_test names_head (head_all is_simple refl refl refl) k

-- The bytes of a name of a head are the name.
pub head_stays : (k : List ℕ) → names_head (escape k) ≡ true → escape k ≡ k
head_stays k h = simple_inside k (head_all is_simple refl refl refl (escape k) h)

-- A name of a head and the bytes of another name are in the order of the names.
pub head_order : (r k : List ℕ) → names_head r ≡ true
    → slice_cmp nat_cmp r (escape k) ≡ slice_cmp nat_cmp r k
head_order r k h = same_order r k (head_all (λ b. nat_lt 92 b) refl refl refl r h)

word_name : (u : List ℕ) → list_all (λ b. b == 95) u ≡ true → list_all is_name_byte u ≡ true
word_name u h = all_weaker (λ b. b == 95) is_name_byte (underscore_by is_name_byte refl) u h

client_plain : (k : List ℕ) → has_underscores (codes "client") k ≡ true → is_plain k ≡ true
client_plain k h =
    let found = word_then (codes "client") k h in
    ap is_plain found.1 ∙ and_both _ _ (word_name found.0 found.2) refl

adapter_plain : (k : List ℕ) → has_underscores (codes "adapter") k ≡ true → is_plain k ≡ true
adapter_plain k h =
    let found = word_then (codes "adapter") k h in
    ap is_plain found.1 ∙ and_both _ _ (word_name found.0 found.2) refl

pub head_text : (k : List ℕ) → names_head k ≡ true → name_text k ≡ k
head_text k h =
    ap (λ b. cond b k (string_text k))
    (either_way (has_underscores (codes "client") k) (has_underscores (codes "adapter") k)
    (client_plain k) (adapter_plain k) h)

-- ---- omitted members

word_simple : (w k : List ℕ) → list_all is_simple w ≡ true → bytes_eq k w ≡ true
    → list_all is_simple k ≡ true
word_simple w k simple h = ap (list_all is_simple) ((bytes_eq-Decides k w).0 h) ∙ simple

word_if : (w k : List ℕ) (b : Bool) → list_all is_simple w ≡ true → (bytes_eq k w && b) ≡ true
    → list_all is_simple k ≡ true
word_if w k b simple h = word_simple w k simple (and_parts (bytes_eq k w) b h).0

key_simple : (kind : Kind) → list_all is_simple (name_key kind) ≡ true
key_simple Request = refl
key_simple Response = refl
key_simple Event = refl

omitted_simple : (o : Omitted) (k : List ℕ) → omits o k ≡ true → list_all is_simple k ≡ true
omitted_simple o k h =
    either_way (bytes_eq k (codes "type")) _ (word_simple (codes "type") k refl)
    (either_way (bytes_eq k (name_key o.kind)) _
    (word_simple (name_key o.kind) k (key_simple o.kind))
    (either_way (bytes_eq k (codes "seq") && o.seq) _ (word_if (codes "seq") k o.seq refl)
    (either_way (bytes_eq k (codes "request_seq") && o.request_seq) _
    (word_if (codes "request_seq") k o.request_seq refl)
    (word_if (codes "success") k o.success refl)))) h

pub same_omitted : (o : Omitted) (k : List ℕ) → omits o (escape k) ≡ omits o k
same_omitted o k = same_test (omits o) (omitted_simple o) k

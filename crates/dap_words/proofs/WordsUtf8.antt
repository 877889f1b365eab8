-- If a text, all texts of the pairs and all words are UTF-8, then the result is UTF-8.
use Rattle.std.proofs.Common.{◌≡◌, ◌⊎◌, inl, inr, ℕ, ◌<◌, ◌≤◌, ◌+◌, ◌/◌, Bool, true, false, cond}
use Rattle.std.proofs.Common.{ltb}
use Rattle.std.proofs.Common.{List, [], ◌∷◌, ◌++◌, length, take, IsUtf8, refl, sym, ap, ap₂, ◌∙◌}
use Rattle.std.proofs.Common.{subst, arith, length-append}
use Rattle.std.proofs.lemmas.Bool.{ltb-true}
use Rattle.std.proofs.lemmas.List.{take_at, drop_at}
use Rattle.std.proofs.lemmas.Str.{IsUtf8-nil, IsUtf8-append, IsUtf8-encode, IsUtf8-drop}
use Rattle.std.proofs.lemmas.Str.{IsCharBoundary-from_take, IsUtf8-string_bytes}
use lib.Utf8.{encode, encodes, scalar, scalars, next}
use Rattle.dap_words.specs.Words.{Pair, begins_here, Among, AreUtf8, Replaced, at_end, other}
use Rattle.dap_words.specs.Words.{replace}
use Rattle.dap_words.specs.Words.{pairs_of}
use Rattle.dap_words.specs.declared.words.Word.{Word}
use Rattle.dap_words.proofs.Booleans.{and_left, and_right}

-- ---- the bytes of a character

abbrev AllCont : List ℕ → Type 0
AllCont [] = Unit {0}
AllCont (b ∷ s) = ((128 ≤ b) × (b < 192)) × AllCont s

-- one byte that starts a character, and then bytes that continue it
abbrev IsShaped : List ℕ → Type 0
IsShaped [] = ⊥
IsShaped (b ∷ s) = ((b < 128) ⊎ (192 ≤ b)) × AllCont s

encode_shaped : (c : ℕ) → IsShaped (encode c)
unfolding encode
encode_shaped c = go (ltb c 128) (ltb c 2048) (ltb c 65536) refl
  where
    go : (a b d : Bool) → ltb c 128 ≡ a
        → IsShaped (cond a (c ∷ []) (cond b ((192 + c / 64) ∷ next c ∷ []) (cond d ((224 + c / 4096)
        ∷ next (c / 64) ∷ next c ∷ []) ((240 + c / 262144) ∷ next (c / 4096) ∷ next (c / 64)
        ∷ next c ∷ []))))
    go true b d e = (inl (ltb-true c 128 e), tt)
    go false true d e = (inr (omega arith), ((omega arith, omega arith), tt))
    go false false true e =
        (inr (omega arith), ((omega arith, omega arith), ((omega arith, omega arith), tt)))
    go false false false e = (
      inr (omega arith),
      ((omega arith, omega arith), ((omega arith, omega arith), ((omega arith, omega arith), tt))),
    )

-- a text that starts with a byte starts with a character
record Char (b : ℕ) (s : List ℕ) : Type 0 where
  code : ℕ
  rest : List ℕ
  more : List ℕ
  is_scalar : scalar code ≡ true
  is : encode code ≡ b ∷ rest
  lead : (b < 128) ⊎ (192 ≤ b)
  conts : AllCont rest
  whole : s ≡ rest ++ more
  utf8 : IsUtf8 more

char_of : (c : ℕ) (cs bs : List ℕ) (b : ℕ) (s : List ℕ) → scalar c ≡ true → scalars cs ≡ true
    → encode c ≡ bs → IsShaped bs → bs ++ encodes cs ≡ b ∷ s → Char b s
char_of c cs [] b s h k e i w = absurd i
char_of c cs (a ∷ bs) b s h k e i w =
    let same : a ≡ b = cc in
    let rest : s ≡ bs ++ encodes cs = cc in
    record {
      code = c;
      rest = bs;
      more = encodes cs;
      is_scalar = h;
      is = e ∙ ap (λ x. x ∷ bs) same;
      lead = subst (λ x. (x < 128) ⊎ (192 ≤ x)) same i.0;
      conts = i.1;
      whole = rest;
      utf8 = (cs, (k, refl));
    }

first_char : (b : ℕ) (s : List ℕ) → IsUtf8 (b ∷ s) → Char b s
first_char b s u = go u.0 u.1.0 u.1.1
  where
    go : (cs : List ℕ) → scalars cs ≡ true → encodes cs ≡ b ∷ s → Char b s
    go [] h e = cc
    go (c ∷ cs) h e =
        char_of c cs (encode c) b s (and_left (scalar c) (scalars cs) h)
        (and_right (scalar c) (scalars cs) h) refl (encode_shaped c) e

not_both : (b : ℕ) → (b < 128) ⊎ (192 ≤ b) → 128 ≤ b → b < 192 → ⊥
not_both b (inl low) h k = omega (arith, low, h)
not_both b (inr high) h k = omega (arith, high, k)

-- if a text starts with a text, the rest is a text too
rest_utf8 : (x y : List ℕ) → IsUtf8 (x ++ y) → IsUtf8 x → IsUtf8 y
rest_utf8 x y u v =
    let within : length x ≤ length (x ++ y) = omega (arith, length-append x y) in
    let front : IsUtf8 (take (length x) (x ++ y)) =
    subst IsUtf8 (sym (take_at x y (length x) refl)) v in
    subst IsUtf8 (drop_at x y (length x) refl)
    (IsUtf8-drop (x ++ y) (length x) u
    (IsCharBoundary-from_take (x ++ y) (length x) u within front))

-- ---- words

-- a text after the bytes that end a character
record Tail (cs t : List ℕ) : Type 0 where
  rest : List ℕ
  whole : t ≡ cs ++ rest
  utf8 : IsUtf8 rest

text_of : (pairs : List Pair) (p : Pair) → AreUtf8 pairs → Among pairs p
    → IsUtf8 p.text × IsUtf8 p.word
text_of [] p u a = absurd a
text_of (q ∷ pairs) p u (inl e) =
    subst (λ r. IsUtf8 r.text × IsUtf8 r.word) (sym e) (u.0, u.1)
text_of (q ∷ pairs) p u (inr a) = text_of pairs p u.2 a

-- no text starts in the middle of a character
none_inside : (x t : List ℕ) (b : ℕ) (s : List ℕ) → begins_here x (x ++ t) ≡ true → IsUtf8 x
    → x ++ t ≡ b ∷ s → 128 ≤ b → b < 192 → ⊥
none_inside [] t b s h u e l m = cc
none_inside (c ∷ x) t b s h u e l m =
    let same : c ≡ b = cc in
    not_both b (subst (λ y. (y < 128) ⊎ (192 ≤ y)) same (first_char c x u).lead) l m

tail_of : (pairs : List Pair) → AreUtf8 pairs → {s t : List ℕ} → Replaced pairs s t
    → (cs v : List ℕ) → s ≡ cs ++ v → AllCont cs → IsUtf8 v → Tail cs t
tail_of pairs a at_end [] v e k u = record { rest = []; whole = refl; utf8 = IsUtf8-nil }
tail_of pairs a at_end (c ∷ cs) v e k u = cc
tail_of pairs a (other {b} {s} {t} none r) [] v e k u =
    let f = first_char b s (subst IsUtf8 (sym e) u) in
    let i = tail_of pairs a r f.rest f.more f.whole f.conts f.utf8 in
    let all : encode f.code ++ i.rest ≡ b ∷ t =
    ap (λ x. x ++ i.rest) f.is ∙ ap (λ y. b ∷ y) (sym i.whole) in
    record {
      rest = b ∷ t;
      whole = refl;
      utf8 = subst IsUtf8 all (IsUtf8-append (encode f.code) i.rest
          (IsUtf8-encode f.code f.is_scalar) i.utf8);
    }
tail_of pairs a (other {b} {s} {t} none r) (c ∷ cs) v e k u =
    let same : b ≡ c = cc in
    let rest : s ≡ cs ++ v = cc in
    let i = tail_of pairs a r cs v rest k.1 u in
    record { rest = i.rest; whole = ap₂ (λ x y. x ∷ y) same i.whole; utf8 = i.utf8 }
tail_of pairs a (replace {u = w} {s} {t} p is f r) [] v e k u =
    let known = text_of pairs p a f.among in
    let all : IsUtf8 (p.text ++ s) = subst IsUtf8 (sym e ∙ is) u in
    let i = tail_of pairs a r [] s refl tt (rest_utf8 p.text s all known.0) in
    record {
      rest = p.word ++ t;
      whole = refl;
      utf8 = IsUtf8-append p.word t known.1 (subst IsUtf8 (sym i.whole) i.utf8);
    }
tail_of pairs a (replace {u = w} {s} {t} p is f r) (c ∷ cs) v e k u =
    absurd (none_inside p.text s c (cs ++ v)
    (subst (λ x. begins_here p.text x ≡ true) is f.begins) (text_of pairs p a f.among).0
    (sym is ∙ e) k.0.0 k.0.1)

pub replaced_utf8 : (pairs : List Pair) (s t : List ℕ) → AreUtf8 pairs → IsUtf8 s
    → Replaced pairs s t → IsUtf8 t
replaced_utf8 pairs s t a u r =
    let i = tail_of pairs a r [] s refl tt u in subst IsUtf8 (sym i.whole) i.utf8

pub strings_utf8 : (words : List Word) → AreUtf8 (pairs_of words)
strings_utf8 [] = tt
strings_utf8 (w ∷ words) =
    (IsUtf8-string_bytes w.text, IsUtf8-string_bytes w.word, strings_utf8 words)

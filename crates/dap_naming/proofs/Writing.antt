-- Ids that are named one after another, and the parts of a text.
use Rattle.std.proofs.Common.{◌≡◌, ◌∙◌, ℕ, zero, suc, ◌-◌, Bool, true, false, cond, List, []}
use Rattle.std.proofs.Common.{◌∷◌, ◌++◌, take, drop, Some, None, refl, ap, sym, subst, arith}
use Rattle.std.proofs.Common.{append_assoc, append-nil}
use Rattle.std.specs.Char.{is_ascii_hexdigit}
use Rattle.dap_tokens.specs.Tokens.{Labels, Token, token_at, Part, literal, token, parts}
use Rattle.dap_tokens.specs.Tokens.{parts_from, whole_or}
use Rattle.dap_tokens.specs.Naming.{ids_of_parts, named_parts, named_token, Id, Numbering}
use Rattle.dap_tokens.specs.Values.{value, is_nothing}
use Rattle.dap_tokens.specs.declared.form.Form.{Form}
use Rattle.dap_tokens.specs.declared.form.Form.TheVariants.{Whole}
use Rattle.dap_tokens.proofs.Readings.{of_byte, of_token}
use Rattle.dap_tokens.proofs.Starts.{count_some}
use Rattle.dap_naming.specs.Numbers.{number}
use Rattle.dap_naming.specs.Known.{Knows, Names, Writes, FitsLimit, ExceedsLimit}
use Rattle.dap_naming.specs.Known.{limit_of, HasRoom, IsFull}
use Rattle.dap_naming.specs.declared.value_numbers.ValueNumbers.{ValueNumbers}
use Rattle.dap_naming.proofs.Limits.{fits_then, exceeds_then, fits_one, exceeds_one}
use Rattle.dap_naming.proofs.TableNames.{table_none, table_then}

-- ---- ids after other ids

pub names_none : (a : ValueNumbers) (P : Numbering → Type 0) → ((n : Numbering) → P n)
    → Names a a [] P
names_none a P p is h = (subst (Knows a) (sym (append-nil is)) h, λ ks. p (number (is ++ ks)))

pub names_then : (a b c : ValueNumbers) (js ks : List Id) (P Q R : Numbering → Type 0)
    → Names a b js P → Names b c ks Q → ((n : Numbering) → P n → Q n → R n)
    → Names a c (js ++ ks) R
names_then a b c js ks P Q R f g join is h =
    let first = f is h in
    let second = g (is ++ js) first.0 in (
      subst (Knows c) (append_assoc is js ks) second.0,
      λ us. let one : is ++ (js ++ (ks ++ us)) ≡ is ++ ((js ++ ks) ++ us) =
          ap (λ xs. is ++ xs) (sym (append_assoc js ks us)) in
          let two : (is ++ js) ++ (ks ++ us) ≡ is ++ ((js ++ ks) ++ us) =
          append_assoc is js (ks ++ us) ∙ one in
          join (number (is ++ ((js ++ ks) ++ us)))
          (subst (λ xs. P (number xs)) one (first.1 (ks ++ us)))
          (subst (λ xs. Q (number xs)) two (second.1 us)),
    )

pub names_like : (a b : ValueNumbers) (js : List Id) (P Q : Numbering → Type 0)
    → Names a b js P → ((n : Numbering) → P n → Q n) → Names a b js Q
names_like a b js P Q f to is h = let t = f is h in (t.0, λ ks. to _ (t.1 ks))

-- ---- parts after other parts

by_nothing : (b : Bool) (i : Id) (is js : List Id)
    → cond b (is ++ js) (i ∷ (is ++ js)) ≡ cond b is (i ∷ is) ++ js
by_nothing true i is js = refl
by_nothing false i is js = refl

pub ids_of_parts-append : (ps qs : List Part)
    → ids_of_parts (ps ++ qs) ≡ ids_of_parts ps ++ ids_of_parts qs
ids_of_parts-append [] qs = refl
ids_of_parts-append (literal b ∷ ps) qs = ids_of_parts-append ps qs
ids_of_parts-append (token form label t ∷ ps) qs =
    let v = value label form t in
    ap (λ is. cond (is_nothing v) is ((label, v) ∷ is)) (ids_of_parts-append ps qs)
    ∙ by_nothing (is_nothing v) (label, v) (ids_of_parts ps) (ids_of_parts qs)

pub named_parts-append : (number : Numbering) (ps qs : List Part)
    → named_parts number (ps ++ qs) ≡ named_parts number ps ++ named_parts number qs
named_parts-append number [] qs = refl
named_parts-append number (literal b ∷ ps) qs =
    ap (λ s. b ∷ s) (named_parts-append number ps qs)
named_parts-append number (token form label t ∷ ps) qs =
    ap (λ s. named_token number form label t ++ s) (named_parts-append number ps qs)
    ∙ sym (append_assoc (named_token number form label t) (named_parts number ps)
    (named_parts number qs))

pub write_then : (a b c : ValueNumbers) (ps qs : List Part) (x y z : List ℕ)
    → Writes a b ps x y → Writes b c qs y z → Writes a c (ps ++ qs) x z
write_then a b c ps qs x y z f g =
    let joined : (n : Numbering) → y ≡ x ++ named_parts n ps → z ≡ y ++ named_parts n qs
    → z ≡ x ++ named_parts n (ps ++ qs) =
    λ n p q. q ∙ ap (λ s. s ++ named_parts n qs) p
    ∙ append_assoc x _ _ ∙ ap (λ s. x ++ s) (sym (named_parts-append n ps qs)) in (
      subst (λ js. Names a c js (λ n. z ≡ x ++ named_parts n (ps ++ qs)))
          (sym (ids_of_parts-append ps qs))
          (names_then a b c (ids_of_parts ps) (ids_of_parts qs)
          (λ n. y ≡ x ++ named_parts n ps) (λ n. z ≡ y ++ named_parts n qs)
          (λ n. z ≡ x ++ named_parts n (ps ++ qs)) f.0 g.0 joined),
      table_then a b c (λ n. y ≡ x ++ named_parts n ps) (λ n. z ≡ y ++ named_parts n qs)
          (λ n. z ≡ x ++ named_parts n (ps ++ qs)) f.1 g.1 joined,
    )

-- parts without ids
pub write_same : (a : ValueNumbers) (ps : List Part) (x y : List ℕ) → ids_of_parts ps ≡ []
    → ((n : Numbering) → y ≡ x ++ named_parts n ps) → Writes a a ps x y
write_same a ps x y none same = (
  subst (λ js. Names a a js (λ n. y ≡ x ++ named_parts n ps)) (sym none)
      (names_none a (λ n. y ≡ x ++ named_parts n ps) same),
  table_none a (λ n. y ≡ x ++ named_parts n ps) same,
)

-- ---- one token

module _ (form : Form) (label : List ℕ) where
  by_some : (b : Bool) (v : List ℕ) → b ≡ false
      → cond {A = List Id} b [] ((label, v) ∷ []) ≡ (label, v) ∷ []
  by_some true v e = cc
  by_some false v e = refl

  token_ids : (t v : List ℕ) → v ≡ value label form t → is_nothing v ≡ false
      → ids_of_parts (token form label t ∷ []) ≡ (label, v) ∷ []
  token_ids t v e some =
      by_some (is_nothing (value label form t)) (value label form t) (ap is_nothing (sym e) ∙ some)
      ∙ ap (λ (w : List ℕ). (label, w) ∷ []) (sym e)

  pub few_token : (a : ValueNumbers) (t v : List ℕ) → v ≡ value label form t
      → is_nothing v ≡ false → HasRoom a (label, v)
      → FitsLimit a (ids_of_parts (token form label t ∷ []))
  few_token a t v e some room =
      subst (FitsLimit a) (sym (token_ids t v e some)) (fits_one a label v room)

  pub full_token : (a : ValueNumbers) (t v : List ℕ) → v ≡ value label form t
      → is_nothing v ≡ false → IsFull a (label, v)
      → ExceedsLimit a (ids_of_parts (token form label t ∷ []))
  full_token a t v e some full =
      subst (ExceedsLimit a) (sym (token_ids t v e some)) (exceeds_one a label v full)

-- ---- reading the parts

module _ (labels : Labels) where
  skipped : (k : ℕ) (s : List ℕ)
      → parts_from labels k false s ≡ parts_from labels 0 false (drop k s)
  skipped zero [] = refl
  skipped (suc k) [] = refl
  skipped zero (b ∷ s) = refl
  skipped (suc k) (b ∷ s) = skipped k s

  -- the parts of a text that starts with a token
  pub read_part : (d : Bool) (rest part : List ℕ) (k : ℕ) (s : List ℕ) (t : Token)
      → rest ≡ k ∷ s → token_at labels d rest ≡ Some t → part ≡ take t.count rest
      → parts_from labels 0 d rest
      ≡ token t.form t.label part ∷ parts_from labels 0 false (drop t.count rest)
  read_part d rest part k s t split found first =
      let some = count_some labels d rest t found in
      let m = t.count - 1 in
      let more : t.count ≡ suc m = omega (arith, some) in
      let part_is : k ∷ take m s ≡ part =
      ap (λ n. take n (k ∷ s)) (sym more) ∙ ap (take t.count) (sym split) ∙ sym first in
      let rest_is : drop m s ≡ drop t.count rest =
      ap (λ n. drop n (k ∷ s)) (sym more) ∙ ap (drop t.count) (sym split) in
      ap (parts_from labels 0 d) split
      ∙ of_token labels d k s t m (ap (token_at labels d) (sym split) ∙ found) more
      ∙ ap (λ (p : List ℕ). token t.form t.label p ∷ parts_from labels m false s) part_is
      ∙ ap (λ ps. token t.form t.label part ∷ ps)
      (skipped m s ∙ ap (parts_from labels 0 false) rest_is)

  -- ---- the step of a reader

  -- the parts `ps` are written within the limit, and the others are left
  abbrev pub Reads : ValueNumbers → ValueNumbers → List Part → Bool → List ℕ → List ℕ → List ℕ
      → Type 0
  Reads a c all d rest x y = (ps : List Part) × (ps ++ parts_from labels 0 d rest ≡ all)
      × Writes a c ps x y × FitsLimit a (ids_of_parts ps)

  -- some more parts, without ids
  pub same_step : (a c : ValueNumbers) (all ps : List Part) (d e : Bool) (rest others : List ℕ)
      (x y z : List ℕ) → Reads a c all d rest x y
      → parts_from labels 0 d rest ≡ ps ++ parts_from labels 0 e others → ids_of_parts ps ≡ []
      → ((n : Numbering) → z ≡ y ++ named_parts n ps) → Reads a c all e others x z
  same_step a c all ps d e rest others x y z h read none same = (
    h.0 ++ ps,
    append_assoc h.0 ps (parts_from labels 0 e others) ∙ ap (λ qs. h.0 ++ qs) (sym read) ∙ h.1,
    write_then a c c h.0 ps x y z h.2 (write_same c ps y z none same),
    subst (FitsLimit a) (sym (ids_of_parts-append h.0 ps
        ∙ ap (λ js. ids_of_parts h.0 ++ js) none ∙ append-nil _)) h.3,
  )

  pub literal_step : (a c : ValueNumbers) (all : List Part) (d e : Bool) (rest : List ℕ) (b : ℕ)
      (s : List ℕ) (x y z : List ℕ) → Reads a c all d rest x y → rest ≡ b ∷ s
      → token_at labels d rest ≡ None → e ≡ is_ascii_hexdigit b → z ≡ y ++ b ∷ []
      → Reads a c all e s x z
  literal_step a c all d e rest b s x y z h split none digit written =
      same_step a c all (literal b ∷ []) d e rest s x y z h
      (ap (parts_from labels 0 d) split
      ∙ of_byte labels d b s (ap (token_at labels d) (sym split) ∙ none)
      ∙ ap (λ f. literal b ∷ parts_from labels 0 f s) (sym digit)) refl (λ n. written)

  pub token_step : (a b c : ValueNumbers) (all : List Part) (d : Bool) (rest part others : List ℕ)
      (k : ℕ) (s : List ℕ) (t : Token) (x y z : List ℕ) → Reads a b all d rest x y
      → rest ≡ k ∷ s → token_at labels d rest ≡ Some t → part ≡ take t.count rest
      → others ≡ drop t.count rest → Writes b c (token t.form t.label part ∷ []) y z
      → limit_of b ≡ limit_of a → FitsLimit b (ids_of_parts (token t.form t.label part ∷ []))
      → Reads a c all false others x z
  token_step a b c all d rest part others k s t x y z h split found first after written same few =
      let one = token t.form t.label part in
      let read : parts_from labels 0 d rest ≡ one ∷ parts_from labels 0 false others =
      read_part d rest part k s t split found first
      ∙ ap (λ r. one ∷ parts_from labels 0 false r) (sym after) in (
        h.0 ++ one ∷ [],
        append_assoc h.0 (one ∷ []) (parts_from labels 0 false others)
            ∙ ap (λ ps. h.0 ++ ps) (sym read) ∙ h.1,
        write_then a b c h.0 (one ∷ []) x y z h.2 written,
        subst (FitsLimit a) (sym (ids_of_parts-append h.0 (one ∷ [])))
            (fits_then a b (ids_of_parts h.0) (λ n. y ≡ x ++ named_parts n h.0) h.2.0 same
            (ids_of_parts (one ∷ [])) h.3 few),
      )

  -- a token whose id exceeds the limit
  pub full_step : (a b : ValueNumbers) (all : List Part) (d : Bool) (rest part : List ℕ) (k : ℕ)
      (s : List ℕ) (t : Token) (x y : List ℕ) → Reads a b all d rest x y → rest ≡ k ∷ s
      → token_at labels d rest ≡ Some t → part ≡ take t.count rest
      → limit_of b ≡ limit_of a
      → ExceedsLimit b (ids_of_parts (token t.form t.label part ∷ []))
      → ExceedsLimit a (ids_of_parts all)
  full_step a b all d rest part k s t x y h split found first same full =
      let one = token t.form t.label part in
      let others = parts_from labels 0 false (drop t.count rest) in
      let read : ids_of_parts (parts_from labels 0 d rest)
      ≡ ids_of_parts (one ∷ []) ++ ids_of_parts others =
      ap ids_of_parts (read_part d rest part k s t split found first)
      ∙ ids_of_parts-append (one ∷ []) others in
      let whole : ids_of_parts all
      ≡ ids_of_parts h.0 ++ (ids_of_parts (one ∷ []) ++ ids_of_parts others) =
      ap ids_of_parts (sym h.1) ∙ ids_of_parts-append h.0 _
      ∙ ap (λ is. ids_of_parts h.0 ++ is) read in
      subst (ExceedsLimit a) (sym whole)
      (exceeds_then a b (ids_of_parts h.0) (λ n. y ≡ x ++ named_parts n h.0) h.2.0 same
      (ids_of_parts (one ∷ [])) (ids_of_parts others) full)

  -- ---- the parts of a text

  pub parts_whole : (label s : List ℕ) → labels Whole ≡ Some label
      → token Whole label s ∷ [] ≡ parts labels s
  parts_whole label s e =
      sym (ap (λ o. whole_or o s (parts_from labels 0 false s)) e)

  pub parts_other : (s : List ℕ) → labels Whole ≡ None
      → parts_from labels 0 false s ≡ parts labels s
  parts_other s e = sym (ap (λ o. whole_or o s (parts_from labels 0 false s)) e)

pub same_writes : (a c : ValueNumbers) (ps qs : List Part) (x y : List ℕ) → ps ≡ qs → x ≡ []
    → Writes a c ps x y → Writes a c qs [] y
same_writes a c ps qs x y e f h =
    subst (λ (t : List ℕ). Writes a c qs t y) f (subst (λ rs. Writes a c rs x y) e h)

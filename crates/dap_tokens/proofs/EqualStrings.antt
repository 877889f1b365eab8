-- When named strings are equal.
use Rattle.std.proofs.Common.{◌≡◌, ◌↔◌, ℕ, Bool, true, false, List, [], ◌∷◌, ◌++◌, refl, sym, ap}
use Rattle.std.proofs.Common.{ap₂, ◌∙◌, map, arith}
use Rattle.std.specs.Prelude.{decimal}
use Rattle.std.proofs.lemmas.Fmt.{decimal_injective}
use Rattle.dap_tokens.specs.Tokens.{Labels, name, Part, literal, token, parts}
use Rattle.dap_tokens.specs.Values.{value, is_nothing}
use Rattle.dap_tokens.specs.Naming.{Id, Numbering, ids_of_parts, ids, named_token, named_parts}
use Rattle.dap_tokens.specs.Naming.{named, skeleton, IsNumbering, numbered, named_by}
use Rattle.dap_tokens.specs.Laws.{AreLabels}
use Rattle.dap_tokens.specs.declared.form.Form.{Form}
use Rattle.dap_tokens.proofs.Booleans.{by_bool, no_test}
use Rattle.dap_tokens.proofs.Written.{unnamed, renamed, part_stays, part_changes, named_part}
use Rattle.dap_tokens.proofs.Written.{name_form, parts_of_named}
use Rattle.dap_tokens.proofs.NamedStrings.{no_id, one_id, is_id_named, names_are_read, named_twice}

abbrev one : Numbering
one label v = 1

ones : IsNumbering one
ones label v = (omega arith, omega arith)

-- the label and the number of an id
abbrev number_of : Numbering → Id → List ℕ × ℕ
number_of number i = (i.0, number i.0 i.1)

-- the label and the digits of an id
abbrev digits_of : Numbering → Id → Id
digits_of number i = (i.0, decimal (number i.0 i.1))

-- equal digits, equal numbers
same_number : (number other : Numbering) → IsNumbering number → IsNumbering other → (i j : Id)
    → digits_of number i ≡ digits_of other j → number_of number i ≡ number_of other j
same_number number other h k i j e = ap₂ (λ (l : List ℕ) (n : ℕ). (l, n)) (ap (λ (x : Id). x.0) e)
    (decimal_injective (number i.0 i.1) (other j.0 j.1) (h i.0 i.1).1 (k j.0 j.1).1
    (ap (λ (x : Id). x.1) e))

same_numbers : (number other : Numbering) → IsNumbering number → IsNumbering other
    → (is js : List Id) → named_by number is ≡ named_by other js
    → numbered number is ≡ numbered other js
same_numbers number other h k [] [] e = refl
same_numbers number other h k [] (j ∷ js) e = absurd cc
same_numbers number other h k (i ∷ is) [] e = absurd cc
same_numbers number other h k (i ∷ is) (j ∷ js) e =
    let first : digits_of number i ≡ digits_of other j = cc in
    let later : named_by number is ≡ named_by other js = cc in
    ap₂ (λ x y. x ∷ y) (same_number number other h k i j first)
    (same_numbers number other h k is js later)

-- the form, the label and the bytes of a token
record ReadToken : Type 0 where
  form : Form
  label : List ℕ
  bytes : List ℕ

abbrev part : ReadToken → Part
part t = token t.form t.label t.bytes

abbrev value_in : ReadToken → List ℕ
value_in t = value t.label t.form t.bytes

abbrev id_in : ReadToken → Id
id_in t = (t.label, value_in t)

abbrev token_of : Part → ReadToken
token_of (literal b) = record { form = Form.Whole; label = []; bytes = [] }
token_of (token form label t) = record { form = form; label = label; bytes = t }

module _ (labels : Labels) (number other : Numbering) where
  abbrev mark : Part → Part
  mark p = named_part labels one p

  record SameToken (t u : ReadToken) (ps qs : List Part) : Type 0 where
    names : named_token number t.form t.label t.bytes ≡ named_token other u.form u.label u.bytes
    later : numbered number (ids_of_parts ps) ≡ numbered other (ids_of_parts qs)

  abbrev SameIds : ReadToken → ReadToken → List Part → List Part → Type 0
  SameIds t u ps qs = numbered number (ids_of_parts (part t ∷ ps))
      ≡ numbered other (ids_of_parts (part u ∷ qs))

  both_stay : (t u : ReadToken) (ps qs : List Part) → is_nothing (value_in t) ≡ true
      → is_nothing (value_in u) ≡ true → mark (part t) ≡ mark (part u) → SameIds t u ps qs
      → SameToken t u ps qs
  both_stay t u ps qs h k e n =
      let same = sym (part_stays labels one t.form t.label t.bytes h) ∙ e
      ∙ part_stays labels one u.form u.label u.bytes k in
      record {
        names = unnamed number t.form t.label t.bytes h
            ∙ ap (λ p. (token_of p).bytes) same ∙ sym (unnamed other u.form u.label u.bytes k);
        later = sym (ap (numbered number) (no_id (id_in t) (ids_of_parts ps) h)) ∙ n
            ∙ ap (numbered other) (no_id (id_in u) (ids_of_parts qs) k);
      }

  both_change : (t u : ReadToken) (ps qs : List Part) → is_nothing (value_in t) ≡ false
      → is_nothing (value_in u) ≡ false → SameIds t u ps qs → SameToken t u ps qs
  both_change t u ps qs h k n =
      let all : number_of number (id_in t) ∷ numbered number (ids_of_parts ps)
      ≡ number_of other (id_in u) ∷ numbered other (ids_of_parts qs)
      = sym (ap (numbered number) (one_id (id_in t) (ids_of_parts ps) h)) ∙ n
      ∙ ap (numbered other) (one_id (id_in u) (ids_of_parts qs) k) in
      let first : number_of number (id_in t) ≡ number_of other (id_in u) = cc in
      let rest : numbered number (ids_of_parts ps) ≡ numbered other (ids_of_parts qs) = cc in
      record {
        names = renamed number t.form t.label t.bytes h
            ∙ ap (λ (x : List ℕ × ℕ). name x.0 (decimal x.1)) first
            ∙ sym (renamed other u.form u.label u.bytes k);
        later = rest;
      }

  one_stays : (t u : ReadToken) → is_nothing (value_in t) ≡ true → is_nothing (value_in u) ≡ false
      → mark (part t) ≡ mark (part u) → ⊥
  one_stays t u h k e =
      let same = sym (part_stays labels one t.form t.label t.bytes h) ∙ e
      ∙ part_changes labels one u.form u.label u.bytes k in
      no_test (is_nothing (value_in t)) h
      (ap (λ p. is_nothing (value_in (token_of p))) same
      ∙ is_id_named labels one ones (name_form labels u.label) u.label (value_in u))

  same_token : (t u : ReadToken) (ps qs : List Part) → mark (part t) ≡ mark (part u)
      → SameIds t u ps qs → SameToken t u ps qs
  same_token t u ps qs e n = by_bool (is_nothing (value_in t))
      (λ h. by_bool (is_nothing (value_in u))
      (λ k. both_stay t u ps qs h k e n)
      (λ k. absurd (one_stays t u h k e)))
      (λ h. by_bool (is_nothing (value_in u))
      (λ k. absurd (one_stays u t k h (sym e)))
      (λ k. both_change t u ps qs h k n))

  -- a marked token is a token
  abbrev is_token : Part → Bool
  is_token (literal b) = false
  is_token (token form label t) = true

  marked_token : (t : ReadToken) → is_token (mark (part t)) ≡ true
  marked_token t = by_bool (is_nothing (value_in t))
      (λ k. ap is_token (part_stays labels one t.form t.label t.bytes k))
      (λ k. ap is_token (part_changes labels one t.form t.label t.bytes k))

  same_parts : (ps qs : List Part) → map mark ps ≡ map mark qs
      → numbered number (ids_of_parts ps) ≡ numbered other (ids_of_parts qs)
      → named_parts number ps ≡ named_parts other qs
  same_parts [] [] e n = refl
  same_parts [] (q ∷ qs) e n = absurd cc
  same_parts (p ∷ ps) [] e n = absurd cc
  same_parts (literal b ∷ ps) (literal c ∷ qs) e n =
      let first : b ≡ c = cc in
      let later : map mark ps ≡ map mark qs = cc in
      ap₂ (λ x y. x ∷ y) first (same_parts ps qs later n)
  same_parts (literal b ∷ ps) (token form label t ∷ qs) e n =
      let first : literal b ≡ mark (token form label t) = cc in
      no_test (is_token (mark (token form label t)))
      (marked_token (token_of (token form label t))) (ap is_token (sym first))
  same_parts (token form label t ∷ ps) (literal c ∷ qs) e n =
      let first : mark (token form label t) ≡ literal c = cc in
      no_test (is_token (mark (token form label t)))
      (marked_token (token_of (token form label t))) (ap is_token first)
  same_parts (token form label t ∷ ps) (token other_form other_label u ∷ qs) e n =
      let first : mark (token form label t) ≡ mark (token other_form other_label u) = cc in
      let later : map mark ps ≡ map mark qs = cc in
      let one_read = token_of (token form label t) in
      let other_read = token_of (token other_form other_label u) in
      let same = same_token one_read other_read ps qs
      first n in
      ap₂ (λ x y. x ++ y) same.names (same_parts ps qs later same.later)

pub equal_named : (labels : Labels) (number other : Numbering) (s t : List ℕ) → AreLabels labels
    → IsNumbering number → IsNumbering other
    → (named labels number s ≡ named labels other t)
    ↔ ((skeleton labels s ≡ skeleton labels t)
    × (numbered number (ids labels s) ≡ numbered other (ids labels t)))
equal_named labels number other s t l h k = (
  λ e. (
    sym (named_twice labels number one s l h) ∙ ap (named labels one) e
        ∙ named_twice labels other one t l k,
    same_numbers number other h k (ids labels s) (ids labels t)
        (sym (names_are_read labels number s l h) ∙ ap (ids labels) e
        ∙ names_are_read labels other t l k),
  ),
  λ e. same_parts labels number other (parts labels s) (parts labels t)
      (sym (parts_of_named labels one s l ones) ∙ ap (parts labels) e.0
      ∙ parts_of_named labels one t l ones) e.1,
)

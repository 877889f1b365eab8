-- What holds for named strings.
use Rattle.std.proofs.Common.{◌≡◌, ℕ, true, false, cond, List, [], ◌∷◌, ◌++◌, refl, sym, ap, ap₂}
use Rattle.std.proofs.Common.{◌∙◌, map}
use Rattle.std.specs.Prelude.{decimal}
use Rattle.dap_tokens.specs.Tokens.{Labels, is_numeral, name, Part, literal, token, parts}
use Rattle.dap_tokens.specs.Values.{value, is_nothing}
use Rattle.dap_tokens.specs.Naming.{Id, Numbering, ids_of_parts, ids, named_token, named_parts}
use Rattle.dap_tokens.specs.Naming.{named, IsNumbering, named_by}
use Rattle.dap_tokens.specs.Laws.{AreLabels}
use Rattle.dap_tokens.specs.declared.form.Form.{Form}
use Rattle.dap_tokens.proofs.Booleans.{by_bool}
use Rattle.dap_tokens.proofs.Numerals.{numeral_of}
use Rattle.dap_tokens.proofs.NameValues.{value_of_name, numeral_is_id}
use Rattle.dap_tokens.proofs.Written.{unnamed, renamed, part_stays, part_changes, named_part}
use Rattle.dap_tokens.proofs.Written.{name_form, parts_of_named}

-- ---- ids

abbrev pub add_id : Id → List Id → List Id
add_id i is = cond (is_nothing i.1) is (i ∷ is)

pub no_id : (i : Id) (is : List Id) → is_nothing i.1 ≡ true → add_id i is ≡ is
no_id i is h = rw h refl

pub one_id : (i : Id) (is : List Id) → is_nothing i.1 ≡ false → add_id i is ≡ i ∷ is
one_id i is h = rw h refl

module _ (labels : Labels) (number : Numbering) (h : IsNumbering number) where
  abbrev text : List ℕ → List ℕ → List ℕ
  text label v = decimal (number label v)

  abbrev marked : List Part → List Part
  marked ps = map (named_part labels number) ps

  pub numeral : (label v : List ℕ) → is_numeral (text label v) ≡ true
  numeral label v = numeral_of (number label v) (h label v).0 (h label v).1

  -- the value of a name, with any form
  pub value_named : (form : Form) (label v : List ℕ)
      → value label form (name label (text label v)) ≡ text label v
  value_named form label v = value_of_name label form (text label v) (numeral label v)

  pub is_id_named : (form : Form) (label v : List ℕ)
      → is_nothing (value label form (name label (text label v))) ≡ false
  is_id_named form label v = ap is_nothing (value_named form label v)
      ∙ numeral_is_id (text label v) (numeral label v)

  pub ids_marked : (ps : List Part) → ids_of_parts (marked ps) ≡ named_by number (ids_of_parts ps)
  ids_marked [] = refl
  ids_marked (literal b ∷ ps) = ids_marked ps
  ids_marked (token form label t ∷ ps) =
      let v = value label form t in
      let later = ids_of_parts (marked ps) in
      by_bool (is_nothing v)
      (λ k. ap (λ p. ids_of_parts (p ∷ marked ps)) (part_stays labels number form label t k)
      ∙ no_id (label, v) later k ∙ ids_marked ps
      ∙ sym (ap (named_by number) (no_id (label, v) (ids_of_parts ps) k)))
      (λ k. let f = name_form labels label in
      ap (λ p. ids_of_parts (p ∷ marked ps)) (part_changes labels number form label t k)
      ∙ one_id (label, value label f (name label (text label v))) later (is_id_named f label v)
      ∙ ap₂ (λ x is. (label, x) ∷ is) (value_named f label v) (ids_marked ps)
      ∙ sym (ap (named_by number) (one_id (label, v) (ids_of_parts ps) k)))

  -- ---- named twice

  module _ (other : Numbering) where
    abbrev both : Numbering
    both label v = other label (text label v)

    token_twice : (form : Form) (label t : List ℕ) (ps : List Part)
        → named_parts other (named_part labels number (token form label t) ∷ ps)
        ≡ named_token both form label t ++ named_parts other ps
    token_twice form label t ps = by_bool (is_nothing (value label form t))
        (λ k. ap (λ p. named_parts other (p ∷ ps)) (part_stays labels number form label t k)
        ∙ ap (λ x. x ++ named_parts other ps)
        (unnamed other form label t k ∙ sym (unnamed both form label t k)))
        (λ k. let f = name_form labels label in
        let v = value label form t in
        ap (λ p. named_parts other (p ∷ ps)) (part_changes labels number form label t k)
        ∙ ap (λ x. x ++ named_parts other ps)
        (renamed other f label (name label (text label v)) (is_id_named f label v)
        ∙ ap (λ x. name label (decimal (other label x))) (value_named f label v)
        ∙ sym (renamed both form label t k)))

    pub parts_twice : (ps : List Part) → named_parts other (marked ps) ≡ named_parts both ps
    parts_twice [] = refl
    parts_twice (literal b ∷ ps) = ap (λ x. b ∷ x) (parts_twice ps)
    parts_twice (token form label t ∷ ps) = token_twice form label t (marked ps)
        ∙ ap (λ x. named_token both form label t ++ x) (parts_twice ps)

pub names_are_read : (labels : Labels) (number : Numbering) (s : List ℕ) → AreLabels labels
    → IsNumbering number → ids labels (named labels number s) ≡ named_by number (ids labels s)
names_are_read labels number s l h =
    ap ids_of_parts (parts_of_named labels number s l h)
    ∙ ids_marked labels number h (parts labels s)

pub named_twice : (labels : Labels) (number other : Numbering) (s : List ℕ) → AreLabels labels
    → IsNumbering number → named labels other (named labels number s)
    ≡ named labels (λ label v. other label (decimal (number label v))) s
named_twice labels number other s l h =
    ap (named_parts other) (parts_of_named labels number s l h)
    ∙ parts_twice labels number h other (parts labels s)

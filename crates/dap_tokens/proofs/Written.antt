-- The parts of a named string.
use Rattle.std.proofs.Common.{◌≡◌, ℕ, Bool, true, false, cond, List, [], ◌∷◌, ◌++◌, length, map}
use Rattle.std.proofs.Common.{Option, Some, None, is_some, inl, inr, refl, sym, ap, ◌∙◌, subst}
use Rattle.std.proofs.Common.{append-nil}
use Rattle.std.specs.Prelude.{decimal}
use Rattle.dap_tokens.specs.Tokens.{Labels, token_at, tried, name, Part, literal, token, parts}
use Rattle.dap_tokens.specs.Tokens.{parts_from, whole_or}
use Rattle.dap_tokens.specs.Values.{value, is_nothing}
use Rattle.dap_tokens.specs.Naming.{Numbering, named_token, named_parts, named, IsNumbering}
use Rattle.dap_tokens.specs.Laws.{AreLabels}
use Rattle.dap_tokens.specs.declared.form.Form.{Form}
use Rattle.dap_tokens.specs.declared.form.Form.TheVariants.{Whole}
use Rattle.dap_tokens.proofs.Booleans.{by_bool, no_test}
use Rattle.dap_tokens.proofs.FirstTokens.{token_with, found_count, found_some}
use Rattle.dap_tokens.proofs.Starts.{token_counts, token_of, label_of, form_scans, beside_uuids}
use Rattle.dap_tokens.proofs.Readings.{Read, ended, byte, found, parts_are_read, read_is}
use Rattle.dap_tokens.proofs.Agrees.{Agree, has_uuids, begins_hexdigit, within_all}
use Rattle.dap_tokens.proofs.Agrees.{end as agree_end, byte as agree_byte, stays, changed}
use Rattle.dap_tokens.proofs.Classes.{name_rest}
use Rattle.dap_tokens.proofs.Literals.{stays_literal}
use Rattle.dap_tokens.proofs.TokensAgain.{token_begins}
use Rattle.dap_tokens.proofs.Stays.{name_first, nothing_form, stay_ends, stays_token}
use Rattle.dap_tokens.proofs.FirstNames.{form_with, name_again}
use Rattle.dap_tokens.proofs.Numerals.{numeral_of}

-- beside UUIDs, a token starts with a hexadecimal digit only if no literal one comes before
starts : (labels : Labels) (form : Form) (label : List ℕ) (d : Bool) (b : ℕ) (t s : List ℕ)
    → token_at labels d (b ∷ t ++ s) ≡ Some (token_with form label (length (b ∷ t)))
    → has_uuids labels ≡ true → begins_hexdigit (b ∷ t ++ s) ≡ true → d ≡ false
starts labels form label d b t s h u digit =
    let first = token_with form label (length (b ∷ t)) in
    elim (token_of labels d (b ∷ t ++ s) first h) [
      | inl k ↦ (let is = name_first labels form label (b ∷ t) s k in
          no_test (begins_hexdigit (b ∷ t ++ s)) digit
          (ap (λ x. begins_hexdigit (x ++ s)) is.whole))
      | inr (n, k) ↦ (let count = found_count labels (token_counts d (b ∷ t ++ s)) first
          (tried labels) k in
          token_begins form d (b ∷ t ++ s) (beside_uuids labels d (b ∷ t ++ s) first u k)
          (λ z. found_some labels (token_counts d (b ∷ t ++ s)) first (tried labels) k
          (sym count ∙ z)))
    ]

-- ---- one token

pub unnamed : (number : Numbering) (form : Form) (label t : List ℕ)
    → is_nothing (value label form t) ≡ true → named_token number form label t ≡ t
unnamed number form label t h = rw h refl

pub renamed : (number : Numbering) (form : Form) (label t : List ℕ)
    → is_nothing (value label form t) ≡ false → named_token number form label t
    ≡ name label (decimal (number label (value label form t)))
renamed number form label t h = rw h refl

-- the form of a name that replaces a token
abbrev pub name_form : Labels → List ℕ → Form
name_form labels label = cond (is_some (labels Whole)) Whole (form_with labels label)

-- the part after naming; the form of a name is that of the first form with its label
abbrev pub named_part : Labels → Numbering → Part → Part
named_part labels number (literal b) = literal b
named_part labels number (token form label t) =
    cond (is_nothing (value label form t)) (token form label t)
    (token (name_form labels label) label
    (name label (decimal (number label (value label form t)))))

pub part_stays : (labels : Labels) (number : Numbering) (form : Form) (label t : List ℕ)
    → is_nothing (value label form t) ≡ true
    → named_part labels number (token form label t) ≡ token form label t
part_stays labels number form label t h = rw h refl

pub part_changes : (labels : Labels) (number : Numbering) (form : Form) (label t : List ℕ)
    → is_nothing (value label form t) ≡ false → named_part labels number (token form label t)
    ≡ token (name_form labels label) label
    (name label (decimal (number label (value label form t))))
part_changes labels number form label t h = rw h refl

-- ---- the string

module _ (labels : Labels) (number : Numbering) (l : AreLabels labels) (h : IsNumbering number)
    (n : labels Whole ≡ None) where
  abbrev written : List Part → List ℕ
  written ps = named_parts number ps

  abbrev marked : List Part → List Part
  marked ps = map (named_part labels number) ps

  agreed : {d : Bool} {s : List ℕ} {ps : List Part} → Read labels d s ps
      → Agree labels 0 d s (written ps)
  agreed ended = agree_end
  agreed (byte e r) = agree_byte (agreed r)
  agreed (found {d} {u} {s} {ps} form label b t e m r) =
      let here = ap (token_at labels d) (sym e) ∙ m in
      by_bool (is_nothing (value label form (b ∷ t)))
      (λ k. let same = unnamed number form label (b ∷ t) k in
      let is = nothing_form labels form label d (b ∷ t) s k here in
      subst (λ x. Agree labels 0 d u (x ++ written ps)) (sym same)
      (subst (λ x. Agree labels 0 d x (b ∷ t ++ written ps)) (sym e)
      (stays (length t) (stay_ends labels form label d b t s is) (within_all t (agreed r)))))
      (λ k. let same = renamed number form label (b ∷ t) k in
      subst (λ x. Agree labels 0 d u (x ++ written ps)) (sym same)
      (subst (λ x. Agree labels 0 d x
      (name label (decimal (number label (value label form (b ∷ t)))) ++ written ps)) (sym e)
      (changed (starts labels form label d b t s here))))

  name_form_is : (label : List ℕ) → name_form labels label ≡ form_with labels label
  name_form_is label = ap (λ o. cond (is_some o) Whole (form_with labels label)) n

  name_part : (d : Bool) (form : Form) (label t s v w : List ℕ)
      → token_at labels d (t ++ s) ≡ Some (token_with form label (length t))
      → token_at labels d (name label (decimal (number label v)) ++ w)
      ≡ Some (token_with (name_form labels label) label
      (length (name label (decimal (number label v)))))
  name_part d form label t s v w m =
      let first = token_with form label (length t) in
      let k = decimal (number label v) in
      let has = label_of labels d (t ++ s) first m in
      name_again labels l label k w (l form label has)
      (numeral_of (number label v) (h label v).0 (h label v).1) d form
      (form_scans labels d (t ++ s) first m) has
      ∙ ap (λ f. Some (token_with f label (length (name label k)))) (sym (name_form_is label))

  pub read_again : {d : Bool} {s : List ℕ} {ps : List Part} → Read labels d s ps
      → Read labels d (written ps) (marked ps)
  read_again ended = ended
  read_again (byte {d} {b} {s} {ps} e r) =
      byte (stays_literal labels d b l (agreed r) e) (read_again r)
  read_again (found {d} {u} {s} {ps} form label b t e m r) =
      let here = ap (token_at labels d) (sym e) ∙ m in
      by_bool (is_nothing (value label form (b ∷ t)))
      (λ k. let is = nothing_form labels form label d (b ∷ t) s k here in
      subst (λ x. Read labels d (x ++ written ps) (marked (token form label (b ∷ t) ∷ ps)))
      (sym (unnamed number form label (b ∷ t) k))
      (subst (λ p. Read labels d (b ∷ t ++ written ps) (p ∷ marked ps))
      (sym (part_stays labels number form label (b ∷ t) k))
      (found form label b t refl (stays_token labels form label d b t (agreed r) is)
      (read_again r))))
      (λ k. let v = value label form (b ∷ t) in
      let text = name label (decimal (number label v)) in
      subst (λ x. Read labels d (x ++ written ps) (marked (token form label (b ∷ t) ∷ ps)))
      (sym (renamed number form label (b ∷ t) k))
      (subst (λ p. Read labels d (text ++ written ps) (p ∷ marked ps))
      (sym (part_changes labels number form label (b ∷ t) k))
      (found (name_form labels label) label 60 (name_rest label (decimal (number label v))) refl
      (name_part d form label (b ∷ t) s v (written ps) here) (read_again r))))

  pub scanned_again : (s : List ℕ)
      → parts_from labels 0 false (written (parts_from labels 0 false s))
      ≡ marked (parts_from labels 0 false s)
  scanned_again s = read_is labels (read_again (parts_are_read labels false s))

-- ---- the whole string

whole_part : (labels : Labels) (number : Numbering) (label s : List ℕ) → labels Whole ≡ Some label
    → token Whole label (named_token number Whole label s)
    ≡ named_part labels number (token Whole label s)
whole_part labels number label s w = by_bool (is_nothing (value label Whole s))
    (λ k. ap (token Whole label) (unnamed number Whole label s k)
    ∙ sym (part_stays labels number Whole label s k))
    (λ k. let text = name label (decimal (number label (value label Whole s))) in
    ap (token Whole label) (renamed number Whole label s k)
    ∙ ap (λ o. token (cond (is_some o) Whole (form_with labels label)) label text) (sym w)
    ∙ sym (part_changes labels number Whole label s k))

parts_by : (labels : Labels) (number : Numbering) (s : List ℕ) (o : Option (List ℕ))
    → labels Whole ≡ o → AreLabels labels → IsNumbering number
    → whole_or o (named_parts number (whole_or o s (parts_from labels 0 false s)))
    (parts_from labels 0 false (named_parts number (whole_or o s (parts_from labels 0 false s))))
    ≡ map (named_part labels number) (whole_or o s (parts_from labels 0 false s))
parts_by labels number s None w l h = scanned_again labels number l h w s
parts_by labels number s (Some label) w l h =
    ap (λ x. token Whole label x ∷ []) (append-nil (named_token number Whole label s))
    ∙ ap (λ p. p ∷ []) (whole_part labels number label s w)

-- the parts of a named string are the parts of the string, named
pub parts_of_named : (labels : Labels) (number : Numbering) (s : List ℕ) → AreLabels labels
    → IsNumbering number
    → parts labels (named labels number s) ≡ map (named_part labels number) (parts labels s)
parts_of_named labels number s l h = parts_by labels number s (labels Whole) refl l h

-- The token of the first of some forms that has a label and bytes.
use Rattle.std.proofs.Common.{◌≡◌, ◌⊎◌, inl, inr, ℕ, ◌==◌, List, [], ◌∷◌, Option, Some, None, refl}
use Rattle.std.proofs.Common.{sym, ap, ◌∙◌, subst}
use Rattle.std.proofs.lemmas.Bool.{eqb-true, eqb-false, ne_eqb}
use Rattle.dap_tokens.specs.Tokens.{Labels, Token, token_or, first_token}
use Rattle.dap_tokens.specs.declared.form.Form.{Form}
use Rattle.dap_tokens.proofs.Booleans.{by_bool}

-- nothing with the label starts here
abbrev pub Skipped : Option (List ℕ) → (List ℕ → ℕ) → Type 0
Skipped o count = (label : List ℕ) → o ≡ Some label → count label ≡ 0

-- no token of the forms starts here
pub data AllSkipped (labels : Labels) (count : Form → List ℕ → ℕ) : List Form → Type 0 where
  none : AllSkipped labels count []
  more : {form : Form} {forms : List Form} → Skipped (labels form) (count form)
      → AllSkipped labels count forms → AllSkipped labels count (form ∷ forms)

-- the token is that of the first form that has a label and bytes
pub data Found (labels : Labels) (count : Form → List ℕ → ℕ) (t : Token)
    : List Form → Type 0 where
  here : {form : Form} {forms : List Form} → form ≡ t.form → labels t.form ≡ Some t.label
      → count t.form t.label ≡ t.count → (t.count ≡ 0 → ⊥) → Found labels count t (form ∷ forms)
  later : {form : Form} {forms : List Form} → Skipped (labels form) (count form)
      → Found labels count t forms → Found labels count t (form ∷ forms)

abbrev pub token_with : Form → List ℕ → ℕ → Token
token_with form label count = record { form = form; label = label; count = count }

-- ---- one form

or_skipped : (form : Form) (o : Option (List ℕ)) (count : List ℕ → ℕ) (other : Option Token)
    → Skipped o count → token_or form o count other ≡ other
or_skipped form None count other h = refl
or_skipped form (Some label) count other h = rw (h label refl) refl

or_some : (form : Form) (label : List ℕ) (count : List ℕ → ℕ) (other : Option Token)
    → (count label ≡ 0 → ⊥)
    → token_or form (Some label) count other ≡ Some (token_with form label (count label))
or_some form label count other h = rw (ne_eqb (count label) 0 h) refl

or_none : (form : Form) (o : Option (List ℕ)) (count : List ℕ → ℕ) (other : Option Token)
    → token_or form o count other ≡ None → Skipped o count × (other ≡ None)
or_none form None count other e = (λ label z. absurd cc, e)
or_none form (Some label) count other e = by_bool (count label == 0)
    (λ k. (
      λ l z. let same : label ≡ l = cc in ap count (sym same) ∙ eqb-true (count label) 0 k,
      rw k at e,
    ))
    (λ k. let no = rw k at e in absurd cc)

-- the form has this token
record Here (form : Form) (o : Option (List ℕ)) (count : List ℕ → ℕ) (t : Token) : Type 0 where
  same : form ≡ t.form
  labelled : o ≡ Some t.label
  counted : count t.label ≡ t.count
  some : t.count ≡ 0 → ⊥

or_found : (form : Form) (o : Option (List ℕ)) (count : List ℕ → ℕ) (other : Option Token)
    (t : Token) → token_or form o count other ≡ Some t
    → Here form o count t ⊎ (Skipped o count × (other ≡ Some t))
or_found form None count other t e = inr (λ label z. absurd cc, e)
or_found form (Some label) count other t e = by_bool (count label == 0)
    (λ k. inr (
      λ l z. let same : label ≡ l = cc in ap count (sym same) ∙ eqb-true (count label) 0 k,
      rw k at e,
    ))
    (λ k. let found = rw k at e in
    let is : token_with form label (count label) ≡ t = cc in
    let labels_are = ap (λ x. x.label) is in
    let counts_are = ap (λ x. x.count) is in
    inl (record {
      same = ap (λ x. x.form) is;
      labelled = ap Some labels_are;
      counted = ap count (sym labels_are) ∙ counts_are;
      some = λ z. eqb-false (count label) 0 k (counts_are ∙ z);
    }))

module _ (labels : Labels) (count : Form → List ℕ → ℕ) where
  pub first_skipped : (forms : List Form) (other : Option Token) → AllSkipped labels count forms
      → first_token labels count forms other ≡ other
  first_skipped [] other none = refl
  first_skipped (form ∷ forms) other (more s r) =
      or_skipped form (labels form) (count form) (first_token labels count forms other) s
      ∙ first_skipped forms other r

  pub first_found : (t : Token) (forms : List Form) (other : Option Token)
      → Found labels count t forms → first_token labels count forms other ≡ Some t
  first_found t [] other x = elim x [ ]
  first_found t (form ∷ forms) other (here e l n k) =
      let rest = first_token labels count forms other in
      ap (λ f. token_or f (labels f) (count f) rest) e
      ∙ ap (λ o. token_or t.form o (count t.form) rest) l
      ∙ or_some t.form t.label (count t.form) rest (λ z. k (sym n ∙ z))
      ∙ ap (λ m. Some (token_with t.form t.label m)) n
  first_found t (form ∷ forms) other (later s r) =
      or_skipped form (labels form) (count form) (first_token labels count forms other) s
      ∙ first_found t forms other r

  pub skipped_of : (forms : List Form) (other : Option Token)
      → first_token labels count forms other ≡ None
      → AllSkipped labels count forms × (other ≡ None)
  skipped_of [] other e = (none, e)
  skipped_of (form ∷ forms) other e =
      let first = or_none form (labels form) (count form)
      (first_token labels count forms other) e in
      let rest = skipped_of forms other first.1 in
      (more first.0 rest.0, rest.1)

  pub found_of : (t : Token) (forms : List Form) (other : Option Token)
      → first_token labels count forms other ≡ Some t
      → Found labels count t forms ⊎ (AllSkipped labels count forms × (other ≡ Some t))
  found_of t [] other e = inr (none, e)
  found_of t (form ∷ forms) other e =
      elim (or_found form (labels form) (count form) (first_token labels count forms other) t e) [
        | inl h ↦ inl (here h.same (ap labels (sym h.same) ∙ h.labelled)
            (ap (λ f. count f t.label) (sym h.same) ∙ h.counted) h.some)
        | inr (s, r) ↦ elim (found_of t forms other r) [
          | inl f ↦ inl (later s f)
          | inr (a, o) ↦ inr (more s a, o)
        ]
      ]

  -- ---- the found token

  pub found_label : (t : Token) (forms : List Form) → Found labels count t forms
      → labels t.form ≡ Some t.label
  found_label t [] x = elim x [ ]
  found_label t (form ∷ forms) (here e l n k) = l
  found_label t (form ∷ forms) (later s r) = found_label t forms r

  pub found_count : (t : Token) (forms : List Form) → Found labels count t forms
      → count t.form t.label ≡ t.count
  found_count t [] x = elim x [ ]
  found_count t (form ∷ forms) (here e l n k) = n
  found_count t (form ∷ forms) (later s r) = found_count t forms r

  pub found_some : (t : Token) (forms : List Form) → Found labels count t forms → t.count ≡ 0 → ⊥
  found_some t [] x = elim x [ ]
  found_some t (form ∷ forms) (here e l n k) = k
  found_some t (form ∷ forms) (later s r) = found_some t forms r

  -- ---- other counts

  pub skipped_again : (other : Form → List ℕ → ℕ) (forms : List Form)
      → ((form : Form) (label : List ℕ) → labels form ≡ Some label → count form label ≡ 0
      → other form label ≡ 0)
      → AllSkipped labels count forms → AllSkipped labels other forms
  skipped_again other [] f none = none
  skipped_again other (form ∷ forms) f (more s r) =
      more (λ label l. f form label l (s label l)) (skipped_again other forms f r)

  pub found_again : (other : Form → List ℕ → ℕ) (t : Token) (forms : List Form)
      → ((form : Form) (label : List ℕ) → labels form ≡ Some label → count form label ≡ 0
      → other form label ≡ 0)
      → (count t.form t.label ≡ t.count → other t.form t.label ≡ t.count)
      → Found labels count t forms → Found labels other t forms
  found_again other t [] f g x = elim x [ ]
  found_again other t (form ∷ forms) f g (here e l n k) = here e l (g n) k
  found_again other t (form ∷ forms) f g (later s r) =
      later (λ label l. f form label l (s label l)) (found_again other t forms f g r)

-- ---- the forms of a list

abbrev pub Each : (Form → Type 0) → List Form → Type 0
Each P [] = Unit {0}
Each P (form ∷ forms) = P form × Each P forms

pub found_in : (P : Form → Type 0) (labels : Labels) (count : Form → List ℕ → ℕ) (t : Token)
    (forms : List Form) → Each P forms → Found labels count t forms → P t.form
found_in P labels count t [] all x = elim x [ ]
found_in P labels count t (form ∷ forms) all (here e l n k) = subst P e all.0
found_in P labels count t (form ∷ forms) all (later s r) =
    found_in P labels count t forms all.1 r

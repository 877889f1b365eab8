-- A written name is read with the first form that has its label.
use Rattle.std.proofs.Common.{◌≡◌, ℕ, Bool, true, false, cond, List, [], ◌∷◌, ◌++◌, length, Option}
use Rattle.std.proofs.Common.{Some, None, refl, sym, ap, ap₂, ◌∙◌, append_assoc, arith}
use Rattle.std.specs.Str.{bytes_eq}
use Rattle.std.proofs.lemmas.Slice.Eq.{bytes_eq-Decides}
use Rattle.dap_words.specs.Runs.{all_of, begins_with}
use Rattle.std.specs.Char.{is_ascii_lowercase}
use Rattle.dap_tokens.specs.Tokens.{Labels, token_at, opening, name, name_length, is_of_label}
use Rattle.dap_tokens.specs.Tokens.{is_label, is_numeral}
use Rattle.dap_tokens.specs.Laws.{AreLabels}
use Rattle.dap_tokens.specs.declared.form.Form.{Form}
use Rattle.dap_tokens.specs.declared.form.Form.TheVariants.{Whole, Digits, Hex, Long, Uuid}
use Rattle.dap_tokens.proofs.Booleans.{by_bool, and_left, and_right, no_test}
use Rattle.dap_tokens.proofs.FirstTokens.{Found, here, later, token_with}
use Rattle.dap_tokens.proofs.Names.{name_read, name_unopened, regrouped}
use Rattle.dap_tokens.proofs.Starts.{name_counts, all_forms, Scans, name_here}

-- ---- another label

-- a blank ends a label
same_label : (a b x y : List ℕ) → all_of is_of_label a ≡ true → all_of is_of_label b ≡ true
    → a ++ 32 ∷ x ≡ b ++ 32 ∷ y → a ≡ b
same_label [] [] x y h k e = refl
same_label [] (c ∷ b) x y h k e =
    let first : c ≡ 32 = cc in
    no_test (is_of_label c) (and_left (is_of_label c) (all_of is_of_label b) k)
    (ap is_of_label first)
same_label (c ∷ a) [] x y h k e =
    let first : c ≡ 32 = cc in
    no_test (is_of_label c) (and_left (is_of_label c) (all_of is_of_label a) h)
    (ap is_of_label first)
same_label (c ∷ a) (g ∷ b) x y h k e =
    let first : c ≡ g = cc in
    let rest : a ++ 32 ∷ x ≡ b ++ 32 ∷ y = cc in
    ap₂ (λ p q. p ∷ q) first (same_label a b x y
    (and_right (is_of_label c) (all_of is_of_label a) h)
    (and_right (is_of_label g) (all_of is_of_label b) k) rest)

bytes_of : (label : List ℕ) → is_label label ≡ true → all_of is_of_label label ≡ true
bytes_of label h = and_right (begins_with is_ascii_lowercase label) (all_of is_of_label label) h

after_opening : (label rest : List ℕ) → opening label ++ rest ≡ 60 ∷ label ++ 32 ∷ rest
after_opening label rest = append_assoc (60 ∷ label) (32 ∷ []) rest

other_label : (label other k w : List ℕ) → is_label label ≡ true → is_label other ≡ true
    → (other ≡ label → ⊥) → name_length other (name label k ++ w) ≡ 0
other_label label other k w l o h = name_unopened other (name label k ++ w)
    (λ rest e. let all : 60 ∷ label ++ 32 ∷ (k ++ 62 ∷ w) ≡ 60 ∷ other ++ 32 ∷ rest =
    sym (after_opening label (k ++ 62 ∷ w)) ∙ sym (regrouped label k w) ∙ e
    ∙ after_opening other rest in
    let same : label ++ 32 ∷ (k ++ 62 ∷ w) ≡ other ++ 32 ∷ rest = cc in
    h (sym (same_label label other (k ++ 62 ∷ w) rest (bytes_of label l) (bytes_of other o) same)))

-- ---- the first form with the label

abbrev pub has_label : Option (List ℕ) → List ℕ → Bool
has_label None label = false
has_label (Some other) label = bytes_eq other label

abbrev pub first_with : Labels → List ℕ → List Form → Form
first_with labels label [] = Whole
first_with labels label (form ∷ forms) =
    cond (has_label (labels form) label) form (first_with labels label forms)

-- the form of a name with this label
abbrev pub form_with : Labels → List ℕ → Form
form_with labels label = first_with labels label all_forms

-- one of the forms has the label
data OneHas (labels : Labels) (label : List ℕ) : List Form → Type 0 where
  at : {form : Form} {forms : List Form} → labels form ≡ Some label
      → OneHas labels label (form ∷ forms)
  after : {form : Form} {forms : List Form} → OneHas labels label forms
      → OneHas labels label (form ∷ forms)

one_has : (labels : Labels) (label : List ℕ) (form : Form) → Scans form
    → labels form ≡ Some label → OneHas labels label all_forms
one_has labels label Whole i h = absurd i
one_has labels label Digits i h = at h
one_has labels label Hex i h = after (at h)
one_has labels label Long i h = after (after (at h))
one_has labels label Uuid i h = after (after (after (at h)))

label_has : (o : Option (List ℕ)) (label : List ℕ) → has_label o label ≡ true → o ≡ Some label
label_has None label h = absurd cc
label_has (Some other) label h = ap Some ((bytes_eq-Decides other label).0 h)

has_itself : (o : Option (List ℕ)) (label : List ℕ) → o ≡ Some label → has_label o label ≡ true
has_itself o label h = ap (λ x. has_label x label) h ∙ (bytes_eq-Decides label label).1 refl

module _ (labels : Labels) (l : AreLabels labels) (label k w : List ℕ) (i : is_label label ≡ true)
    (h : is_numeral k ≡ true) where
  abbrev written : List ℕ
  written = name label k ++ w

  -- no name with the label of this form starts here
  other_form : (form : Form) → has_label (labels form) label ≡ false → (other : List ℕ)
      → labels form ≡ Some other → name_length other written ≡ 0
  other_form form lacks other e = other_label label other k w i (l form other e)
      (λ same. no_test (has_label (labels form) label)
      (has_itself (labels form) label (e ∙ ap Some same)) lacks)

  read_whole : name_length label written ≡ length (name label k)
  read_whole = name_read label k w h

  first_name : (forms : List Form) → OneHas labels label forms
      → Found labels (name_counts written)
      (token_with (first_with labels label forms) label (length (name label k))) forms
  first_name [] x = elim x [ ]
  first_name (form ∷ forms) x = by_bool (has_label (labels form) label)
      (λ t. rw t (here refl (label_has (labels form) label t) read_whole
      (λ z. absurd (omega arith))))
      (λ t. rw t (later (other_form form t) (first_name forms (more_has form forms t x))))
    where
      more_has : (form : Form) (forms : List Form) → has_label (labels form) label ≡ false
          → OneHas labels label (form ∷ forms) → OneHas labels label forms
      more_has form forms t (at e) = no_test (has_label (labels form) label)
          (has_itself (labels form) label e) t
      more_has form forms t (after r) = r

  pub name_again : (d : Bool) (form : Form) → Scans form → labels form ≡ Some label
      → token_at labels d written
      ≡ Some (token_with (form_with labels label) label (length (name label k)))
  name_again d form s e = name_here labels d written
      (token_with (form_with labels label) label (length (name label k)))
      (first_name all_forms (one_has labels label form s e))

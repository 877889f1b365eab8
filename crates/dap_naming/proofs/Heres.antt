-- The labels that rules give to the forms of a value itself.
use Rattle.std.proofs.Common.{◌≡◌, ℕ, Bool, true, false, cond, ◌&&◌, List, [], ◌∷◌, Option}
use Rattle.std.proofs.Common.{Some, None, refl, sym, ap, ◌∙◌}
use Rattle.dap_tokens.specs.{Tokens.{Labels, is_label}, Models.{no_labels, same_form}}
use Rattle.dap_tokens.specs.Laws.{AreLabels}
use Rattle.dap_tokens.specs.Naming.{Numbering, ids, named}
use Rattle.dap_tokens.specs.declared.form.Form.{Form}
use Rattle.dap_tokens.proofs.NoLabels as without
use Rattle.dap_naming.specs.Documents.{Declared, here, is_here}
use Rattle.dap_naming.specs.DeclaredRules.{have_labels, IsLabel}
use Rattle.dap_naming.proofs.Lists.{first_of_both, second_of_both}

-- ---- the labels are valid

first_label : (b : Bool) (l label : List ℕ) (other : Option (List ℕ)) → is_label l ≡ true
    → (other ≡ Some label → is_label label ≡ true) → cond b (Some l) other ≡ Some label
    → is_label label ≡ true
first_label true l label other is more e =
    let same : l ≡ label = cc in
    ap is_label (sym same) ∙ is
first_label false l label other is more e = more e

pub labels_here : (rs : List Declared) → have_labels rs ≡ true → AreLabels (here rs)
labels_here [] h form label e = absurd cc
labels_here (r ∷ rs) h form label e =
    first_label (is_here r.place && same_form r.form form) r.label label (here rs form)
    (first_of_both _ _ h) (labels_here rs (second_of_both _ _ h) form label) e

option_is_label : (o : Option (List ℕ))
    → ((label : List ℕ) → o ≡ Some label → is_label label ≡ true) → IsLabel o
option_is_label None h = tt
option_is_label (Some label) h = h label refl

-- the label of a form is valid, if it has one
pub label_of_form : (labels : Labels) (form : Form) → AreLabels labels → IsLabel (labels form)
label_of_form labels form h = option_is_label (labels form) (h form)

-- ---- no rule is for the value

-- the first rule is not for the value itself
pub not_first : (r : Declared) (rs : List Declared) → is_here r.place ≡ false
    → here (r ∷ rs) ≡ here rs
not_first r rs not_here =
    ap (λ b form. cond (b && same_form r.form form) (Some r.label) (here rs form)) not_here

pub unnamed_string : (rs : List Declared) (number : Numbering) (s : List ℕ)
    → here rs ≡ no_labels → named (here rs) number s ≡ s
unnamed_string rs number s none =
    ap (λ labels. named labels number s) none ∙ (without.no_labels number s).0

pub no_ids_of_string : (rs : List Declared) (s : List ℕ)
    → here rs ≡ no_labels → ids (here rs) s ≡ []
no_ids_of_string rs s none =
    ap (λ labels. ids labels s) none ∙ (without.no_labels (λ label v. 1) s).1

pub no_label : (rs : List Declared) (form : Form) → here rs ≡ no_labels
    → here rs form ≡ None
no_label rs form none = ap (λ (labels : Labels). labels form) none

-- A token that is not an id is read in the written string too.
use Rattle.std.proofs.Common.{◌≡◌, ℕ, Bool, true, false, List, ◌∷◌, ◌++◌, length, drop, Some, sym}
use Rattle.std.proofs.Common.{ap, ◌∙◌, inl, inr, refl, arith}
use Rattle.std.proofs.lemmas.List.{drop_at}
use Rattle.dap_tokens.specs.Tokens.{Labels, token_at, tried, is_numeral, name, name_length}
use Rattle.dap_tokens.specs.Values.{value, is_nothing}
use Rattle.dap_tokens.specs.declared.form.Form.{Form}
use Rattle.dap_tokens.proofs.Booleans.{no_test}
use Rattle.dap_tokens.proofs.FirstTokens.{token_with, found_count, found_some, found_again}
use Rattle.dap_tokens.proofs.Names.{name_at, name_read}
use Rattle.dap_tokens.proofs.NameValues.{same_prefix, value_of_name, numeral_is_id}
use Rattle.dap_tokens.proofs.Starts.{name_counts, token_counts, all_forms, IsName, IsForm, token_of}
use Rattle.dap_tokens.proofs.Starts.{form_found, no_names, first_byte, scans, beside_uuids}
use Rattle.dap_tokens.proofs.Agrees.{Agree, has_uuids, begins_hexdigit, follows_stay}
use Rattle.dap_tokens.proofs.Literals.{no_token}
use Rattle.dap_tokens.proofs.TokensAgain.{token_again, token_ends}

-- a name as the first token
pub record NameFirst (label t : List ℕ) : Type 0 where
  pub number : List ℕ
  pub whole : t ≡ name label number
  pub numeral : is_numeral number ≡ true

pub name_first : (labels : Labels) (form : Form) (label t s : List ℕ)
    → IsName labels (t ++ s) (token_with form label (length t)) → NameFirst label t
name_first labels form label t s h =
    let first = token_with form label (length t) in
    let count = found_count labels (name_counts (t ++ s)) first all_forms h in
    let some = found_some labels (name_counts (t ++ s)) first all_forms h in
    let at = name_at label (t ++ s) (λ e. some (sym count ∙ e)) in
    let whole = name label at.number in
    let long = ap (name_length label) at.whole ∙ name_read label at.number at.rest at.numeral in
    record {
      number = at.number;
      whole = same_prefix t s whole at.rest at.whole (sym count ∙ long);
      numeral = at.numeral;
    }

pub nothing_named : (labels : Labels) (form : Form) (label t s : List ℕ)
    → is_nothing (value label form t) ≡ true
    → IsName labels (t ++ s) (token_with form label (length t)) → ⊥
nothing_named labels form label t s v h =
    let first = name_first labels form label t s h in
    no_test (is_nothing (value label form t)) v
    (ap (λ x. is_nothing (value label form x)) first.whole
    ∙ ap is_nothing (value_of_name label form first.number first.numeral)
    ∙ numeral_is_id first.number first.numeral)

-- what is not an id is a token of a form
pub nothing_form : (labels : Labels) (form : Form) (label : List ℕ) (d : Bool) (t s : List ℕ)
    → is_nothing (value label form t) ≡ true
    → token_at labels d (t ++ s) ≡ Some (token_with form label (length t))
    → IsForm labels d (t ++ s) (token_with form label (length t))
nothing_form labels form label d t s v h =
    elim (token_of labels d (t ++ s) (token_with form label (length t)) h) [
      | inl k ↦ absurd (nothing_named labels form label t s v k)
      | inr (n, k) ↦ k
    ]

-- beside UUIDs, no hexadecimal digit follows a token of a form
pub stay_ends : (labels : Labels) (form : Form) (label : List ℕ) (d : Bool) (b : ℕ) (t s : List ℕ)
    → IsForm labels d (b ∷ t ++ s) (token_with form label (length (b ∷ t)))
    → has_uuids labels ≡ true → begins_hexdigit (drop (length t) (t ++ s)) ≡ false
stay_ends labels form label d b t s h u =
    let first = token_with form label (length (b ∷ t)) in
    ap begins_hexdigit (drop_at t s (length t) refl)
    ∙ token_ends form d b t s (beside_uuids labels d (b ∷ t ++ s) first u h)
    (found_count labels (token_counts d (b ∷ t ++ s)) first (tried labels) h)

pub stays_token : (labels : Labels) (form : Form) (label : List ℕ) (d : Bool) {s w : List ℕ} (b : ℕ)
    (t : List ℕ) → Agree labels 0 false s w
    → IsForm labels d (b ∷ t ++ s) (token_with form label (length (b ∷ t)))
    → token_at labels d (b ∷ t ++ w) ≡ Some (token_with form label (length (b ∷ t)))
stays_token labels form label d {s} {w} b t a h =
    let first = token_with form label (length (b ∷ t)) in
    let follows = follows_stay {labels = labels} t (stay_ends labels form label d b t s h) a in
    let i = scans labels d (b ∷ t ++ s) first h in
    let count = found_count labels (token_counts d (b ∷ t ++ s)) first (tried labels) h in
    form_found labels d (b ∷ t ++ w) first
    (no_names labels b (t ++ w) (first_byte form d b (t ++ s) i (λ z. absurd (omega arith))))
    (found_again labels (token_counts d (b ∷ t ++ s)) (token_counts d (b ∷ t ++ w)) first
    (tried labels) (λ f l e z. no_token labels f l d b e follows z)
    (λ e. token_again form d b t i a e) h)

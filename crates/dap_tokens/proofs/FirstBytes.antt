-- Only names start with `<`.
use Rattle.std.proofs.Common.{◌≡◌, ℕ, ◌==◌, Bool, true, false, List, [], ◌∷◌, None, is_some, ap}
use Rattle.std.proofs.lemmas.Bool.{eqb-true}
use Rattle.dap_words.specs.Runs.{begins_with}
use Rattle.dap_tokens.specs.Tokens.{Labels, token_at, tried, first_token, name_length, token_length}
use Rattle.dap_tokens.specs.declared.form.Form.{Form}
use Rattle.dap_tokens.specs.declared.form.Form.TheVariants.{Uuid}
use Rattle.dap_tokens.proofs.Booleans.{by_bool, no_test, not_true}
use Rattle.dap_tokens.proofs.FirstTokens.{AllSkipped, Each, first_skipped, none, more}
use Rattle.dap_tokens.proofs.Names.{name_unopened}
use Rattle.dap_tokens.proofs.Starts.{name_counts, token_counts, all_forms, NoNames, Scans, scans_in}
use Rattle.dap_tokens.proofs.Starts.{first_byte}

abbrev pub opens : List ℕ → Bool
opens s = begins_with (λ b. b == 60) s

names_skipped : (labels : Labels) (s : List ℕ) → opens s ≡ false → NoNames labels s
names_skipped labels s h = more (λ label e. skip label) (more (λ label e. skip label)
    (more (λ label e. skip label) (more (λ label e. skip label) none)))
  where
    skip : (label : List ℕ) → name_length label s ≡ 0
    skip label = name_unopened label s (λ rest e. no_test (opens s) (ap opens e) h)

no_form : (form : Form) (d : Bool) (s : List ℕ) → Scans form → opens s ≡ true
    → token_length form d s ≡ 0
no_form form d [] i h = absurd cc
no_form form d (b ∷ u) i h = by_bool (token_length form d (b ∷ u) == 0)
    (λ k. eqb-true (token_length form d (b ∷ u)) 0 k)
    (λ k. no_test (b == 60) h (not_true (b == 60)
    (first_byte form d b u i
    (λ e. no_test (token_length form d (b ∷ u) == 0) (ap (λ n. n == 0) e) k))))

forms_skipped : (labels : Labels) (d : Bool) (s : List ℕ) (forms : List Form) → Each Scans forms
    → opens s ≡ true → AllSkipped labels (token_counts d s) forms
forms_skipped labels d s [] i h = none
forms_skipped labels d s (form ∷ forms) i h =
    more (λ label e. no_form form d s i.0 h) (forms_skipped labels d s forms i.1 h)

pub opened_at : (labels : Labels) (d : Bool) (s : List ℕ) → opens s ≡ true
    → token_at labels d s ≡ first_token labels (name_counts s) all_forms None
opened_at labels d s h = ap (first_token labels (name_counts s) all_forms)
    (first_skipped labels (token_counts d s) (tried labels) None
    (forms_skipped labels d s (tried labels) (scans_in (is_some (labels Uuid))) h))

pub unopened_at : (labels : Labels) (d : Bool) (s : List ℕ) → opens s ≡ false
    → token_at labels d s ≡ first_token labels (token_counts d s) (tried labels) None
unopened_at labels d s h = first_skipped labels (name_counts s) all_forms
    (first_token labels (token_counts d s) (tried labels) None) (names_skipped labels s h)

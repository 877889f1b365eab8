-- The forms in the order in which the code tries them.
use Rattle.std.proofs.Common.{◌≡◌, ℕ, ◌==◌, cond, List, [], ◌∷◌, Option, Some, None, refl, sym, ◌∙◌}
use Rattle.std.proofs.Common.{is_some}
use Rattle.dap_tokens.specs.Tokens.{Labels, Token, token_or, first_token, tried}
use Rattle.dap_tokens.specs.declared.form.Form.{Form}
use Rattle.dap_tokens.specs.declared.form.Form.TheVariants.{Digits, Hex, Long, Uuid}
use Rattle.dap_tokens.proofs.Booleans.{by_bool}

pub or_none_then : (form : Form) (o : Option (List ℕ)) (count : List ℕ → ℕ) (other : Option Token)
    → None ≡ token_or form o count None → token_or form o count other ≡ other
or_none_then form None count other e = refl
or_none_then form (Some label) count other e = by_bool (count label == 0)
    (λ k. rw k refl) (λ k. let no = rw k at e in absurd cc)

pub or_some_then : (form : Form) (o : Option (List ℕ)) (count : List ℕ → ℕ) (other : Option Token)
    (t : Token) → Some t ≡ token_or form o count None → token_or form o count other ≡ Some t
or_some_then form None count other t e = absurd cc
or_some_then form (Some label) count other t e = by_bool (count label == 0)
    (λ k. let no = rw k at e in absurd cc) (λ k. let same = rw k at e in rw k cc)

module _ (labels : Labels) (count : Form → List ℕ → ℕ) where
  abbrev first_of : Form → Option Token → Option Token
  first_of form other = token_or form (labels form) (count form) other

  order : (o : Option (List ℕ)) → first_token labels count (cond (is_some o)
      (Uuid ∷ Hex ∷ Long ∷ []) (Hex ∷ Long ∷ Digits ∷ [])) None
      ≡ cond (is_some o) (first_of Uuid (first_of Hex (first_of Long None)))
      (first_of Hex (first_of Long (first_of Digits None)))
  order None = refl
  order (Some label) = refl

  pub order_is : first_token labels count (tried labels) None
      ≡ cond (is_some (labels Uuid)) (first_of Uuid (first_of Hex (first_of Long None)))
      (first_of Hex (first_of Long (first_of Digits None)))
  order_is = order (labels Uuid)

  -- the first two forms have no token, and the third one has this token
  pub third_found : (t : Token) → None ≡ first_of Uuid None → None ≡ first_of Hex None
      → Some t ≡ first_of Long None → Some t ≡ first_token labels count (tried labels) None
  third_found t none also some = sym (order_is ∙ by_bool (is_some (labels Uuid))
      (λ k. rw k (or_none_then Uuid (labels Uuid) (count Uuid) (first_of Hex (first_of Long None))
      none ∙ then_long None))
      (λ k. rw k (then_long (first_of Digits None))))
    where
      then_long : (other : Option Token) → first_of Hex (first_of Long other) ≡ Some t
      then_long other =
          or_none_then Hex (labels Hex) (count Hex) (first_of Long other) also
          ∙ or_some_then Long (labels Long) (count Long) other t some

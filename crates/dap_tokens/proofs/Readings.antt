-- The reading of a string as a relation.
use Rattle.std.proofs.Common.{◌≡◌, ℕ, zero, suc, ◌-◌, Bool, false, List, [], ◌∷◌, ◌++◌, length}
use Rattle.std.proofs.Common.{take, drop, Option, Some, None, refl, sym, ap, ap₂, ◌∙◌, subst, arith}
use Rattle.std.proofs.lemmas.List.{take-append-drop, take_at, length-take-le}
use Rattle.std.specs.Char.{is_ascii_hexdigit}
use Rattle.dap_tokens.specs.Tokens.{Labels, Token, token_at, Part, literal, token, parts_from}
use Rattle.dap_tokens.specs.Tokens.{first_part, left_inside, is_literal_digit}
use Rattle.dap_tokens.specs.declared.form.Form.{Form}
use Rattle.dap_tokens.proofs.FirstTokens.{token_with}
use Rattle.dap_tokens.proofs.Starts.{count_some, count_within}

-- the parts of a string; the Bool is true if a literal hexadecimal digit comes before
pub data Read (labels : Labels) : Bool → List ℕ → List Part → Type 0 where
  ended : {d : Bool} → Read labels d [] []
  byte : {d : Bool} {b : ℕ} {s : List ℕ} {ps : List Part} → token_at labels d (b ∷ s) ≡ None
      → Read labels (is_ascii_hexdigit b) s ps → Read labels d (b ∷ s) (literal b ∷ ps)
  found : {d : Bool} {u s : List ℕ} {ps : List Part} → (form : Form) → (label : List ℕ) → (b : ℕ)
      → (t : List ℕ) → u ≡ b ∷ t ++ s
      → token_at labels d u ≡ Some (token_with form label (length (b ∷ t)))
      → Read labels false s ps → Read labels d u (token form label (b ∷ t) ∷ ps)

module _ (labels : Labels) where
  abbrev read_of : ℕ → Bool → List ℕ → List Part
  read_of n d s = parts_from labels n d s

  -- the parts after this first token
  abbrev read_with : Option Token → ℕ → List ℕ → List Part
  read_with t b s = first_part t b s ∷ read_of (left_inside t) (is_literal_digit t b) s

  pub of_byte : (d : Bool) (b : ℕ) (s : List ℕ) → token_at labels d (b ∷ s) ≡ None
      → read_of 0 d (b ∷ s) ≡ literal b ∷ read_of 0 (is_ascii_hexdigit b) s
  of_byte d b s e = ap (λ t. read_with t b s) e

  pub of_token : (d : Bool) (b : ℕ) (s : List ℕ) (t : Token) (m : ℕ)
      → token_at labels d (b ∷ s) ≡ Some t → t.count ≡ suc m
      → read_of 0 d (b ∷ s) ≡ token t.form t.label (b ∷ take m s) ∷ read_of m false s
  of_token d b s t m e n =
      let less : suc m - 1 ≡ m = omega arith in
      ap (λ x. read_with x b s) e
      ∙ ap (λ c. token t.form t.label (take c (b ∷ s)) ∷ read_of (c - 1) false s) n
      ∙ ap (λ c. token t.form t.label (b ∷ take m s) ∷ read_of c false s) less

  -- ---- the parts are read

  abbrev flag : ℕ → Bool → Bool
  flag zero d = d
  flag (suc n) d = false

  flag_false : (n : ℕ) → flag n false ≡ false
  flag_false zero = refl
  flag_false (suc n) = refl

  read_after : (n : ℕ) (s : List ℕ) → Read labels (flag n false) (drop n s) (read_of n false s)
      → Read labels false (drop n s) (read_of n false s)
  read_after n s r = subst (λ f. Read labels f (drop n s) (read_of n false s)) (flag_false n) r

  read_token : (d : Bool) (b : ℕ) (s : List ℕ) (t : Token) → token_at labels d (b ∷ s) ≡ Some t
      → ((n : ℕ) → Read labels false (drop n s) (read_of n false s))
      → Read labels d (b ∷ s) (read_of 0 d (b ∷ s))
  read_token d b s t e r =
      let m = t.count - 1 in
      let bound = count_within labels d (b ∷ s) t e in
      let some = count_some labels d (b ∷ s) t e in
      let more : t.count ≡ suc m = omega (arith, some) in
      let taken : length (take m s) ≡ m = omega (arith, length-take-le m s (omega arith)) in
      subst (Read labels d (b ∷ s)) (sym (of_token d b s t m e more))
      (found t.form t.label b (take m s) (ap (λ x. b ∷ x) (sym (take-append-drop m s)))
      (e ∙ ap (λ n. Some (token_with t.form t.label n)) (more ∙ ap suc (sym taken))) (r m))

  read_first : (d : Bool) (b : ℕ) (s : List ℕ) (o : Option Token) → token_at labels d (b ∷ s) ≡ o
      → Read labels (is_ascii_hexdigit b) s (read_of 0 (is_ascii_hexdigit b) s)
      → ((n : ℕ) → Read labels false (drop n s) (read_of n false s))
      → Read labels d (b ∷ s) (read_of 0 d (b ∷ s))
  read_first d b s None e r f =
      subst (Read labels d (b ∷ s)) (sym (of_byte d b s e)) (byte e r)
  read_first d b s (Some t) e r f = read_token d b s t e f

  read_from : (s : List ℕ) (n : ℕ) (d : Bool)
      → Read labels (flag n d) (drop n s) (read_of n d s)
  read_from [] zero d = ended
  read_from [] (suc n) d = ended
  read_from (b ∷ s) (suc n) d = read_after n s (read_from s n false)
  read_from (b ∷ s) zero d = read_first d b s (token_at labels d (b ∷ s)) refl
      (read_from s 0 (is_ascii_hexdigit b)) (λ n. read_after n s (read_from s n false))

  pub parts_are_read : (d : Bool) (s : List ℕ) → Read labels d s (parts_from labels 0 d s)
  parts_are_read d s = read_from s 0 d

  -- ---- and nothing else is

  skipped : (t s : List ℕ) → read_of (length t) false (t ++ s) ≡ read_of 0 false s
  skipped [] s = refl
  skipped (b ∷ t) s = skipped t s

  pub read_is : {d : Bool} {s : List ℕ} {ps : List Part} → Read labels d s ps
      → parts_from labels 0 d s ≡ ps
  read_is ended = refl
  read_is (byte {d} {b} {s} {ps} h r) = of_byte d b s h ∙ ap (λ x. literal b ∷ x) (read_is r)
  read_is (found {d} {u} {s} {ps} form label b t e h r) =
      ap (read_of 0 d) e
      ∙ of_token d b (t ++ s) (token_with form label (length (b ∷ t))) (length t)
      (ap (token_at labels d) (sym e) ∙ h) refl
      ∙ ap₂ (λ x y. token form label (b ∷ x) ∷ y) (take_at t s (length t) refl)
      (skipped t s ∙ read_is r)

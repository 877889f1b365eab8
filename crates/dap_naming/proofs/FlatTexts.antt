-- Texts without tokens.
use Rattle.std.proofs.Common.{◌≡◌, ◌∙◌, ℕ, ◌==◌, Bool, true, false, ◌||◌, ◌&&◌, Option, Some}
use Rattle.std.proofs.Common.{None, is_some, List, [], ◌∷◌, refl, sym, ap, subst}
use Rattle.std.specs.Char.{is_ascii_hexdigit}
use Rattle.dap_tokens.specs.Naming.{Numbering, ids, ids_of_parts, named, named_parts}
use Rattle.dap_tokens.specs.Tokens.{Labels, literal, parts, parts_from, starts_hex}
use Rattle.dap_tokens.specs.Tokens.{token_length, tried, whole_or}
use Rattle.dap_tokens.specs.Models.{no_labels}
use Rattle.dap_tokens.specs.declared.form.Form.{Form}
use Rattle.dap_tokens.specs.declared.form.Form.TheVariants.{Whole, Digits, Hex, Long, Uuid}
use Rattle.dap_tokens.proofs.Booleans.{by_bool, or_left, or_right, not_false}
use Rattle.dap_tokens.proofs.FirstTokens.{AllSkipped, none, more, Each}
use Rattle.dap_tokens.proofs.Readings.{of_byte}
use Rattle.dap_tokens.proofs.Starts.{Scans, token_counts, no_names, nothing_at, scans_in}
use Rattle.dap_naming.specs.Flat.{has_others, is_sign, may_have_hex, may_have_tokens, NamesWithin}
use Rattle.dap_naming.specs.declared.value_numbers.ValueNumbers.{ValueNumbers}
use Rattle.dap_naming.proofs.FlatNames.{within_none}
use Rattle.dap_naming.proofs.Unlabelled.{no_string_ids, same_string}

-- ---- no hexadecimal number starts here

no_start : (z : Bool) (b : ℕ) (s : List ℕ) → may_have_hex z (b ∷ s) ≡ false → (b == 60) ≡ false
no_start z b s h = or_left (b == 60) _ (or_left (is_sign z b) _ h)

no_hex : (b : ℕ) (s : List ℕ) → may_have_hex (b == 48) s ≡ false → starts_hex (b ∷ s) ≡ false
no_hex b [] h = by_bool (b == 48) (λ is. rw is refl) (λ is. rw is refl)
no_hex b (x ∷ []) h = by_bool (b == 48) (λ is. rw is refl) (λ is. rw is refl)
no_hex b (x ∷ y ∷ s) h =
    let sign : is_sign (b == 48) x ≡ false = or_left _ (may_have_hex (x == 48) (y ∷ s)) h in
    let later : ((b == 48) && ((x == 120) || (x == 88))) ≡ false = or_right (x == 60) _ sign in
    by_bool (b == 48) (λ is. after_zero is (rw is at later)) (λ is. rw is refl)
  where
    after_zero : (b == 48) ≡ true → ((x == 120) || (x == 88)) ≡ false
        → starts_hex (b ∷ x ∷ y ∷ s) ≡ false
    after_zero is other =
        let small : (x == 120) ≡ false = or_left _ _ other in
        let large : (x == 88) ≡ false = or_right (x == 120) _ other in
        rw (is, small, large) refl

hex_skipped : (d : Bool) (s : List ℕ) → starts_hex s ≡ false → token_length Hex d s ≡ 0
hex_skipped true s h = refl
hex_skipped false s h = rw h refl

-- ---- no other form has a label

unlabelled : {P : Type 0} → (o : Option (List ℕ)) (label : List ℕ) → is_some o ≡ false
    → o ≡ Some label → P
unlabelled None label h e = cc
unlabelled (Some l) label h e = cc

module _ (labels : Labels) (h : has_others labels ≡ false) where
  not_whole : labels Whole ≡ None
  not_whole = of (labels Whole) (or_left (is_some (labels Whole)) _ h)
    where
      of : (o : Option (List ℕ)) → is_some o ≡ false → o ≡ None
      of None k = refl
      of (Some l) k = cc

  not_others : (is_some (labels Digits) || (is_some (labels Long) || is_some (labels Uuid)))
      ≡ false
  not_others = or_right (is_some (labels Whole)) _ h

  not_hexes : (is_some (labels Long) || is_some (labels Uuid)) ≡ false
  not_hexes = or_right (is_some (labels Digits)) _ not_others

  no_token : (form : Form) (d z : Bool) (b : ℕ) (s label : List ℕ)
      → may_have_hex z (b ∷ s) ≡ false → Scans form → labels form ≡ Some label
      → token_length form d (b ∷ s) ≡ 0
  no_token Whole d z b s label k i e = absurd i
  no_token Digits d z b s label k i e =
      unlabelled (labels Digits) label (or_left (is_some (labels Digits)) _ not_others) e
  no_token Hex d z b s label k i e =
      hex_skipped d (b ∷ s) (no_hex b s (or_right (is_sign z b) _ k))
  no_token Long d z b s label k i e =
      unlabelled (labels Long) label (or_left (is_some (labels Long)) _ not_hexes) e
  no_token Uuid d z b s label k i e =
      unlabelled (labels Uuid) label (or_right (is_some (labels Long)) _ not_hexes) e

  all_skipped : (forms : List Form) (d z : Bool) (b : ℕ) (s : List ℕ)
      → may_have_hex z (b ∷ s) ≡ false → Each Scans forms
      → AllSkipped labels (token_counts d (b ∷ s)) forms
  all_skipped [] d z b s k i = none
  all_skipped (form ∷ forms) d z b s k i =
      more (λ label e. no_token form d z b s label k i.0 e) (all_skipped forms d z b s k i.1)

  -- the parts are literal bytes
  read_literal : (d z : Bool) (b : ℕ) (s : List ℕ) → may_have_hex z (b ∷ s) ≡ false
      → parts_from labels 0 d (b ∷ s) ≡ literal b ∷ parts_from labels 0 (is_ascii_hexdigit b) s
  read_literal d z b s k =
      of_byte labels d b s
      (nothing_at labels d (b ∷ s) (no_names labels b s (not_false (b == 60) (no_start z b s k)))
      (all_skipped (tried labels) d z b s k (scans_in (is_some (labels Uuid)))))

  no_ids : (d z : Bool) (s : List ℕ) → may_have_hex z s ≡ false
      → ids_of_parts (parts_from labels 0 d s) ≡ []
  no_ids d z [] k = refl
  no_ids d z (b ∷ s) k =
      ap ids_of_parts (read_literal d z b s k)
      ∙ no_ids (is_ascii_hexdigit b) (b == 48) s (or_right (is_sign z b) _ k)

  same_text : (number : Numbering) (d z : Bool) (s : List ℕ) → may_have_hex z s ≡ false
      → named_parts number (parts_from labels 0 d s) ≡ s
  same_text number d z [] k = refl
  same_text number d z (b ∷ s) k =
      ap (named_parts number) (read_literal d z b s k)
      ∙ ap (λ t. b ∷ t)
      (same_text number (is_ascii_hexdigit b) (b == 48) s (or_right (is_sign z b) _ k))

  -- the string is not one token
  in_parts : (s : List ℕ) → parts labels s ≡ parts_from labels 0 false s
  in_parts s = ap (λ o. whole_or o s (parts_from labels 0 false s)) not_whole

-- ---- the whole text

within_same : (labels : Labels) (a : ValueNumbers) (s : List ℕ) → ids labels s ≡ []
    → ((n : Numbering) → named labels n s ≡ s)
    → NamesWithin a a (ids labels s) (λ n. s ≡ named labels n s)
within_same labels a s none_are same =
    subst (λ js. NamesWithin a a js (λ n. s ≡ named labels n s)) (sym none_are)
    (within_none a (λ n. s ≡ named labels n s) (λ n. sym (same n)))

pub no_tokens : (labels : Labels) (a : ValueNumbers) (s : List ℕ)
    → may_have_tokens labels s ≡ false
    → NamesWithin a a (ids labels s) (λ n. s ≡ named labels n s)
no_tokens labels a s k =
    let others : has_others labels ≡ false = or_left (has_others labels) _ k in
    let hex : may_have_hex false s ≡ false = or_right (has_others labels) _ k in
    let is = in_parts labels others s in
    within_same labels a s (ap ids_of_parts is ∙ no_ids labels others false false s hex)
    (λ n. ap (named_parts n) is ∙ same_text labels others n false false s hex)

pub no_labels_within : (labels : Labels) (a : ValueNumbers) (s : List ℕ) → labels ≡ no_labels
    → NamesWithin a a (ids labels s) (λ n. s ≡ named labels n s)
no_labels_within labels a s e =
    within_same labels a s (no_string_ids labels e s) (λ n. same_string labels e n s)
